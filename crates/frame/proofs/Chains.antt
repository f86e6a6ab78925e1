-- Chains go on, back, and over to another relation; so do units, potential units and their adjacency. Assumes nothing.
use Prim.Native.Nat.{ℕ}
use mathlib.Core.Path.{◌≡◌}
use mathlib.Core.Logic.{inl, inr, ◌≢◌}
use native.Mathlib.Omega.{arith}
use Rattle.frame.specs.Frame.{Relation, States, Symmetric, Chain, here, on, Link, SameUnit, SamePotential, Adjacent}

pub chain_then : {R : ℕ → ℕ → Type 0} {a b c : ℕ} → Chain R a b → Chain R b c → Chain R a c
chain_then j here = j
chain_then j (on k r) = on (chain_then j k) r

pub chain_back : {R : ℕ → ℕ → Type 0} → ((a b : ℕ) → R a b → R b a) → {a b : ℕ} → Chain R a b → Chain R b a
chain_back s here = here
chain_back s (on {a} {b} {c} j r) = chain_then (on here (s b c r)) (chain_back s j)

pub chain_map : {R Q : ℕ → ℕ → Type 0} → ((a b : ℕ) → R a b → Q a b) → {a b : ℕ} → Chain R a b → Chain Q a b
chain_map f here = here
chain_map f (on {a} {b} {c} j r) = on (chain_map f j) (f b c r)

module _ (Nb : Relation) (symmetric : Symmetric Nb) where
  pub link_back : (Q : ℕ → Type 0) {a b : ℕ} → Chain (Link Nb Q) a b → Chain (Link Nb Q) b a
  link_back Q j = chain_back {R = Link Nb Q} (λ a b r. (r.0, symmetric a b r.0 r.1, r.2)) j

  module _ (s : States) where
    pub unit_back : {a b : ℕ} → SameUnit Nb s a b → SameUnit Nb s b a
    unit_back j = link_back (λ e. s e ≡ 1) j

    pub potential_back : {a b : ℕ} → SamePotential Nb s a b → SamePotential Nb s b a
    potential_back j = link_back (λ e. s e ≢ 2) j

    -- a unit lies in one potential unit
    pub unit_potential : {a b : ℕ} → SameUnit Nb s a b → SamePotential Nb s a b
    unit_potential j = chain_map {R = Link Nb (λ e. s e ≡ 1)} {Q = Link Nb (λ e. s e ≢ 2)} (λ a b r. (r.0, r.1, omega (arith, r.2))) j

    -- adjacency is a matter of potential units
    pub adjacent_then : {f g k : ℕ} → Adjacent Nb s f g → SamePotential Nb s g k → Adjacent Nb s f k
    adjacent_then (inl j) m = inl (chain_then j m)
    adjacent_then (inr p) m =
        inr (record { near = p.near; far = p.far; wall = p.wall; near_in = p.near_in; between = p.between; is_wall = p.is_wall; far_in = chain_then p.far_in m })

    pub then_adjacent : {f g k : ℕ} → SamePotential Nb s k f → Adjacent Nb s f g → Adjacent Nb s k g
    then_adjacent m (inl j) = inl (chain_then m j)
    then_adjacent m (inr p) =
        inr (record { near = p.near; far = p.far; wall = p.wall; near_in = chain_then m p.near_in; between = p.between; is_wall = p.is_wall; far_in = p.far_in })
