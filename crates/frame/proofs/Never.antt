-- A fault's list never stands where the unit has a good offset. The reason: on a board S where the list stands, a good offset puts the
-- whole unit into one potential unit of S, which the listed Walls keep inside one of s; so the offset was tried on s, and failed. Assumes nothing.
use Prim.Native.Nat.{ℕ}
use mathlib.Core.Path.{◌≡◌}
use mathlib.Core.Logic.{inl, inr, ◌≢◌, ⊎_elim}
use Rattle.lists.proofs.Cases.{eq_or_ne}
use Rattle.frame.specs.Frame.{Relation, States, Symmetric, here, on, SameUnit, SamePotential, Adjacent}
use Rattle.frame.proofs.Offset.{Placement, Tried, Good, Fails, Reason}
use Rattle.frame.proofs.Chains.{chain_then, unit_back, potential_back, unit_potential, adjacent_then, then_adjacent}

module _ (Nb : Relation) (symmetric : Symmetric Nb) where
  -- a good offset of a unit is told by any of its cells, and by any relation that says the same
  pub good_move : (s : States) (f g : ℕ) (T T' : ℕ → ℕ → Type 0) → SameUnit Nb s f g → ((a x : ℕ) → T a x → T' a x) → ((a x : ℕ) → T' a x → T a x)
      → Good Nb s f T → Good Nb s g T'
  good_move s f g T T' j to from k =
      let m = k.tried.meets in
      record {
        tried = record {
          falls = λ a i. let x = k.tried.falls a (chain_then j i) in (x.0, to a x.0 x.1, λ z. x.2 (chain_then j z));
          meets = (
            m.0,
            m.1,
            chain_then (unit_back Nb symmetric s j) m.2,
            to m.0 m.1 m.3,
            then_adjacent Nb symmetric s (unit_potential Nb symmetric s (unit_back Nb symmetric s j)) m.4,
          );
        };
        joins = λ a b x y e e' ja jb n ta tb n'. k.joins a b x y e e' (chain_then j ja) (chain_then j jb) n (from a x ta) (from b y tb) n';
        parts = λ a x y e' ja ta n' q. let o = k.parts a x y e' (chain_then j ja) (from a x ta) n' q in (o.0, o.1, to o.0 y o.2, o.3, o.4);
      }

  module _ (s S : States) (f : ℕ) (r : Reason Nb s S f) where
    -- the unit stays one
    unit_stays : {a : ℕ} → SameUnit Nb s f a → SameUnit Nb S f a
    unit_stays here = here
    unit_stays (on {b = a} {c = b} j l) = on (unit_stays j) (l.0, l.1, r.joins a b l.0 j l.1 l.2)

    -- an adjacent potential unit does not grow
    held : (g : ℕ) {a : ℕ} → Adjacent Nb s f g → SamePotential Nb S g a → SamePotential Nb s g a
    held g q here = here
    held g q (on {b = a} {c = b} j l) =
        ⊎_elim
        (λ (w : s l.0 ≡ 2). ⊎_elim (λ m. m) (λ (z : S l.0 ≡ 2). absurd (l.2 z)) (r.bounds g a b l.0 q (held g q j) l.1 w))
        (λ (z : s l.0 ≢ 2). on (held g q j) (l.0, l.1, z))
        (eq_or_ne (s l.0) 2)

    -- nor are there more of them
    adjacent_held : (g : ℕ) → Adjacent Nb S f g → Adjacent Nb s f g
    adjacent_held g (inl j) = inl (held f (inl here) j)
    adjacent_held g (inr p) =
        let near : SamePotential Nb s f p.near = held f (inl here) p.near_in in
        let far : Adjacent Nb s f p.far =
        ⊎_elim
        (λ (w : s p.wall ≡ 2). inr (record { near = p.near; far = p.far; wall = p.wall; near_in = near; between = p.between; is_wall = w; far_in = here }))
        (λ (z : s p.wall ≢ 2). inl (on near (p.wall, p.between, z)))
        (eq_or_ne (s p.wall) 2) in
        adjacent_then Nb symmetric s far (held p.far far p.far_in)

    module _ (T : ℕ → ℕ → Type 0) (placed : Placement Nb T) (good : Good Nb S f T) where
      -- all that the unit falls on is one potential unit
      image : (x₀ : ℕ) → T f x₀ → {a : ℕ} → SameUnit Nb S f a → (x : ℕ) → T a x → SamePotential Nb S x₀ x
      image x₀ t here x t' = rw (placed.one f x₀ x t t') here
      image x₀ t (on {b = a} {c = b} j l) x t' =
          let y = good.tried.falls a j in
          let n = placed.keeps a b y.0 x l.0 y.1 t' l.1 in
          on (image x₀ t j y.0 y.1) (n.0, n.1, good.joins a b y.0 x l.0 n.0 j (on j l) l.1 y.1 t' n.1)

      -- so the offset was tried on s
      was_tried : Tried Nb s f T
      was_tried =
          let x₀ = good.tried.falls f here in
          let m = good.tried.meets in
          let met : Adjacent Nb S f x₀.0 = adjacent_then Nb symmetric S m.4 (potential_back Nb symmetric S (image x₀.0 x₀.1 m.2 m.1 m.3)) in
          record {
            falls = λ a j. let x = good.tried.falls a (unit_stays j) in (x.0, x.1, λ k. x.2 (unit_stays k));
            meets = (f, x₀.0, here, x₀.1, adjacent_held x₀.0 met);
          }

      -- and what failed there fails here
      no_fail : Fails Nb s S f T → ⊥
      no_fail (inl k) =
          good.joins k.a k.b k.x k.y k.e k.e' (unit_stays k.in_a) (unit_stays k.in_b) k.inner k.puts_a k.puts_b k.lands k.is_wall
      no_fail (inr k) =
          let q = good.parts k.a k.x k.y k.e' (unit_stays k.in_a) k.puts_a k.lands k.is_connected in
          q.4 (r.walls k.a q.0 q.1 k.in_a q.3 (k.shut q.0 q.1 q.2 q.3))

      -- THE LAW: an offset that fails on s where it is tried, by a landing that stands on S, is good on no S on which the reason stands.
      pub never_good : (Tried Nb s f T → Fails Nb s S f T) → ⊥
      never_good fails = no_fail (fails was_tried)
