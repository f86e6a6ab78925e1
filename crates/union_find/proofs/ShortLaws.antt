-- The shortened chain (SPEC 4.13): the vertices on it, and no other, get another parent. Assumes nothing.
use Prim.Native.Nat.{ℕ, zero, suc, ◌<◌}
use mathlib.Core.Path.{◌≡◌, refl, sym, ◌∙◌}
use mathlib.Core.Logic.{◌≢◌, ⊎_elim}
use mathlib.Core.List.{List}
use lib.ListN.{length}
use lib.Seq.{get_or-set_same, get_or-set_other}
use Rattle.lists.proofs.Cases.{eq_or_ne}
use Rattle.union_find.specs.Chains.{up, climb, shortened}
use Rattle.union_find.proofs.ChainLaws.{climb_root, length_shortened}

-- v is x or stands above it
abbrev pub OnChain : List ℕ → ℕ → ℕ → Type 0
OnChain p x v = (e : ℕ) × (climb e p x ≡ v)

chain_up : (p : List ℕ) (x v : ℕ) → v ≢ x → OnChain p x v → OnChain p (up p x) v
unfolding climb
chain_up p x v z (zero, q) = absurd (z (sym q))
chain_up p x v z (suc e, q) = (e, q)

-- where d steps lead to the root
pub names_root : (d : ℕ) (p : List ℕ) (x : ℕ) → up p (climb d p x) ≡ climb d p x → (v : ℕ) → v < length p → OnChain p x v
    → up (shortened d p x) v ≡ climb d p x
unfolding climb shortened
names_root zero p x r v l o = let q : v ≡ x = sym o.1 ∙ climb_root o.0 p x r in rw q r
names_root (suc d) p x r v l o =
    ⊎_elim
    (λ (q : v ≡ x).
    rw q (get_or-set_same (shortened d p (up p x)) x (climb (suc d) p x) 0 (rw (length_shortened d p (up p x), ← q) l)))
    (λ (z : v ≢ x).
    get_or-set_other (shortened d p (up p x)) x v (climb (suc d) p x) 0 z ∙ names_root d p (up p x) r v l (chain_up p x v z o))
    (eq_or_ne v x)

pub others_stay : (d : ℕ) (p : List ℕ) (x v : ℕ) → (OnChain p x v → ⊥) → up (shortened d p x) v ≡ up p v
unfolding climb shortened
others_stay zero p x v o = refl
others_stay (suc d) p x v o =
    get_or-set_other (shortened d p (up p x)) x v (climb (suc d) p x) 0 (λ (q : v ≡ x). o (0, sym q))
    ∙ others_stay d p (up p x) v (λ k. o (suc k.0, k.1))
