-- Decisions that name no border twice and have the same members leave the same borders standing, whatever their order (SPEC 1.6). Assumes nothing.
use Prim.Native.Nat.{ℕ, ◌≤◌, ◌<◌}
use mathlib.Core.Path.{◌≡◌, refl, ap, sym, ◌∙◌}
use mathlib.Core.Logic.{inl, inr, ◌≢◌, ⊎_elim}
use mathlib.Core.Bool.{Bool}
use mathlib.Core.List.{List, [], ◌∷◌}
use native.Mathlib.Omega.{arith}
use borrow.Author.Tests.{eq-eqb, ne_eqb}
use Rattle.lists.specs.Lists.{In, count}
use Rattle.lists.proofs.Cases.{le_or_lt, eq_or_ne}
use Rattle.ledger.specs.Ledger.{Decision, state_for, state_in, standing, borders}
use Rattle.ledger.proofs.Standing.{Sound, not_named, standing_same}

-- a border that is named is named by some decision
named_by : (l : List Decision) (e : ℕ) → 1 ≤ count e (borders l) → (d : Decision) × In d l × (d.border ≡ e)
unfolding count
named_by [] e h = absurd (let z : 1 ≤ 0 = h in omega arith)
named_by (d ∷ l) e h =
    ⊎_elim
    (λ (q : d.border ≡ e). (d, inl refl, q))
    (λ (q : d.border ≢ e).
    let t = ne_eqb d.border e q in
    let o = named_by l e (omega (arith, (rw t at h))) in
    (o.0, inr o.1, o.2))
    (eq_or_ne d.border e)

counted : (l : List Decision) (d : Decision) → In d l → 1 ≤ count d.border (borders l)
unfolding count
counted [] d m = absurd m
counted (x ∷ l) d (inl q) = let t = eq-eqb x.border d.border (ap (λ (y : Decision). y.border) (sym q)) in rw t (omega arith)
counted (x ∷ l) d (inr m) = omega (arith, counted l d m)

-- a decision's border has its value
valued : (l : List Decision) (d : Decision) → In d l → count d.border (borders l) ≤ 1 → state_in l d.border ≡ state_for d.wall
unfolding count state_in
valued [] d m h = absurd m
valued (x ∷ l) d (inl q) h = rw (eq-eqb x.border d.border (ap (λ (y : Decision). y.border) (sym q))) (ap (λ (y : Decision). state_for y.wall) (sym q))
valued (x ∷ l) d (inr m) h =
    ⊎_elim
    (λ (q : x.border ≡ d.border). absurd (let t = eq-eqb x.border d.border q in omega (arith, (rw t at h), counted l d m)))
    (λ (q : x.border ≢ d.border). let t = ne_eqb x.border d.border q in rw t (valued l d m (omega (arith, (rw t at h)))))
    (eq_or_ne x.border d.border)

module _ (n : ℕ) (given : ℕ → Bool) (a b : List Decision) (s : Sound n given a) (t : Sound n given b) (ab : (d : Decision) → In d a → In d b) (ba : (d : Decision) → In d b → In d a) where
  same_state : (e : ℕ) → state_in a e ≡ state_in b e
  same_state e =
      ⊎_elim
      (λ (h : 1 ≤ count e (borders a)). let o = named_by a e h in both_valued o.0 o.1 (ab o.0 o.1) o.2)
      (λ (h : count e (borders a) < 1).
      ⊎_elim
      (λ (k : 1 ≤ count e (borders b)). let o = named_by b e k in both_valued o.0 (ba o.0 o.1) o.1 o.2)
      (λ (k : count e (borders b) < 1). not_named a e (omega arith) ∙ sym (not_named b e (omega arith)))
      (le_or_lt 1 (count e (borders b))))
      (le_or_lt 1 (count e (borders a)))
    where
      both_valued : (d : Decision) → In d a → In d b → d.border ≡ e → state_in a e ≡ state_in b e
      both_valued d i j q = rw (← q) (valued a d i (s.once d.border) ∙ sym (valued b d j (t.once d.border)))

  pub same_members : (e : ℕ) → standing given a e ≡ standing given b e
  same_members e = standing_same n given a b e (same_state e)
