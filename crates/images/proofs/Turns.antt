-- Turns and a mirror of anything, be it a picture or a direction: of the eight that they make, one after another is one of them, and each is undone by one.
-- Assumes nothing.
use Prim.Native.Nat.{ℕ, zero, suc, ◌+◌, ◌-◌, ◌%◌, ◌≤◌, ◌<◌}
use mathlib.Core.Path.{◌≡◌, refl, ap, sym, ◌∙◌}
use mathlib.Core.Bool.{Bool, true, false, not}
use native.Mathlib.Omega.{arith}
use native.Mathlib.Nat.{mod-lt, add-mod_right, mod-eq_of_lt}
use borrow.Author.Tests.{le-leb, lt-leb}
use lib.Dec.{leb}
use Rattle.lists.specs.Choice.{pick}

-- four turns leave a good thing as it is, and so do two mirrorings; a mirror between two turns is the mirror alone
pub record Turning (A : Type 0) : Type 1 where
  pub Good : A → Type 0
  pub turn : A → A
  pub mirror : A → A
  pub turns : ℕ → A → A
  pub none : (x : A) → turns 0 x ≡ x
  pub more : (n : ℕ) (x : A) → turns (suc n) x ≡ turn (turns n x)
  pub turn_good : (x : A) → Good x → Good (turn x)
  pub mirror_good : (x : A) → Good x → Good (mirror x)
  pub four : (x : A) → Good x → turn (turn (turn (turn x))) ≡ x
  pub two : (x : A) → Good x → mirror (mirror x) ≡ x
  pub between : (x : A) → Good x → turn (mirror (turn x)) ≡ mirror x

-- the number of so many turns, after the mirror or without
abbrev pub numbered : ℕ → Bool → ℕ
numbered n b = n % 4 + pick b 4 0

four_some : 0 < 4
four_some = omega arith

pub numbered_low : (n : ℕ) (b : Bool) → numbered n b < 8
numbered_low n true = omega (arith, mod-lt n four_some)
numbered_low n false = omega (arith, mod-lt n four_some)

-- image j, and then image k
abbrev pub followed : ℕ → ℕ → ℕ
followed j k = pick (leb 4 k) (numbered (k % 4 + 4 - j % 4) (not (leb 4 j))) (numbered (k % 4 + j % 4) (leb 4 j))

-- the way back
abbrev pub inverse : ℕ → ℕ
inverse k = pick (leb 4 k) (numbered (k % 4) true) (numbered (4 - k % 4) false)

module _ {A : Type 0} (t : Turning A) where
  abbrev pub act : ℕ → A → A
  act k x = t.turns (k % 4) (pick (leb 4 k) (t.mirror x) x)

  pub turns_good : (n : ℕ) (x : A) → t.Good x → t.Good (t.turns n x)
  turns_good zero x h = rw (t.none x) h
  turns_good (suc n) x h = rw (t.more n x) (t.turn_good (t.turns n x) (turns_good n x h))

  -- equal numbers of turns
  same : (a b : ℕ) (x : A) → a ≡ b → t.turns a x ≡ t.turns b x
  same a b x e = ap (λ n. t.turns n x) e

  turns_add : (a b : ℕ) (x : A) → t.turns (a + b) x ≡ t.turns a (t.turns b x)
  turns_add zero b x = same (zero + b) b x (omega arith) ∙ sym (t.none (t.turns b x))
  turns_add (suc a) b x = same (suc a + b) (suc (a + b)) x (omega arith) ∙ t.more (a + b) x ∙ ap t.turn (turns_add a b x) ∙ sym (t.more a (t.turns b x))

  turns_four : (x : A) → t.Good x → t.turns 4 x ≡ x
  turns_four x h =
      t.more 3 x ∙ ap t.turn (t.more 2 x ∙ ap t.turn (t.more 1 x ∙ ap t.turn (t.more 0 x ∙ ap t.turn (t.none x)))) ∙ t.four x h

  -- four more
  turns_more : (n : ℕ) (x : A) → t.Good x → t.turns (n + 4) x ≡ t.turns n x
  turns_more n x h = turns_add n 4 x ∙ ap (t.turns n) (turns_four x h)

  turns_mod : (n : ℕ) (x : A) → t.Good x → t.turns (n % 4) x ≡ t.turns n x
  turns_mod (suc (suc (suc (suc n)))) x h =
      let e : n + 4 ≡ suc (suc (suc (suc n))) = omega arith in
      same _ _ x (ap (λ k. k % 4) (sym e) ∙ add-mod_right n 4) ∙ turns_mod n x h ∙ sym (turns_more n x h) ∙ same _ _ x e
  turns_mod zero x h = refl
  turns_mod (suc zero) x h = refl
  turns_mod (suc (suc zero)) x h = refl
  turns_mod (suc (suc (suc zero))) x h = refl

  turns_in : (n : ℕ) (x : A) → t.turns n (t.turn x) ≡ t.turn (t.turns n x)
  turns_in n x = ap (t.turns n) (sym (t.more 0 x ∙ ap t.turn (t.none x))) ∙ sym (turns_add n 1 x) ∙ same (n + 1) (suc n) x (omega arith) ∙ t.more n x

  -- a mirror between as many turns is the mirror alone
  turns_between : (n : ℕ) (x : A) → t.Good x → t.turns n (t.mirror (t.turns n x)) ≡ t.mirror x
  turns_between zero x h = t.none (t.mirror (t.turns zero x)) ∙ ap t.mirror (t.none x)
  turns_between (suc n) x h =
      let y = t.turns n x in
      ap (λ z. t.turns (suc n) (t.mirror z)) (t.more n x)
      ∙ t.more n (t.mirror (t.turn y))
      ∙ sym (turns_in n (t.mirror (t.turn y)))
      ∙ ap (t.turns n) (t.between y (turns_good n x h))
      ∙ turns_between n x h

  -- turns before a mirror are turns back after it
  turns_back : (c a : ℕ) (x : A) → t.Good x → a ≤ 4 → t.turns (c + 4 - a) (t.mirror x) ≡ t.turns c (t.mirror (t.turns a x))
  turns_back c a x h l =
      let y = t.mirror (t.turns a x) in
      ap (t.turns (c + 4 - a)) (sym (turns_between a x h))
      ∙ sym (turns_add (c + 4 - a) a y)
      ∙ same (c + 4 - a + a) (c + 4) y (omega arith)
      ∙ turns_more c y (t.mirror_good (t.turns a x) (turns_good a x h))

  does : (n : ℕ) (b : Bool) (x : A) → t.Good x → act (numbered n b) x ≡ t.turns n (pick b (t.mirror x) x)
  does n true x h =
      let l = mod-lt n four_some in
      let e : numbered n true % 4 ≡ n % 4 = add-mod_right (n % 4) 4 ∙ mod-eq_of_lt l in
      ap (λ (b : Bool). t.turns (numbered n true % 4) (pick b (t.mirror x) x)) (le-leb 4 (numbered n true) (omega arith))
      ∙ same _ _ (t.mirror x) e ∙ turns_mod n (t.mirror x) (t.mirror_good x h)
  does n false x h =
      let l = mod-lt n four_some in
      let e : numbered n false % 4 ≡ n % 4 = ap (λ k. k % 4) (let z : n % 4 + 0 ≡ n % 4 = omega arith in z) ∙ mod-eq_of_lt l in
      ap (λ (b : Bool). t.turns (numbered n false % 4) (pick b (t.mirror x) x)) (lt-leb 4 (numbered n false) (omega arith))
      ∙ same _ _ x e ∙ turns_mod n x h

  pub act_followed : (j k : ℕ) (x : A) → t.Good x → act (followed j k) x ≡ act k (act j x)
  act_followed j k x h = go (k % 4) (j % 4) (omega (arith, mod-lt j four_some)) (leb 4 k) (leb 4 j)
    where
      go : (c a : ℕ) → a ≤ 4 → (d b : Bool) → let y = t.turns a (pick b (t.mirror x) x) in
          act (pick d (numbered (c + 4 - a) (not b)) (numbered (c + a) b)) x ≡ t.turns c (pick d (t.mirror y) y)
      go c a l false b = does (c + a) b x h ∙ turns_add c a (pick b (t.mirror x) x)
      go c a l true false = does (c + 4 - a) true x h ∙ turns_back c a x h l
      go c a l true true =
          does (c + 4 - a) false x h ∙ ap (t.turns (c + 4 - a)) (sym (t.two x h)) ∙ turns_back c a (t.mirror x) (t.mirror_good x h) l

  pub act_good : (k : ℕ) (x : A) → t.Good x → t.Good (act k x)
  act_good k x h = go (k % 4) (leb 4 k)
    where
      go : (n : ℕ) (b : Bool) → t.Good (t.turns n (pick b (t.mirror x) x))
      go n true = turns_good n (t.mirror x) (t.mirror_good x h)
      go n false = turns_good n x h

  -- from both sides
  pub act_inverse : (k : ℕ) (x : A) → t.Good x → (act (inverse k) (act k x) ≡ x) × (act k (act (inverse k) x) ≡ x)
  act_inverse k x h = go (k % 4) (omega (arith, mod-lt k four_some)) (leb 4 k)
    where
      go : (a : ℕ) → a ≤ 4 → (b : Bool) → let i = pick b (numbered a true) (numbered (4 - a) false) in
          (act i (t.turns a (pick b (t.mirror x) x)) ≡ x) × (let y = act i x in t.turns a (pick b (t.mirror y) y) ≡ x)
      go a l true =
          let m = t.mirror_good x h in (
            does a true _ (turns_good a _ m) ∙ turns_between a (t.mirror x) m ∙ t.two x h,
            ap (λ y. t.turns a (t.mirror y)) (does a true x h) ∙ turns_between a (t.mirror x) m ∙ t.two x h,
          )
      go a l false = (
        does (4 - a) false _ (turns_good a _ h) ∙ sym (turns_add (4 - a) a x) ∙ same (4 - a + a) 4 x (omega arith) ∙ turns_four x h,
        ap (t.turns a) (does (4 - a) false x h) ∙ sym (turns_add a (4 - a) x) ∙ same (a + (4 - a)) 4 x (omega arith) ∙ turns_four x h,
      )
