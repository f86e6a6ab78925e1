-- What the definitions of a flaw come to: calls one by one, and that a file that is not sound has a flaw. Assumes nothing.
use Prim.Native.Nat.{ℕ, suc, ◌+◌, ◌-◌, ◌*◌, ◌/◌, ◌<◌, ◌≤◌}
use mathlib.Core.Path.{◌≡◌, refl, sym, ap, ◌∙◌}
use mathlib.Core.List.{List}
use mathlib.Core.Option.{Option, none, some}
use native.Mathlib.Nat.{add-zero}
use native.Mathlib.Omega.{arith}
use borrow.Author.Tests.{le-leb, lt-leb}
use lib.ListN.{length, drop}
use Rattle.std.specs.Prelude.{Some, None, false, MatchOption, IsSomeAnd}
use Rattle.std.specs.Prelude as std
use Rattle.case_file.specs.Sound.{Case}
use Rattle.case_file.specs.Sound.{call_of as Sound·callOf}
use Rattle.case_file.specs.Layout.{word_at, step_at, file_of}
use Rattle.case_file.proofs.ReadLaws.{numbers_length}
use Rattle.case_file.proofs.NumberLaws.{number_at}
use Rattle.case_file.specs.declared.Call.{Call}
use Rattle.flaws.specs.declared.Flaw.{Flaw}
use Rattle.flaws.specs.declared.Flaw.TheVariants as flaw
use Rattle.flaws.specs.Flaws.{count_of, behind_of, call_of, at_call, calls_of, call_list_of, clues_of, walls_of, lists_of, part_of, of_file, is_sound, sound_of}

-- the calls that are left: one more, one that is none, and the end
module _ (bs : List ℕ) (count k next : ℕ) where
  one_more : k < count → calls_of (count - k) bs next ≡ at_call bs next (step_at next (Sound·callOf (drop next bs))) (calls_of (count - (k + 1)) bs)
  unfolding calls_of
  one_more h = let e : count - k ≡ suc (count - (k + 1)) = omega arith in ap (λ n. calls_of n bs next) e

  pub calls_next : (c : Call) (behind : ℕ) → k < count → Some (c, behind) ≡ step_at next (Sound·callOf (drop next bs)) → calls_of (count - (k + 1)) bs behind ≡ calls_of (count - k) bs next
  calls_next c behind h e = sym (one_more h ∙ ap (λ s. at_call bs next s (calls_of (count - (k + 1)) bs)) (sym e))

  pub calls_stop : k < count → None ≡ step_at next (Sound·callOf (drop next bs)) → call_of bs next ≡ calls_of (count - k) bs next
  calls_stop h e = sym (one_more h ∙ ap (λ s. at_call bs next s (calls_of (count - (k + 1)) bs)) (sym e))

  pub calls_end : count ≤ k → flaw.Behind next ≡ calls_of (count - k) bs next
  unfolding calls_of
  calls_end h = let e : count - k ≡ 0 = omega arith in sym (ap (λ n. calls_of n bs next) e)

-- THE COUNT at a byte is the number that stands there
module _ (bs : List ℕ) (at : ℕ) where
  pub count_is : at + 2 ≤ length bs → count_of bs at ≡ word_at bs at
  count_is h = number_at bs at 1 0 {n = 1} (omega arith) (sym (numbers_length bs at 1 (omega arith))) ∙ ap (word_at bs) (add-zero at)

  module _ (count : ℕ) (h : (at + 2 ≤ length bs) × (count ≡ word_at bs at)) where
    read : count_of bs at ≡ count
    read = count_is h.0 ∙ sym h.1

    pub behind_cut : length bs < at + 2 + 2 * count → None ≡ behind_of bs at
    behind_cut l = rw (read, le-leb (at + 2) (length bs) h.0, lt-leb count ((length bs - 2 - at) / 2) (omega arith)) refl

    pub behind_fits : at + 2 + 2 * count ≤ length bs → Some (at + 2 + 2 * count) ≡ behind_of bs at
    behind_fits l = rw (read, le-leb (at + 2) (length bs) h.0, le-leb count ((length bs - 2 - at) / 2) (omega arith)) refl

    pub calls_there : calls_of count bs (at + 2) ≡ call_list_of bs at
    calls_there = rw (read, le-leb (at + 2) (length bs) h.0) refl

-- a count that is read and widened
pub count_told : (bs : List ℕ) (at : ℕ) (word wide : std.Option ℕ) → MatchOption word (length bs < at + 2) (λ w. (at + 2 ≤ length bs) × (w ≡ word_at bs at))
    → MatchOption word (wide ≡ None) (λ w. IsSomeAnd wide (λ n. n ≡ w)) → at + 2 ≤ length bs → wide ≡ Some (count_of bs at)
count_told bs at None wide m q h = absurd (omega (arith, m, h))
count_told bs at (Some w) None m q h = absurd q
count_told bs at (Some w) (Some n) m q h = ap Some (q ∙ m.1 ∙ sym (count_is bs at h))

-- the parts behind one another
pub parts_there : (bs : List ℕ) (clues calls : ℕ) → Some clues ≡ behind_of bs 5 → Some calls ≡ behind_of bs clues → call_list_of bs calls ≡ lists_of bs
parts_there bs clues calls p q = ap (λ o. clues_of bs clues o) q ∙ ap (λ o. walls_of bs o) p

-- a part that is wrong is a flaw
pub never_sound : (bs : List ℕ) → is_sound (Some (part_of bs)) ≡ false
never_sound bs = refl

-- a file has no flaw exactly where it is sound
pub sound_exactly : (d : Option Case) (f : Flaw) → is_sound (of_file (file_of d) f) ≡ sound_of d
sound_exactly none f = refl
sound_exactly (some c) f = refl
