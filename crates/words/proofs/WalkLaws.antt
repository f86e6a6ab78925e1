-- A word that is gathered over a list of codes, by `|` or by `&`: how it starts, one turn, and how it ends. Assumes nothing.
use Prim.Native.Nat.{ℕ, ◌+◌, ◌/◌, ◌≤◌, ◌<◌}
use mathlib.Core.Path.{◌≡◌, sym, ap, ap₂, ◌∙◌}
use mathlib.Core.Bool.{Bool}
use mathlib.Core.List.{List, [], ◌∷◌, ◌++◌}
use native.Mathlib.Numerals.{add-one}
use lib.Bits.{bit_and, bit_or}
use lib.ListN.{get_or, length, take}
use lib.Seq.{take-suc}
use Rattle.std.proofs.lemmas.List.{take_all}
use Rattle.lists.specs.Choice.{both, either}
use Rattle.lists.specs.Lists.{all, any}
use Rattle.lists.proofs.ListLaws.{get_d_in}
use Rattle.words.specs.Words.{bit, Readable}
use Rattle.lists.proofs.ChoiceLaws.{both_assoc, both_right}
use Rattle.words.proofs.AnyLaws.{any_append, all_append, any_one, all_one}
use Rattle.words.proofs.WordLaws.{bit_and_lem, bit_or_lem, bit_zero}

-- what a turn reads
pub turn_reads : {table codes : List ℕ} {at : ℕ} → Readable table codes at → {i : ℕ} → i < length codes → get_or codes i 0 / 64 + at < length table
turn_reads {codes = codes} r {i} h = r.within (get_or codes i 0) (get_d_in 0 codes i h)

module _ (P : ℕ → ℕ → Bool) (codes : List ℕ) where
  -- one code more
  taken : (i : ℕ) → i < length codes → take i codes ++ (get_or codes i 0 ∷ []) ≡ take (i + 1) codes
  taken i h = sym (take-suc codes i 0 h) ∙ ap (λ (n : ℕ). take n codes) (sym (add-one i))

  -- the word of the first i codes
  pub record OrWalk (word i : ℕ) : Type 0 where
    pub so_far : (x : ℕ) → bit word x ≡ any (P x) (take i codes)

  pub or_start : OrWalk 0 0
  unfolding any
  or_start = record { so_far = λ x. bit_zero x }

  pub or_turn : {word i : ℕ} (new : ℕ) → i < length codes → OrWalk word i → ((x : ℕ) → bit new x ≡ P x (get_or codes i 0)) → OrWalk (bit_or word new) (i + 1)
  or_turn {word} {i} new h w k =
      record {
        so_far = λ x.
            bit_or_lem word new x ∙ ap₂ either (w.so_far x) (k x ∙ sym (any_one (P x) (get_or codes i 0))) ∙ sym (any_append (P x) (take i codes) (get_or codes i 0 ∷ []))
            ∙ ap (any (P x)) (taken i h);
      }

  pub or_end : {word i : ℕ} → length codes ≤ i → OrWalk word i → (x : ℕ) → bit word x ≡ any (P x) codes
  or_end {word} {i} h w x = w.so_far x ∙ ap (any (P x)) (take_all i codes h)

  -- the bits of a base that the first i codes leave
  pub record AndWalk (base word i : ℕ) : Type 0 where
    pub so_far : (x : ℕ) → bit word x ≡ both (bit base x) (all (P x) (take i codes))

  pub and_start : (base : ℕ) → AndWalk base base 0
  unfolding all
  and_start base = record { so_far = λ x. sym (both_right (bit base x)) }

  pub and_turn : {base word i : ℕ} (new : ℕ) → i < length codes → AndWalk base word i → ((x : ℕ) → bit new x ≡ P x (get_or codes i 0)) → AndWalk base (bit_and word new) (i + 1)
  and_turn {base} {word} {i} new h w k =
      record {
        so_far = λ x.
            bit_and_lem word new x ∙ ap₂ both (w.so_far x) (k x ∙ sym (all_one (P x) (get_or codes i 0)))
            ∙ both_assoc (bit base x) (all (P x) (take i codes)) (all (P x) (get_or codes i 0 ∷ []))
            ∙ ap (both (bit base x)) (sym (all_append (P x) (take i codes) (get_or codes i 0 ∷ [])) ∙ ap (all (P x)) (taken i h));
      }

  pub and_end : {base word i : ℕ} → length codes ≤ i → AndWalk base word i → (x : ℕ) → bit word x ≡ both (bit base x) (all (P x) codes)
  and_end {base} {word} {i} h w x = w.so_far x ∙ ap (λ cs. both (bit base x) (all (P x) cs)) (take_all i codes h)
