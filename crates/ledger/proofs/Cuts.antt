-- Decisions that are accepted as one stroke are accepted stroke by stroke however they are cut, empty strokes among them, with the same borders
-- standing (SPEC 12.6). Assumes nothing.
use Prim.Native.Nat.{ℕ, ◌≤◌, ◌<◌}
use mathlib.Core.Path.{◌≡◌, ap, sym, ◌∙◌}
use mathlib.Core.Bool.{Bool}
use mathlib.Core.List.{List, [], ◌∷◌, ◌++◌, map, append_assoc, append-nil}
use borrow.Author.Tests.{eq-eqb}
use lib.ListN.{length, get_or}
use Rattle.limits.specs.Limits.{most_borders}
use Rattle.lists.specs.Choice.{pick}
use Rattle.ledger.specs.Ledger.{Decision, Call, stroke, standing, whole, stroke_code, added, ledger_after, ledger_of}
use Rattle.ledger.specs.Books.{fresh_book, run}
use Rattle.ledger.proofs.Strokes.{code_fits, fits_code, fits_first, fits_then, fits_both}
use Rattle.ledger.proofs.NameLaws.{whole_last}
use Rattle.ledger.proofs.Reached.{states_stand}

pub whole_added : (L : List (List Decision)) (ds : List Decision) → whole (added L ds) ≡ whole L ++ ds
unfolding added
whole_added L [] = sym (append-nil (whole L))
whole_added L (d ∷ ds) = whole_last L (d ∷ ds)

abbrev pub strokes : List (List Decision) → List Call
strokes parts = map stroke parts

module _ (n : ℕ) (given : ℕ → Bool) where
  pub after_stroke : (L : List (List Decision)) (ds : List Decision) → stroke_code n (standing given (whole L)) ds ≡ 0 → ledger_after n given L (stroke ds) ≡ added L ds
  unfolding ledger_after
  after_stroke L ds q = rw (eq-eqb (stroke_code n (standing given (whole L)) ds) 0 q)

  -- CUTTING: what one stroke would add, the parts add one by one
  pub cut : (parts L : List (List Decision)) → stroke_code n (standing given (whole L)) (whole parts) ≡ 0
      → whole (ledger_of n given L (strokes parts)) ≡ whole L ++ whole parts
  unfolding ledger_of whole
  cut [] L q = sym (append-nil (whole L))
  cut (s ∷ parts) L q =
      let f = code_fits n (standing given (whole L)) (s ++ whole parts) q in
      let first = fits_code n (standing given (whole L)) s (fits_first n given (whole L) s (whole parts) f) in
      let next : stroke_code n (standing given (whole (added L s))) (whole parts) ≡ 0 =
      rw (whole_added L s) (fits_code n (standing given (whole L ++ s)) (whole parts) (fits_then n given (whole L) s (whole parts) f)) in
      ap (λ M. whole (ledger_of n given M (strokes parts))) (after_stroke L s first) ∙ (cut parts (added L s) next ∙ ap (λ m. m ++ whole parts) (whole_added L s) ∙ append_assoc (whole L) s (whole parts))

  -- and back: parts that are accepted one by one are accepted as one stroke
  pub joined : (xs ys : List Decision) (l : List Decision) → stroke_code n (standing given l) xs ≡ 0 → stroke_code n (standing given (l ++ xs)) ys ≡ 0
      → stroke_code n (standing given l) (xs ++ ys) ≡ 0
  joined xs ys l p q =
      fits_code n (standing given l) (xs ++ ys) (fits_both n given l xs ys (code_fits n (standing given l) xs p) (code_fits n (standing given (l ++ xs)) ys q))

  -- two cuttings of the same decisions leave the same borders standing, in the ledger and in the record
  module _ (P Q : List (List Decision)) (same : whole P ≡ whole Q) (ok : stroke_code n (standing given []) (whole P) ≡ 0) where
    pub same_standing : (e : ℕ) → standing given (whole (ledger_of n given [] (strokes P))) e ≡ standing given (whole (ledger_of n given [] (strokes Q))) e
    unfolding whole
    same_standing e =
        let k : whole (ledger_of n given [] (strokes P)) ≡ whole (ledger_of n given [] (strokes Q)) =
        cut P [] ok ∙ same ∙ sym (cut Q [] (rw same at ok)) in
        ap (λ l. standing given l e) k

    pub same_states : (s : List ℕ) → n ≤ length s → n ≤ most_borders → ((e : ℕ) → e < n → get_or s e 0 ≡ pick (given e) 2 0)
        → (e : ℕ) → e < n → get_or (run n (fresh_book s) (strokes P)).states e 0 ≡ get_or (run n (fresh_book s) (strokes Q)).states e 0
    same_states s a b f e h = states_stand n given s a b f (strokes P) e h ∙ same_standing e ∙ sym (states_stand n given s a b f (strokes Q) e h)
