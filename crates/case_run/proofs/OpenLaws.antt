-- The puzzle of a file: a sound file's walls and clues have their places, and are read whole. Assumes nothing.
use Prim.Native.Nat.{ℕ, ◌*◌, ◌≤◌}
use mathlib.Core.Path.{◌≡◌, sym, ap, ◌∙◌}
use mathlib.Core.List.{List, [], ◌∷◌}
use mathlib.Core.Option.{some}
use mathlib.Core.Logic.{◌≢◌}
use native.Mathlib.Omega.{arith}
use borrow.Author.Tests.{le-leb, ne_eqb}
use lib.ListN.{length, take, drop, length-replicate, length-drop, length-take, replicate}
use lib.Seq.{sets}
use Rattle.answers.specs.Answers.{written, listed}
use Rattle.case_file.specs.declared.Layout.{Layout}
use Rattle.answers.specs.declared.Refusal.{Refusal}
use Rattle.answers.specs.Refusals.{number_of, Lists}
use Rattle.answers.proofs.RefusalLaws.{some_number, listed_ok, listed_err}
use Rattle.std.specs.Prelude.{Result, Ok, Err}
use Rattle.case_file.specs.Sound.{Case, words_of, decode_of}
use Rattle.case_file.specs.declared.Span.{Span}
use Rattle.case_file.specs.Layout.{numbers_at, numbers_into, span_of, layout_of, file_of}
use Rattle.case_file.proofs.BackLaws.{parts}
use Rattle.case_file.proofs.UseLaws.{accepted, walls_there, clues_there}
use Rattle.puzzle.specs.declared.Made.{Made}
use Rattle.puzzle.specs.declared.kind.Kind.TheVariants.{Translates}
use Rattle.puzzle.specs.Puzzle.{make_of, made}
use Rattle.lists.proofs.SetsLaws.{front}
use Rattle.case_run.specs.declared.Opened.{Opened}
use Rattle.case_run.specs.CaseRun.{opened_as, opened_of, opened_in}

-- the program's places for walls and for clues: as many as a file of 60,003 bytes can have
unfoldable pub places : List ℕ
places = replicate 30000 0

-- what reading a list of the file answers, and what it leaves there
abbrev pub Told : List ℕ → Span → Result ℕ Refusal → Type 0
Told bs list answer = Lists (numbers_into bs list (length places)) answer

abbrev pub InPlaces : List ℕ → Span → List ℕ → Type 0
InPlaces bs list buf = buf ≡ written (numbers_into bs list (length places)) places

-- no list of a sound file is refused: its numbers stand in front
abbrev pub Answered : Result ℕ Refusal → List ℕ → List ℕ → Type 0
Answered (Ok n) buf xs = take n buf ≡ xs
Answered (Err e) buf xs = ⊥

answered : (xs buf : List ℕ) (answer : Result ℕ Refusal) → length xs ≤ 30000 → buf ≡ sets (replicate 30000 0) 0 xs → Lists (listed xs) answer → Answered answer buf xs
answered xs buf (Err e) few b q = absurd (listed_err xs e q)
answered xs buf (Ok n) few b q =
    let k : n ≡ length xs = listed_ok xs n q in
    rw (b, k) (front (replicate 30000 0) xs (omega (arith, length-replicate {A = ℕ} 30000 0)))

words_most : (r : List ℕ) → 2 * length (words_of r) ≤ length r
unfolding words_of
words_most [] = omega arith
words_most (a ∷ []) = omega arith
words_most (a ∷ b ∷ r) = omega (arith, words_most r)

module _ (bs : List ℕ) (f : Case) (e : decode_of bs ≡ some f) where
  file_short : length bs ≤ 60003
  file_short = let o = parts f bs e in omega (arith, o.most, ap length o.bytes)

  read : (at n : ℕ) (xs buf : List ℕ) (answer : Result ℕ Refusal) → numbers_at bs at n ≡ xs → 7 ≤ at → Told bs (span_of at n) answer → InPlaces bs (span_of at n) buf
      → Answered answer buf xs
  unfolding places
  read at n xs buf answer q h told s =
      let few : length xs ≤ 30000 = omega (arith, ap length q, words_most (take (2 * n) (drop at bs)), length-take (2 * n) (drop at bs), length-drop at bs, file_short) in
      let l : length {A = ℕ} (replicate 30000 0) ≡ 30000 = length-replicate {A = ℕ} 30000 0 in
      let fits = le-leb (length xs) (length {A = ℕ} (replicate 30000 0)) (omega arith) in
      answered xs buf answer few (rw (q, fits) at s) (rw (q, fits) at told)

  module _ (l : Layout) (s : l ≡ layout_of f) where
    walls_in : (answer : Result ℕ Refusal) (buf : List ℕ) → Told bs l.walls answer → InPlaces bs l.walls buf → Answered answer buf f.walls
    walls_in = rw s (λ answer buf q b. read (layout_of f).walls.at (layout_of f).walls.count f.walls buf answer (walls_there f bs e) (omega arith) q b)

    clues_in : (answer : Result ℕ Refusal) (buf : List ℕ) → Told bs l.clues answer → InPlaces bs l.clues buf → Answered answer buf f.clues
    clues_in = rw s (λ answer buf q b. read (layout_of f).clues.at (layout_of f).clues.count f.clues buf answer (clues_there f bs e) (omega arith) q b)

    made_in : (m : Made) → m ≡ make_of Translates l.height l.width f.walls f.clues → opened_as m l.calls.at l.calls.count ≡ opened_of (some f)
    made_in m = rw s (λ q. ap (λ (d : Made). opened_as d (layout_of f).calls.at (layout_of f).calls.count) q)

module _ (bs : List ℕ) (l : Layout) (q : Ok l ≡ file_of (decode_of bs)) where
  pub sound : (f : Case) × (decode_of bs ≡ some f) × (l ≡ layout_of f)
  sound = accepted bs l q

  pub walls_read : (answer : Result ℕ Refusal) (buf : List ℕ) → Told bs l.walls answer → InPlaces bs l.walls buf → Answered answer buf sound.0.walls
  walls_read = walls_in bs sound.0 sound.1 l sound.2

  pub clues_read : (answer : Result ℕ Refusal) (buf : List ℕ) → Told bs l.clues answer → InPlaces bs l.clues buf → Answered answer buf sound.0.clues
  clues_read = clues_in bs sound.0 sound.1 l sound.2

  pub made_file : (m : Made) (walls clues : List ℕ) → walls ≡ sound.0.walls → clues ≡ sound.0.clues → m ≡ make_of Translates l.height l.width walls clues
      → opened_as m l.calls.at l.calls.count ≡ opened_of (decode_of bs)
  made_file m walls clues x y e = made_in bs sound.0 sound.1 l sound.2 m (rw (x, y) at e) ∙ ap opened_of (sym sound.1)

-- a puzzle that is refused
pub opened_refused : (e : Refusal) (at count : ℕ) {o : Opened} → opened_as (made (Err e)) at count ≡ o → opened_in (Err e) ≡ o
opened_refused e at count q =
    let h : number_of e ≢ 0 = λ (z : number_of e ≡ 0). omega (arith, some_number e) in
    rw (ne_eqb (number_of e) 0 h) at q
