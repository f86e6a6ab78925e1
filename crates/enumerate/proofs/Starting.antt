-- What a search starts with and ends with, and what an accepted puzzle gives it; a law for each answer of the call. Assumes nothing.
use Prim.Native.Nat.{ℕ, ◌+◌, ◌*◌, ◌≤◌, ◌<◌}
use mathlib.Core.Path.{◌≡◌, refl, ap, sym, ◌∙◌}
use mathlib.Core.Logic.{◌≢◌}
use mathlib.Core.Bool.{Bool, true, false, not, true≢false}
use mathlib.Core.List.{List}
use native.Mathlib.Omega.{arith}
use native.Mathlib.Nat.{zero-mul, zero-add}
use borrow.Author.Tests.{eqb-true, ne_eqb}
use lib.Dec.{eqb, ltb}
use lib.ListN.{length, take, get_or, length-replicate}
use lib.Seq.{sets, length-take-le, get_or-take}
use Rattle.lists.specs.Choice.{either}
use Rattle.lists.specs.Lists.{In, gather}
use Rattle.lists.proofs.Cases.{not_both}
use Rattle.lists.proofs.ListLaws.{in_keep}
use Rattle.grid.specs.declared.Grid.{Grid}
use Rattle.images.specs.declared.Image.{Image}
use Rattle.grid.specs.Grid.{Limits, cells, border_count}
use Rattle.grid.proofs.Geometry.{cells_le}
use Rattle.borders.specs.Border.{StatesOk}
use Rattle.ledger.specs.Books.{names_in, state_at}
use Rattle.ledger.proofs.Question.{Kept, holds_question}
use Rattle.ledger.proofs.Found.{held}
use Rattle.rooms.specs.Rooms.{is_given}
use Rattle.rooms.specs.Units.{GivenWalls}
use Rattle.rooms.proofs.RoomLaws.{given_in_lem}
use Rattle.clues.proofs.Fitting.{lists_fit}
use Rattle.puzzle.specs.declared.Puzzle.{Puzzle}
use Rattle.puzzle.specs.Kind.{images_of, ask_room}
use Rattle.puzzle.specs.Puzzle.{grid_of, book_of, borders_of, given_of, clues_of, puzzle_code}
use Rattle.puzzle.proofs.KindLaws.{sixteen_most, translates_room}
use Rattle.puzzle.proofs.Basics.{states_length, states_at, states_are}
use Rattle.puzzle.proofs.Ready.{Ready, ready}
use Rattle.puzzle.proofs.Answers.{second_says}
use Rattle.enumerate.specs.Boards.{Boards}
use Rattle.enumerate.specs.Boards.{Listed, Refused}
use Rattle.enumerate.specs.declared.Listing.{Listing}
use Rattle.enumerate.specs.Boards.{extensions, is_right, rights, states_in, rights_of, places_code, boards_code, listing, answered, boards_of}
use Rattle.enumerate.specs.Search.{Written, written, Searching, searched, no_entries, Started}
use Rattle.enumerate.proofs.Extensions.{in_extensions, over_long}
use Rattle.enumerate.proofs.Writing.{all_from}
use Rattle.enumerate.proofs.Codes.{enough_places}
use Rattle.borders.specs.declared.Borders.{Borders}
use Rattle.borders.specs.Fits.{Fits}

-- THE SEARCH
entries_long : (n : ℕ) → length (no_entries n) ≡ n
unfolding no_entries
entries_long n = length-replicate {A = ℕ} n 0

-- the places that the largest board of each kind asks
pub translates_fit : (kind : ℕ) (g : Grid) → Limits g → kind ≡ 0 → ask_room kind g ≤ 9216
translates_fit kind g l q = rw (q, translates_room g) (omega (arith, cells_le g l))

pub images_fit : (kind : ℕ) (g : Grid) → Limits g → ask_room kind g ≤ 16384
images_fit kind g l = omega (arith, sixteen_most kind (cells g), cells_le g l)

abbrev pub nothing : ℕ → List ℕ → Written
nothing cap boards = written cap (record { count = 0; more = false }) boards

pub right_long : (ms : List Image) (g : Grid) (given clues s b : List ℕ) → In b (rights ms g given clues s) → length b ≡ length s
unfolding rights
right_long ms g given clues s b m = over_long s b (in_extensions s b (in_keep (is_right ms g given clues) (extensions s) b m).0)

module _ (ms : List Image) (g : Grid) (given clues s : List ℕ) (cap : ℕ) (boards : List ℕ) where
  pub at_start : (n : ℕ) → (length ms + 8) * cells g ≤ n → Started g s cap boards → Searching ms g s (no_entries n) (nothing cap boards)
  at_start n room a =
      record {
        list_long = rw (entries_long n) room;
        each = a.each;
        ok = a.ok;
        fits = record { few = omega arith; long = a.long; met = λ q. absurd (not_both false q refl) };
      }

  whole : searched ms g given clues s (nothing cap boards)
      ≡ written cap (record { count = length (take cap (rights ms g given clues s)); more = ltb cap (length (rights ms g given clues s)) }) (sets boards 0 (gather (λ b. b) (take cap (rights ms g given clues s))))
  whole = all_from (length s) cap cap 0 (sym (zero-add cap)) boards (rights ms g given clues s) (right_long ms g given clues s) ∙ rw (zero-add (length (take cap (rights ms g given clues s))), zero-mul (length s))

  pub at_end : (top : ℕ) (x : Listing) (boards' left : List ℕ) → left ≡ boards' → written top x boards' ≡ searched ms g given clues s (nothing cap boards)
      → (Listed x.count x.more ≡ (listing (rights ms g given clues s) cap boards).answer) × (left ≡ (listing (rights ms g given clues s) cap boards).buffer)
  at_end top x boards' left k q =
      let e = q ∙ whole in
      (ap (λ (w : Written). Listed w.listing.count w.listing.more) e, k ∙ ap (λ (w : Written). w.boards) e)

-- AN ACCEPTED PUZZLE
each_border : (p : Puzzle) → length (states_in p) ≡ borders_of p
each_border p = states_length (borders_of p) (state_at (book_of p).states)

module _ (p : Puzzle) (r : Ready p) where
  -- question 2 of each border
  border_kept : (e : ℕ) → e < borders_of p → Kept (is_given (given_of p)) (book_of p).states (names_in (book_of p)) e
  border_kept e l =
      let b = book_of p in
      (holds_question (borders_of p) (is_given (given_of p)) b.states (names_in b) (held (borders_of p) (is_given (given_of p)) b r.holds).2).kept e l

  pub states_good : StatesOk (grid_of p) (states_in p)
  states_good e l = rw (states_at (borders_of p) (state_at (book_of p).states) e l) (border_kept e l).state

  -- given walls are Wall
  pub walls_stand : GivenWalls (given_of p) (state_at (book_of p).states)
  walls_stand e q =
      let l : e < borders_of p = (lists_fit (grid_of p) (given_of p) (clues_of p) r.lists).inside e (given_in_lem (given_of p) e q) in
      wall (is_given (given_of p) e) q (border_kept e l).wall
    where
      wall : (t : Bool) → t ≡ true → either (not t) (eqb (get_or (book_of p).states e 0) 2) ≡ true → get_or (book_of p).states e 0 ≡ 2
      wall true q k = eqb-true (get_or (book_of p).states e 0) 2 k
      wall false q k = absurd (true≢false (sym q))

-- THE CALL
refused_by : (code n : ℕ) (boards : List (List ℕ)) (cap : ℕ) (buf : List ℕ) → code ≡ n → n ≢ 0 → (Refused n ≡ (answered code boards cap buf).answer) × (buf ≡ (answered code boards cap buf).buffer)
refused_by code n boards cap buf q z = rw (q, ne_eqb n 0 z) (refl, refl)

-- of an accepted puzzle, with the states of the board that it hands out, cut off behind the last border
module _ (p : Puzzle) (z : 0 ≡ puzzle_code p) (b : Borders) (q : (b.grid ≡ grid_of p) × (b.states.now ≡ (book_of p).states)) {n : ℕ} (k : n ≡ border_count b.grid) where
  m : n ≡ borders_of p
  m = k ∙ ap border_count q.0

  states_long : borders_of p ≤ length (book_of p).states
  states_long = let f : Fits (grid_of p) (book_of p).states = rw (← q.0, ← q.1) b.fits in f.borders

  pub cut_fits : n ≤ length (book_of p).states
  cut_fits = omega (arith, m, states_long)

  pub cut_long : n ≡ length (take n (book_of p).states)
  cut_long = sym (length-take-le n (book_of p).states cut_fits)

  cut_is : take n (book_of p).states ≡ states_in p
  cut_is = states_are (borders_of p) (state_at (book_of p).states) (take n (book_of p).states) (sym cut_long ∙ m) (λ e l. get_or-take n (book_of p).states e 0 (omega (arith, m)))

  module _ (cap : ℕ) (buf : List ℕ) {short : ℕ} (e : short ≡ places_code (take n (book_of p).states) cap (length buf)) where
    abbrev Answered : Boards → List ℕ → Type 0
    Answered x buf' = (x ≡ (boards_of p cap buf).answer) × (buf' ≡ (boards_of p cap buf).buffer)

    short_is : short ≡ places_code (states_in p) cap (length buf)
    short_is = e ∙ ap (λ s. places_code s cap (length buf)) cut_is

    both_codes : boards_code p cap buf ≡ short
    both_codes = sym (second_says z refl short_is)

    pub no_places : short ≢ 0 → Answered (Refused short) buf
    no_places y = refused_by (boards_code p cap buf) short (rights_of p) cap buf both_codes y

    module _ (y : short ≡ 0) where
      pub cut_started : Started b.grid (take n (book_of p).states) cap buf
      cut_started =
          rw (q.0, cut_is)
          (record {
            each = each_border p;
            ok = states_good p (ready p (sym z));
            long = rw (each_border p) at (enough_places (states_in p) cap (length buf) (sym short_is ∙ y));
          })

      pub all_listed : {given clues : List ℕ} → (given ≡ given_of p) × (clues ≡ clues_of p) → (x : Boards) (buf' : List ℕ)
          → (let R = rights (images_of p.kind) b.grid given clues (take n (book_of p).states) in (x ≡ (listing R cap buf).answer) × (buf' ≡ (listing R cap buf).buffer)) → Answered x buf'
      all_listed l x buf' o = rw (both_codes ∙ y) (rw (q.0, l.0, l.1, cut_is) at o)
