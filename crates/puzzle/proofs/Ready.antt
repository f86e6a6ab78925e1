-- What a puzzle is like that questions 1 and 2 accept, and its given walls as marks. Assumes nothing.
use Prim.Native.Nat.{ℕ, ◌≤◌}
use mathlib.Core.Path.{◌≡◌, refl, ap, ◌∙◌, fun_ext}
use mathlib.Core.Bool.{Bool, true, false}
use mathlib.Core.List.{List}
use native.Mathlib.Omega.{arith}
use borrow.Author.Tests.{eqb-true, leb-true}
use lib.Dec.{eqb}
use lib.ListN.{length}
use Rattle.limits.specs.Limits.{most_borders, most_cells}
use Rattle.lists.specs.Choice.{pick}
use Rattle.lists.proofs.ChoiceLaws.{both_true}
use Rattle.grid.specs.declared.Grid.{Grid}
use Rattle.grid.specs.Grid.{sizes_ok, Limits, border_count}
use Rattle.grid.proofs.Geometry.{limits, border_count_le}
use Rattle.ledger.specs.declared.Book.{Book}
use Rattle.borders.specs.Border.{StatesOk}
use Rattle.ledger.specs.Books.{book_holds, names_in}
use Rattle.ledger.proofs.Question.{holds_question}
use Rattle.ledger.proofs.Found as found
use Rattle.ledger.specs.Marks.{given_in}
use Rattle.ledger.specs.Moves.{GivenMarks, Held}
use Rattle.rooms.specs.Rooms.{is_given, room_count}
use Rattle.lists.specs.Writes.{puts}
use Rattle.lists.proofs.WritesLaws.{puts_length}
use Rattle.rooms.specs.Lent.{Given, Blank}
use Rattle.rooms.proofs.PutLaws.{marks_in}
use Rattle.clues.specs.Clues.{lists_code}
use Rattle.clues.proofs.Fitting.{lists_fit}
use Rattle.puzzle.specs.declared.Puzzle.{Puzzle}
use Rattle.puzzle.specs.Puzzle.{grid_of, book_of, borders_of, given_of, clues_of, together, puzzle_code}

-- a puzzle that questions 1 and 2 accept
pub record Ready (p : Puzzle) : Type 0 where
  pub limits : Limits (grid_of p)
  pub given_fits : p.given_len ≤ most_borders
  pub clues_fit : p.clues_len ≤ most_cells
  pub kind_fits : p.kind ≤ 1
  pub lists : lists_code (grid_of p) (given_of p) (clues_of p) ≡ 0
  pub holds : book_holds (borders_of p) (is_given (given_of p)) (book_of p) ≡ true

pub ready : (p : Puzzle) → puzzle_code p ≡ 0 → Ready p
unfolding together
ready p = go (sizes_ok (grid_of p)) refl (together p) refl
  where
    facts : Limits (grid_of p) → together p ≡ true → Ready p
    facts l q =
        let x = both_true _ _ q in
        let y = both_true _ _ x.0 in
        let z = both_true _ _ y.0 in
        let fits = both_true _ _ z.0 in
        record { limits = l; given_fits = leb-true _ _ fits.0; clues_fit = leb-true _ _ fits.1; kind_fits = leb-true _ _ z.1; lists = eqb-true _ _ y.1; holds = x.1 }

    go : (a : Bool) → sizes_ok (grid_of p) ≡ a → (b : Bool) → together p ≡ b → ◌≡◌ {A = ℕ} (pick a (pick b 0 2) 1) 0 → Ready p
    go true s true q z = facts (limits (grid_of p) s) q
    go true s false q z = absurd (omega arith)
    go false s b q z = absurd (omega arith)

-- THE MARKS of given walls
module _ (g : Grid) (given : List ℕ) (w : Given g given) {xs : List ℕ} (b : Blank g xs) where
  marks_given : given_in (puts given 1 xs) ≡ is_given given
  marks_given = fun_ext (λ e. ap (λ x. eqb x 1) (marks_in g given w b 1 e) ∙ go (is_given given e))
    where
      go : (t : Bool) → eqb (pick t 1 0) 1 ≡ t
      go true = refl
      go false = refl

  pub marks_lent : (n : ℕ) (m : List ℕ) → n ≡ border_count g → m ≡ puts given 1 xs → GivenMarks n m
  marks_lent n m k e =
      let few = border_count_le g w.limits in
      record {
        marks_long = omega (arith, ap length e, puts_length given 1 xs, b.long);
        marks_given = λ x. rw (e, marks_in g given w b 1 x) (go (is_given given x));
        few = omega arith;
      }
    where
      go : (t : Bool) → pick t 1 0 ≤ 1
      go true = omega arith
      go false = omega arith

  -- the test by marks
  pub by_marks : (n : ℕ) (k : Book) (m : List ℕ) (t : Bool) → n ≡ border_count g → m ≡ puts given 1 xs → t ≡ book_holds n (given_in m) k
      → t ≡ book_holds (border_count g) (is_given given) k
  by_marks n k m t p q e = e ∙ rw (p, q, marks_given)

-- accepted lists have given walls of the board
pub lists_given : (g : Grid) (given clues : List ℕ) → Limits g → lists_code g given clues ≡ 0 → Given g given
lists_given g given clues l z = record { limits = l; below = (lists_fit g given clues z).inside }

-- it holds a book over its borders
pub held : (p : Puzzle) → Ready p → Held (borders_of p) (book_of p)
held p r = record { few = border_count_le (grid_of p) r.limits; given = is_given (given_of p); holds = r.holds }

-- its borders have states
pub ready_states : (p : Puzzle) → Ready p → StatesOk (grid_of p) (book_of p).states
ready_states p r e l =
    let n = borders_of p in
    let given = is_given (given_of p) in
    ((holds_question n given (book_of p).states (names_in (book_of p)) (found.held n given (book_of p) r.holds).2).kept e l).state

-- its given walls, and a clue for each of its rooms, as they are handed out
module _ (p : Puzzle) (r : Ready p) {g : Grid} {walls : List ℕ} (q : g ≡ grid_of p) (w : walls ≡ given_of p) where
  pub ready_walls : Given g walls
  ready_walls = rw (q, w) (lists_given (grid_of p) (given_of p) (clues_of p) r.limits r.lists)

  pub ready_clues : {counts : List ℕ} → counts ≡ clues_of p → length counts ≡ room_count g walls
  ready_clues k = rw (q, w, k) (lists_fit (grid_of p) (given_of p) (clues_of p) r.lists).one_each
