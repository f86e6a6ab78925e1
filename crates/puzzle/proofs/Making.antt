-- What a making accepts, and what the fresh puzzle holds. Assumes nothing.
use Prim.Native.Nat.{ℕ, ◌≤◌, ◌<◌}
use mathlib.Core.Path.{◌≡◌, refl, ap, ◌∙◌}
use mathlib.Core.Bool.{Bool, true, false}
use mathlib.Core.List.{List, ◌++◌}
use native.Mathlib.Omega.{arith}
use borrow.Author.Tests.{eqb-true}
use lib.Dec.{eqb}
use lib.ListN.{length, drop, length-replicate}
use lib.Seq.{sets}
use Rattle.lists.specs.Choice.{pick}
use Rattle.lists.proofs.SetsLaws.{front, front_written}
use Rattle.grid.specs.declared.Grid.{Grid}
use Rattle.grid.specs.Grid.{grid, sizes_ok, Limits, border_count}
use Rattle.grid.proofs.Geometry.{limits, cells_le, border_count_le}
use Rattle.limits.specs.Limits.{most_borders, most_cells}
use Rattle.ledger.specs.Books.{zeros, book}
use Rattle.ledger.proofs.BookLaws.{zeros_length}
use Rattle.board.specs.declared.Board.{Board}
use Rattle.puzzle.specs.declared.Puzzle.{Puzzle}
use Rattle.puzzle.specs.declared.kind.Kind.{Kind}
use Rattle.puzzle.specs.Kind.{kind_number}
use Rattle.rooms.specs.Rooms.{is_given}
use Rattle.puzzle.specs.Puzzle.{no_clues, fresh_board, fresh_puzzle, zero_puzzle, answer, make_code, make_of, given_of, clues_of, states_of, fresh_state}
use Rattle.lists.specs.Writes.{puts, Below}
use Rattle.lists.proofs.WritesLaws.{puts_length, puts_at}
use Rattle.rooms.specs.Lent.{unmarked}
use Rattle.rooms.proofs.RoomLaws.{given_in_lem, rooms_few}
use Rattle.lists.proofs.ListLaws.{zeros_at}
use Rattle.rooms.proofs.PutLaws.{unmarked_length}
use Rattle.clues.specs.Clues.{lists_code}
use Rattle.clues.proofs.Fitting.{Fit, lists_fit, rises_length}
use Rattle.puzzle.proofs.Basics.{states_are}

pub no_clues_length : length no_clues ≡ most_cells
unfolding no_clues
no_clues_length = length-replicate {A = ℕ} most_cells 0

-- what an accepted making is given
pub record Accepted (h w : ℕ) (given clues : List ℕ) : Type 0 where
  pub limits : Limits (grid h w)
  pub lists : lists_code (grid h w) given clues ≡ 0
  pub fit : Fit (grid h w) given clues

module _ (h w : ℕ) (given clues : List ℕ) where
  code_zero : (n : ℕ) (p z : Puzzle) (t : Bool) → eqb n 0 ≡ t → (pick t (answer 0 p) (answer n z)).code ≡ 0 → n ≡ 0
  code_zero n p z true q k = eqb-true n 0 q
  code_zero n p z false q k = k

  pub accepted : sizes_ok (grid h w) ≡ true → lists_code (grid h w) given clues ≡ 0 → Accepted h w given clues
  accepted p z = record { limits = limits (grid h w) p; lists = z; fit = lists_fit (grid h w) given clues z }

  code_accepted : make_code h w given clues ≡ 0 → Accepted h w given clues
  code_accepted = go (sizes_ok (grid h w)) refl
    where
      go : (t : Bool) → sizes_ok (grid h w) ≡ t → pick t (lists_code (grid h w) given clues) 1 ≡ 0 → Accepted h w given clues
      go true p z = accepted p z
      go false p z = absurd (omega arith)

  -- its lists have their places
  module _ (a : Accepted h w given clues) where
    pub given_short : length given ≤ most_borders
    given_short = omega (arith, rises_length (border_count (grid h w)) given a.fit.rising a.fit.inside, border_count_le (grid h w) a.limits)

    pub clues_short : length clues ≤ most_cells
    clues_short = omega (arith, a.fit.one_each, rooms_few (grid h w) given, cells_le (grid h w) a.limits)

    -- no number behind the board's borders is a given wall
    pub given_inside : (e : ℕ) → is_given given e ≡ true → e < border_count (grid h w)
    given_inside e q = a.fit.inside e (given_in_lem given e q)

module _ (kind : Kind) (h w : ℕ) (given clues : List ℕ) where
  pub made_accepted : (make_of kind h w given clues).code ≡ 0 → Accepted h w given clues
  made_accepted z =
      code_accepted h w given clues (code_zero h w given clues (make_code h w given clues) (fresh_puzzle kind (grid h w) given clues) zero_puzzle (eqb (make_code h w given clues) 0) refl z)

  pub made_fresh : (make_of kind h w given clues).code ≡ 0 → make_of kind h w given clues ≡ answer 0 (fresh_puzzle kind (grid h w) given clues)
  made_fresh z = go (make_code h w given clues) (code_zero h w given clues (make_code h w given clues) (fresh_puzzle kind (grid h w) given clues) zero_puzzle (eqb (make_code h w given clues) 0) refl z)
    where
      go : (n : ℕ) → n ≡ 0 → pick (eqb n 0) (answer 0 (fresh_puzzle kind (grid h w) given clues)) (answer n zero_puzzle) ≡ answer 0 (fresh_puzzle kind (grid h w) given clues)
      go n q = rw q

  -- the lists of a fresh puzzle are the making's
  module _ (a : Accepted h w given clues) where
    pub given_kept : given_of (fresh_puzzle kind (grid h w) given clues) ≡ given
    given_kept = front zeros given (omega (arith, given_short h w given clues a, zeros_length))

    pub clues_kept : clues_of (fresh_puzzle kind (grid h w) given clues) ≡ clues
    clues_kept = front no_clues clues (omega (arith, clues_short h w given clues a, no_clues_length))

-- 2 at each given wall of zeros: the states of a fresh board
fresh_states : (given : List ℕ) → Below most_borders given → puts given 2 unmarked ≡ states_of most_borders (fresh_state given)
unfolding unmarked is_given
fresh_states given w =
    states_are most_borders (fresh_state given) (puts given 2 unmarked) (puts_length given 2 unmarked ∙ unmarked_length)
    (λ e h. puts_at given 2 unmarked (λ x m. rw unmarked_length (w x m)) e ∙ ap (pick (is_given given e) 2) (zeros_at most_borders e))

-- WHAT MAKING ANSWERS
pub board_is : (g : Grid) (given s : List ℕ) → Below most_borders given → s ≡ puts given 2 unmarked → ◌≡◌ {A = Board} (record { grid = g; book = book s zeros 0 }) (fresh_board g given)
board_is g given s w q = rw (q, fresh_states given w)

pub puzzle_is : (kind : Kind) (g : Grid) (given clues walls counts : List ℕ) (b : Board) → b ≡ fresh_board g given → walls ≡ sets zeros 0 given → counts ≡ sets no_clues 0 clues
    → ◌≡◌ {A = Puzzle} (record { board = b; given = walls; given_len = length given; clues = counts; clues_len = length clues; kind = kind_number kind }) (fresh_puzzle kind g given clues)
puzzle_is kind g given clues walls counts b p q r = rw (p, q, r)

-- a record of zeros, into whose arrays the lists are written
pub started : (kind : Kind) (g : Grid) (given clues : List ℕ) → Below most_borders given → length given ≤ most_borders → length clues ≤ most_cells
    → (p : Puzzle) → p ≡ zero_puzzle → (s : List ℕ) → s ≡ puts given 2 p.board.book.states → (walls counts : List ℕ) → walls ≡ given → counts ≡ clues → (k : ℕ) → k ≡ kind_number kind
    → ◌≡◌ {A = Puzzle} (record {
      board = record { grid = g; book = record { states = s; names = p.board.book.names; len = p.board.book.len } };
      given = walls ++ drop (length given) p.given;
      given_len = length given;
      clues = counts ++ drop (length clues) p.clues;
      clues_len = length clues;
      kind = k;
    }) (fresh_puzzle kind g given clues)
started kind g given clues w few fit p z s q walls counts wq cq k kq =
    let marks : s ≡ puts given 2 unmarked = unfold zeros unmarked in (q ∙ ap (λ (p : Puzzle). puts given 2 p.board.book.states) z) in
    rw (z, wq, cq, kq)
    (puzzle_is kind g given clues _ _ _ (board_is g given s w marks) (front_written zeros given (omega (arith, few, zeros_length))) (front_written no_clues clues (omega (arith, fit, no_clues_length))))

-- an accepted making's walls have their places
pub walls_below : (h w : ℕ) (given clues : List ℕ) → Accepted h w given clues → Below most_borders given
walls_below h w given clues a e m = omega (arith, a.fit.inside e m, border_count_le (grid h w) a.limits)
