-- A board that questions 1 and 2 accept, as facts; and a law for each answer. Assumes nothing.
use Prim.Native.Nat.{ℕ}
use mathlib.Core.Path.{◌≡◌, refl, sym, ◌∙◌}
use mathlib.Core.Bool.{Bool, true, false}
use mathlib.Core.List.{[], ◌∷◌}
use native.Mathlib.Omega.{arith}
use borrow.Author.Tests.{ne_eqb}
use Rattle.lists.specs.Choice.{pick}
use Rattle.grid.specs.declared.Grid.{Grid}
use Rattle.grid.specs.Grid.{sizes_ok, Limits, border_count}
use Rattle.grid.proofs.Geometry.{limits, limits_ok, border_count_le}
use Rattle.ledger.specs.declared.Book.{Book}
use Rattle.ledger.specs.Ledger.{decisions}
use Rattle.ledger.specs.Books.{none_given, book_holds}
use Rattle.ledger.specs.Marks.{Entry}
use Rattle.ledger.proofs.Codes.{as_decide}
use Rattle.board.specs.declared.Board.{Board}
use Rattle.board.specs.Board.{borders_of, check_of, board_code, answered, stroke_of, decide_of}

-- parts that questions 1 and 2 accept
pub record Ready (g : Grid) (k : Book) : Type 0 where
  pub limits : Limits g
  pub holds : book_holds (border_count g) none_given k ≡ true

module _ (g : Grid) (k : Book) where
  pub ready : check_of g k ≡ 0 → Ready g k
  ready = go (sizes_ok g) refl (book_holds (border_count g) none_given k) refl
    where
      go : (t : Bool) → sizes_ok g ≡ t → (u : Bool) → book_holds (border_count g) none_given k ≡ u → ◌≡◌ {A = ℕ} (pick t (pick u 0 2) 1) 0 → Ready g k
      go true p true q z = record { limits = limits g p; holds = q }
      go true p false q z = absurd (omega arith)
      go false p u q z = absurd (omega arith)

  pub ready_code : Ready g k → check_of g k ≡ 0
  ready_code r = rw (limits_ok g r.limits, r.holds)

  -- question 2, by what the code tests
  pub by_book : sizes_ok g ≡ true → (n : ℕ) → n ≡ border_count g → pick (book_holds n none_given k) 0 2 ≡ check_of g k
  by_book p n e = rw (p, ← e)

-- a board that neither refuses
pub board_ready : (b : Board) (code : ℕ) → code ≡ board_code b → code ≡ 0 → Ready b.grid b.book
board_ready b code q z = ready b.grid b.book (sym q ∙ z)

-- a decide by way of its entry
pub one_entry : (b : Board) (e : ℕ) (wall : Bool) (x : ℕ) → Entry e wall x → stroke_of b (decisions (x ∷ [])) ≡ decide_of b e wall
one_entry b e wall x k =
    as_decide (λ c m. answered c b m) (λ c z m m'. rw (ne_eqb c 0 z)) (board_code b) (borders_of b) b.book e wall x
    (λ z. border_count_le b.grid (ready b.grid b.book z).limits) k
