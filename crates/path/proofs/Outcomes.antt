-- A path call that no earlier question refuses is refused by 10 exactly if Connected borders do not join the cells. Assumes nothing.
use Prim.Native.Nat.{ℕ, ◌*◌, ◌≤◌, ◌<◌}
use mathlib.Core.Path.{◌≡◌, refl, ap, sym, ◌∙◌}
use mathlib.Core.Logic.{◌↔◌}
use mathlib.Core.List.{List}
use mathlib.Core.Option.{Option, none, some}
use native.Mathlib.Omega.{arith}
use Rattle.frame.specs.Frame.{SameUnit}
use Rattle.grid.specs.Grid.{cells}
use Rattle.grid.specs.Steps.{Neighbours}
use Rattle.board.specs.declared.Board.{Board}
use Rattle.board.specs.Board.{size_of, board_code}
use Rattle.borders.specs.Border.{state_of}
use Rattle.path.specs.Path.{path_of}
use Rattle.path.specs.Answer.{joined, path_outcome}
use Rattle.answers.specs.Answers.{refused}
use Rattle.path.proofs.PathLaws.{path_none}
use Rattle.path.proofs.Answers.{answered}

ten_none : (o : Option (List ℕ)) → joined o ≡ refused 10 → o ≡ none
ten_none none q = refl
ten_none (some p) q = absurd (let z : ◌≡◌ {A = ℕ} 0 1 = cc in omega arith)

module _ (b : Board) (start target room : ℕ) (ready : board_code b ≡ 0) (s : start < cells (size_of b)) (t : target < cells (size_of b)) (long : 9 * cells (size_of b) ≤ room) where
  outcome : path_outcome b start target room ≡ joined (path_of (size_of b) b.book.states start target)
  outcome = answered b start target room (board_code b) refl ready s t long

  -- question 10 (SPEC 3.10)
  pub refused_ten : (path_outcome b start target room ≡ refused 10) ↔ (SameUnit (Neighbours (size_of b)) (state_of b.book.states) start target → ⊥)
  refused_ten = (
    λ q. (path_none (size_of b) b.book.states start target s).0 (ten_none _ (sym outcome ∙ q)),
    λ z. outcome ∙ ap joined ((path_none (size_of b) b.book.states start target s).1 z),
  )
