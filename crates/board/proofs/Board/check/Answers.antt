-- `board::Board::check` meets its contract: each test is a question of `check_of`. Assumes nothing.
use mathlib.Core.Path.{sym, ◌∙◌}
use native.Mathlib.Omega.{arith}
use Rattle.grid.proofs.Codes.{ok_limits}
use Rattle.grid.proofs.Geometry.{border_count_le}
use Rattle.board.proofs.Laws.{by_book}
use Rattle.board.proofs.Board.check.Goals as goal

pub check-requires : goal.check-requires
check-requires c =
    let g = c.args.self.now.grid in
    let l = ok_limits g c.is_within_limits.result c.is_within_limits.ensures c.if-not-is_within_limits.false in
    omega (arith, c.border_count.ensures, border_count_le g l)

pub returns : goal.returns
returns c =
    let b = c.args.self.now in
    c.check.ensures ∙ by_book b.grid b.book (sym c.is_within_limits.ensures ∙ c.if-not-is_within_limits.false) c.border_count.result c.border_count.ensures
