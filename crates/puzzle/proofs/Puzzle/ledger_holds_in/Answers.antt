-- `puzzle::Puzzle::ledger_holds_in` meets its contract: the marks tell the given walls. Assumes nothing.
use Rattle.lists.specs.Writes.{puts, Below}
use Rattle.rooms.proofs.PutLaws.{blank, walls_in}
use Rattle.puzzle.specs.Puzzle.{grid_of, given_of, book_of}
use mathlib.Core.Path.{sym, subst, ap, ◌∙◌}
use lib.ListN.{length, replicate}
use Rattle.puzzle.proofs.Ready.{marks_lent, by_marks}
use Rattle.puzzle.proofs.Puzzle.ledger_holds_in.Goals as goal

pub write_at-requires : goal.write_at-requires
write_at-requires g c =
    let p = c.args.self.now in
    subst (Below (length (replicate g.row.N 0))) (sym c.given.ensures) (walls_in (grid_of p) (given_of p) c.requires.given (blank (grid_of p) g.row.N c.requires.room.0))

pub holds-requires : goal.holds-requires
holds-requires g c =
    let p = c.args.self.now in
    marks_lent (grid_of p) (given_of p) c.requires.given (blank (grid_of p) g.row.N c.requires.room.0) _ _ c.border_count.ensures (c.write_at.ensures ∙ ap (λ l. puts l 1 (replicate g.row.N 0)) c.given.ensures)

pub returns : goal.returns
returns g c =
    let p = c.args.self.now in
    by_marks (grid_of p) (given_of p) c.requires.given (blank (grid_of p) g.row.N c.requires.room.0) c.border_count.result (book_of p) _ c.holds.result c.border_count.ensures (c.write_at.ensures ∙ ap (λ l. puts l 1 (replicate g.row.N 0)) c.given.ensures) c.holds.ensures
