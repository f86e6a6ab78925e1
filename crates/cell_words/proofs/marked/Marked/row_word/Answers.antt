-- `cell_words::marked::Marked::row_word` meets its contract: a column is set where the cell's potential unit is marked. Assumes nothing.
use Prim.Native.Nat.{◌+◌, ◌*◌}
use Rattle.std.proofs.Common.{rules}
use Rattle.words.proofs.SetLaws.{only_says}
use Rattle.cell_words.proofs.NearLaws.{marked_at}
use Rattle.cell_words.proofs.marked.Marked.row_word.Goals as goal

pub returns : goal.returns
returns c =
    let s = c.args.self in
    only_says _ _ _ (c.row.ensures (λ x. marked_at s.table.now s.marks.now (c.args.y * s.grid.width + x)) (λ x set h p. search rules))
