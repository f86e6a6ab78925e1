-- `lines::pen::Pen::entries` meets its contract: the invariant `Spacing` says what is written, one law a turn and one at the end. Assumes nothing.
use Rattle.lines.proofs.LineLaws.{Spacing}
use Rattle.lines.proofs.pen.Pen.entries.Given as goal

abbrev pub invariant-loop-entry : goal.invariant-loop-entry
invariant-loop-entry l = Spacing l.list l.initial.self l.self l.entry-index
