-- `path::Trace::search_from` meets its contract: the invariant `Going`, one law of `Loop` for the start, a turn and each of the two ends. Assumes nothing.
use mathlib.Core.Path.{refl, sym, ◌∙◌}
use native.Mathlib.Omega.{arith}
use Rattle.grid.proofs.Geometry.{cells_le}
use Rattle.path.proofs.Answers.{asks}
use Rattle.path.proofs.Loop.{going_start, going_end, going_found, going_look, going_on, head_fits}
use Rattle.path.proofs.Trace.search_from.Goals as goal

pub bounds-self-start : goal.bounds-self-start
bounds-self-start c = omega (arith, (asks c.args.self.now.borders.fits c.requires.cells).start_cell, cells_le _ (asks c.args.self.now.borders.fits c.requires.cells).limits, c.requires.fresh.found_long)

pub loop-head-init : goal.loop-head-init
loop-head-init c = (refl, going_start (asks c.args.self.now.borders.fits c.requires.cells) c.requires.fresh)

pub bounds-self-head : goal.bounds-self-head
bounds-self-head c =
    omega (arith, c.loop-head.invariant.1.kept.queue_long, head_fits (asks c.args.self.now.borders.fits c.requires.cells) c.loop-head.invariant.1 c.loop-head-test.true)

pub returns-then-cell-target : goal.returns-then-cell-target
returns-then-cell-target c =
    going_found (asks c.args.self.now.borders.fits c.requires.cells) c.loop-head.invariant.1 c.loop-head-test.true (sym c.from-cell.ensures ∙ c.if-cell-target.true)

pub overflow_add-head : goal.overflow_add-head
overflow_add-head c = omega (arith, head_fits (asks c.args.self.now.borders.fits c.requires.cells) c.loop-head.invariant.1 c.loop-head-test.true)

pub look_round-requires : goal.look_round-requires
look_round-requires c =
    rw (c.loop-head.invariant.0, c.from-cell.ensures) (going_look (asks c.args.self.now.borders.fits c.requires.cells) c.loop-head.invariant.1 c.loop-head-test.true)

pub loop-head-smaller : goal.loop-head-smaller
loop-head-smaller c = omega (arith, c.loop-head-test.true, c.loop-head.invariant.1.kept.room)

pub loop-head-preserved : goal.loop-head-preserved
loop-head-preserved c =
    (c.look_round.ensures.same ∙ c.loop-head.invariant.0, going_on (asks c.args.self.now.borders.fits c.requires.cells) c.loop-head.invariant.1 c.loop-head-test.true (rw c.from-cell.ensures at c.if-cell-target.false) (rw (c.loop-head.invariant.0, c.from-cell.ensures) at c.look_round.ensures.follows))

pub returns : goal.returns
returns c = going_end (asks c.args.self.now.borders.fits c.requires.cells) c.loop-head.invariant.1 c.loop-head-test.false
