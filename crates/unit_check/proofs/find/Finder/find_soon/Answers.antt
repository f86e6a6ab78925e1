-- `unit_check::find::Finder::find_soon` meets its contract: each unit so far fits somewhere, and nothing is marked. Assumes nothing.
use mathlib.Core.Path.{refl}
use native.Mathlib.Omega.{arith}
use lib.ListN.{length}
use Prim.Native.Nat.{◌<◌}
use Rattle.unit_check.proofs.FindLaws.{fit_on, sought_none, sought_some}
use Rattle.unit_check.proofs.FinderLaws.{kept_all, kept_then}
use Rattle.unit_check.proofs.HeldLaws.{translate_held, soon_held}
use Rattle.unit_check.proofs.find.Finder.find_soon.Goals as goal

pub loop-unit-init : goal.loop-unit-init
loop-unit-init c = record { kept = kept_all _; all_fit = c.requires.all_fit; unmarked = c.requires.unmarked }

pub mark-requires-clause-unit_exists : goal.mark-requires-clause-unit_exists
mark-requires-clause-unit_exists c = rw c.loop-unit.invariant.kept.stage (omega (arith, c.loop-unit-test.true, c.len-unit-end.ensures))

pub trial-requires-clause-unit_exists : goal.trial-requires-clause-unit_exists
trial-requires-clause-unit_exists c = rw (c.mark.ensures.kept.stage, c.loop-unit.invariant.kept.stage) (omega (arith, c.loop-unit-test.true, c.len-unit-end.ensures))

pub trial-requires-clause-marked : goal.trial-requires-clause-marked
trial-requires-clause-marked c = rw c.mark.ensures.kept.stage c.mark.ensures.marked

pub unmark-requires-clause-unit_exists : goal.unmark-requires-clause-unit_exists
unmark-requires-clause-unit_exists c = rw (c.mark.ensures.kept.stage, c.loop-unit.invariant.kept.stage) (omega (arith, c.loop-unit-test.true, c.len-unit-end.ensures))

pub unmark-requires-clause-marked : goal.unmark-requires-clause-marked
unmark-requires-clause-marked c = rw c.mark.ensures.kept.stage c.mark.ensures.marked

pub returns-then-not-fits_soon : goal.returns-then-not-fits_soon
returns-then-not-fits_soon c =
    let s = c.args.self.now.stage in
    let i = c.loop-unit.invariant in
    let e = c.trial.ensures in
    let k = kept_then _ i.kept c.mark.ensures.kept in
    let h : c.loop-unit.unit < length s.units.starts.now = omega (arith, c.loop-unit-test.true, c.len-unit-end.ensures) in
    let told = rw k.stage at (rw (e.chart_is, e.cells_are) at c.fits_soon.ensures.value) in
    record { kept = k; sought = sought_some c.loop-unit.auto.unit h i.all_fit (rw i.kept.stage at c.mark.ensures.marked) (λ t. translate_held s h (told t) c.if-not-fits_soon.true) }

pub loop-unit-preserved : goal.loop-unit-preserved
loop-unit-preserved c =
    let s = c.args.self.now.stage in
    let i = c.loop-unit.invariant in
    let e = c.trial.ensures in
    let k = kept_then _ i.kept c.mark.ensures.kept in
    let h : c.loop-unit.unit < length s.units.starts.now = omega (arith, c.loop-unit-test.true, c.len-unit-end.ensures) in
    let told = rw k.stage at (rw (e.chart_is, e.cells_are) at (c.fits_soon.ensures.cells_value c.if-not-fits_soon.false)) in
    record { kept = kept_then _ k c.unmark.ensures.kept; all_fit = fit_on i.all_fit h (soon_held s h refl told); unmarked = c.unmark.ensures.unmarked }

pub returns : goal.returns
returns c = record { kept = c.loop-unit.invariant.kept; sought = sought_none c.loop-unit.invariant.all_fit (omega (arith, c.loop-unit-test.false, c.len-unit-end.ensures)) }
