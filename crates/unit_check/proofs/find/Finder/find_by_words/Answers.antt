-- `unit_check::find::Finder::find_by_words` meets its contract: each unit so far fits somewhere, the next one has its marks, and the stamps hold. Assumes nothing.
use Prim.Native.Nat.{ℕ}
use mathlib.Core.Path.{refl}
use native.Mathlib.Omega.{arith}
use lib.ListN.{length-replicate}
use Rattle.grid.proofs.Geometry.{cells_le}
use Rattle.lists.proofs.ListLaws.{zeros_at}
use Rattle.cell_words.proofs.NearLaws.{none_stamped}
use Rattle.unit_check.proofs.FindLaws.{fit_on, fit_there, pending_first, pending_next, unfit_none, unfit_some, still_less}
use Rattle.unit_check.proofs.FinderLaws.{kept_all, kept_then}
use Rattle.unit_check.proofs.HeldLaws.{units_held, fits_held}
use Rattle.unit_check.proofs.find.Finder.find_by_words.Goals as goal

pub fill-requires-clause-unfilled : goal.fill-requires-clause-unfilled
fill-requires-clause-unfilled g c = zeros_at 132

pub loop-next-init : goal.loop-next-init
loop-next-init g c =
    record {
      kept = kept_all _;
      pending = pending_first c.requires.from_exists c.requires.all_fit c.requires.marked;
      prepared = record {
        whole = c.full_word.ensures;
        words_are = c.fill.ensures;
        codes_long = omega (arith, length-replicate {A = ℕ} g.row.N 0, c.requires.room);
        borders_long = omega (arith, length-replicate {A = ℕ} g.row.BORDERS 0, c.requires.room);
        stamped = none_stamped c.args.self.now.stage.chart.borders.fits.limits.height_fits _ _ _ refl refl;
      };
    }

pub trial-trial-requires-clause-unit_exists : goal.trial-trial-requires-clause-unit_exists
trial-trial-requires-clause-unit_exists g c = let i = c.loop-next.invariant in rw i.kept.stage (i.pending.some _ c.in-Some.is)

pub trial-trial-requires-clause-marked : goal.trial-trial-requires-clause-marked
trial-trial-requires-clause-marked g c = let i = c.loop-next.invariant in rw i.kept.stage (i.pending.marked _ c.in-Some.is)

pub fits-requires : goal.fits-requires
fits-requires g c =
    let e = c.trial-trial.ensures in
    let i = c.loop-next.invariant in
    rw (e.chart_is, i.kept.stage) i.prepared

pub returns-then-not-fits : goal.returns-then-not-fits
returns-then-not-fits g c =
    let e = c.trial-trial.ensures in
    let i = c.loop-next.invariant in
    let p = i.pending in
    let h = p.some _ c.in-Some.is in
    let told = rw i.kept.stage at (rw (e.chart_is, e.cells_are) at c.fits.ensures.value) in
    record { kept = i.kept; unfit = unfit_some h (fit_there (p.before _ c.in-Some.is) (λ q. fits_held c.args.self.now.stage h told c.if-not-fits.true)) (p.marked _ c.in-Some.is) }

pub unmark-requires-clause-unit_exists : goal.unmark-requires-clause-unit_exists
unmark-requires-clause-unit_exists g c = let i = c.loop-next.invariant in rw i.kept.stage (i.pending.some _ c.in-Some.is)

pub unmark-requires-clause-marked : goal.unmark-requires-clause-marked
unmark-requires-clause-marked g c = let i = c.loop-next.invariant in rw i.kept.stage (i.pending.marked _ c.in-Some.is)

pub overflow_add-unit : goal.overflow_add-unit
overflow_add-unit g c =
    let s = c.args.self.now.stage in
    omega (arith, c.loop-next.invariant.pending.some _ c.in-Some.is, (units_held s).few, cells_le s.chart.borders.grid s.chart.borders.fits.limits)

pub find_soon-next-requires-clause-all_fit : goal.find_soon-next-requires-clause-all_fit
find_soon-next-requires-clause-all_fit g c =
    let e = c.trial-trial.ensures in
    let i = c.loop-next.invariant in
    let p = i.pending in
    let h = p.some _ c.in-Some.is in
    let told = rw i.kept.stage at (rw (e.chart_is, e.cells_are) at c.fits.ensures.value) in
    rw (kept_then _ i.kept c.unmark.ensures.kept).stage (fit_on (p.before _ c.in-Some.is) h (fits_held c.args.self.now.stage h told c.if-not-fits.false))

pub loop-next-smaller : goal.loop-next-smaller
loop-next-smaller g c =
    let i = c.loop-next.invariant in
    let sought = rw (kept_then _ i.kept c.unmark.ensures.kept).stage at c.find_soon-next.ensures.sought in
    still_less c.in-Some.is (i.pending.some _ c.in-Some.is) sought.some

pub loop-next-preserved : goal.loop-next-preserved
loop-next-preserved g c =
    let e = c.trial-trial.ensures in
    let i = c.loop-next.invariant in
    let k = kept_then _ i.kept c.unmark.ensures.kept in
    record {
      kept = kept_then _ k c.find_soon-next.ensures.kept;
      pending = pending_next (rw k.stage at c.find_soon-next.ensures.sought);
      prepared = rw i.kept.stage at (rw (e.chart_is) at c.fits.ensures.prepared);
    }

pub returns : goal.returns
returns g c = let i = c.loop-next.invariant in record { kept = i.kept; unfit = unfit_none (i.pending.none c.in_default.is) }
