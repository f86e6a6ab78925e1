-- `row_trials::fits_turned` meets its contract: the codes of the unit's image are written, and its rows tried. Assumes nothing.
use mathlib.Core.Path.{sym}
use Rattle.std.proofs.lemmas.List.{length-take-le}
use Rattle.cell_words.proofs.OwnLaws.{blank}
use Rattle.row_trials.proofs.CodedLaws.{count_fits, more_fits, first_low, coded}
use Rattle.row_trials.proofs.fits_turned.Goals as goal

pub add_cells-requires-clause-blank : goal.add_cells-requires-clause-blank
add_cells-requires-clause-blank c = blank c.args.trial.placed.limits

pub slice_bounds-codes-end : goal.slice_bounds-codes-end
slice_bounds-codes-end c = count_fits _ _ _ _ c.requires.asking.codes_long c.write_cells-count.ensures

pub slice_bounds-codes-end-2 : goal.slice_bounds-codes-end-2
slice_bounds-codes-end-2 c = sym (length-take-le _ _ (count_fits _ _ _ _ c.requires.asking.codes_long c.write_cells-count.ensures))

pub slice_bounds-coded-end : goal.slice_bounds-coded-end
slice_bounds-coded-end c = more_fits _ _ _ _ _ _ c.requires.asking.borders_long c.write_borders-more.ensures

pub slice_bounds-coded-end-2 : goal.slice_bounds-coded-end-2
slice_bounds-coded-end-2 c = sym (length-take-le _ _ (more_fits _ _ _ _ _ _ c.requires.asking.borders_long c.write_borders-more.ensures))

pub invariant_of-coded : goal.invariant_of-coded
invariant_of-coded c =
    record { coded = coded c.find_rows-rows.ensures c.requires.asking c.write_cells-count.ensures c.write_borders-more.ensures c.add_cells.ensures c.common.ensures }

pub fits_somewhere-requires-clause-row_in : goal.fits_somewhere-requires-clause-row_in
fits_somewhere-requires-clause-row_in c = first_low c.args.trial.unit.unit c.first.ensures c.from.ensures
