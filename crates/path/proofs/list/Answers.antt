-- `path::list` meets its contract: the search's arrays say whether the target was found, and lead back by its list. Assumes nothing.
use mathlib.Core.Path.{ap, ◌∙◌}
use mathlib.Core.Bool.{not}
use native.Mathlib.Omega.{arith}
use Rattle.grid.proofs.Geometry.{cells_le}
use Rattle.answers.specs.declared.Refusal.TheVariants.{NotJoined}
use Rattle.path.specs.Answer.{joined}
use Rattle.path.proofs.Answers.{asks, fresh, not_found, found, found_back, walks, gives_number, gives_list}
use Rattle.path.proofs.list.Goals as goal

pub search_from-requires : goal.search_from-requires
search_from-requires c = record { cells = c.requires.cells; fresh = fresh }

pub bounds-trace-target : goal.bounds-trace-target
bounds-trace-target c = omega (arith, c.requires.cells.1, cells_le _ c.args.b.fits.limits)

pub returns-then-is_none : goal.returns-then-is_none
returns-then-is_none c = let w = gives_number _ NotJoined c.args.buffer.now (ap joined (not_found (asks c.args.b.fits c.requires.cells) c.search_from.ensures (c.is_none.ensures ∙ ap not c.if-is_none.true))) in record { value = w.0; buffer_after = w.1 }

pub walk_back-requires : goal.walk_back-requires
walk_back-requires c =
    walks (asks c.args.b.fits c.requires.cells) c.search_from.ensures (c.is_none.ensures ∙ ap not c.if-is_none.false) c.args.buffer.now c.requires.width_in_bounds

pub returns : goal.returns
returns c =
    let o = found (asks c.args.b.fits c.requires.cells) c.search_from.ensures (c.is_none.ensures ∙ ap not c.if-is_none.false) in let w = gives_list _ o.0 _ c.args.buffer.now _ (ap joined o.1) (c.walk_back.ensures o.0 (found_back (asks c.args.b.fits c.requires.cells) c.search_from.ensures (c.is_none.ensures ∙ ap not c.if-is_none.false))) in record { value = w.0; buffer_after = w.1 }
