-- `unit_codes::turned::kept_rows` meets its contract: the cells stand in row order. Assumes nothing.
use Rattle.offsets.proofs.TrialLaws.{cell_of}
use Rattle.unit_codes.proofs.OrderLaws.{end_cell, rises, kept_span}
use Rattle.unit_codes.proofs.turned.kept_rows.Goals as goal

pub place-from-requires : goal.place-from-requires
place-from-requires c = let u = c.args.unit.unit in cell_of u u.some c.from-top.ensures

pub place-last-requires : goal.place-last-requires
place-last-requires c = end_cell c.args.unit.unit c.from-end.ensures

pub overflow_sub-result : goal.overflow_sub-result
overflow_sub-result c = rises c.requires c.args.unit.unit c.from-top.ensures c.from-end.ensures c.place-from.ensures c.place-last.ensures

pub returns : goal.returns
returns c = kept_span c.requires c.args.unit.unit c.from-top.ensures c.from-end.ensures c.place-from.ensures c.place-last.ensures
