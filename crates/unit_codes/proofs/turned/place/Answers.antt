-- `unit_codes::turned::place` meets its contract: the table has the cell's row and column. Assumes nothing.
use Rattle.unit_codes.proofs.SpanLaws.{stands}
use Rattle.unit_codes.proofs.turned.place.Goals as goal

pub returns : goal.returns
returns c = stands c.args.image c.args.chart.table_of c.requires c.spot.ensures c.spot-2.ensures
