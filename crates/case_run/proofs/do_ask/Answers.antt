-- `case_run::do_ask` meets its contract: the arrays are as long as the kind asks. Assumes nothing.
use Rattle.std.proofs.Common.{arith}
use Rattle.case_run.proofs.AskLaws.{translates_enough, images_enough}
use Rattle.case_run.proofs.do_ask.Goals as goal

pub do_ask_in-requires-clause-enough : goal.do_ask_in-requires-clause-enough
do_ask_in-requires-clause-enough c = (translates_enough c.args.puzzle.now c.if-puzzle-eq0.true, omega arith)

pub do_ask_in-requires-else-puzzle-eq0-clause-enough : goal.do_ask_in-requires-else-puzzle-eq0-clause-enough
do_ask_in-requires-else-puzzle-eq0-clause-enough c = (images_enough c.args.puzzle.now, omega arith)
