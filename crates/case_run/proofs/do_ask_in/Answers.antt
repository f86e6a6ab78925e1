-- `case_run::do_ask_in` meets its contract: the line has no more entries than the longest. Assumes nothing.
use Rattle.std.proofs.Common.{arith}
use Rattle.case_run.proofs.do_ask_in.Goals as goal

pub shared_whole_as_front-put_line : goal.shared_whole_as_front-put_line
shared_whole_as_front-put_line g c = (omega (arith, c.ask_line-line.ensures.within, c.ask_line-line.auto.list), omega (arith, c.requires.enough.1))
