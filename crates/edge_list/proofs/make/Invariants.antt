-- `edge_list::make` meets its contract: the ends of the edges so far are copied.
use Rattle.edge_list.proofs.Laws.{Copied}
use Rattle.edge_list.proofs.make.Given as goal

abbrev pub invariant-loop-i : goal.invariant-loop-i
invariant-loop-i l = Copied l.edges l.i l.us l.vs
