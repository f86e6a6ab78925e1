-- `Arcs::new` meets its contract: no arc is linked yet. Assumes nothing.
use Rattle.arcs.proofs.LinkLaws.{zeros, link_none}
use Rattle.arcs.proofs.Arcs.new.Goals as goal

pub returns : goal.returns
unfolding zeros
returns c n few = link_none n few
