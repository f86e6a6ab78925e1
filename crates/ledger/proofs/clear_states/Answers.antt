-- `ledger::clear_states` meets its contract: the borders of the names from here on are still to be cleared. Assumes nothing.
use native.Mathlib.Omega.{arith}
use lib.ListN.{length}
use Rattle.ledger.proofs.Turns.{border_below, clear_on, cleared}
use Rattle.ledger.proofs.clear_states.Goals as goal

pub bounds-states-border_of : goal.bounds-states-border_of
bounds-states-border_of c =
    let e = border_below c.args.names.now (length c.args.states.now) c.loop-name.name-index c.loop-name-test.true c.requires in
    omega (arith, c.border_of.ensures, e, c.loop-name.auto.states)

pub loop-name-preserved : goal.loop-name-preserved
loop-name-preserved c = clear_on c.args.names.now c.loop-name.name-index c.loop-name.states _ c.loop-name.invariant c.border_of.result c.loop-name-test.true c.border_of.ensures

pub returns : goal.returns
returns c = cleared c.args.names.now c.loop-name.name-index c.loop-name.states _ c.loop-name.invariant c.loop-name-test.false
