-- `ledger::name_of` meets its contract: an entry less its lowest bit is twice its border. Assumes nothing.
use Rattle.ledger.proofs.NameLaws.{name_first, name_next}
use Rattle.ledger.proofs.name_of.Goals as goal

pub returns-then-i-eq0 : goal.returns-then-i-eq0
returns-then-i-eq0 c = let a = c.args in name_first a.entry a.i c.if-i-eq0.true

pub returns : goal.returns
returns c = let a = c.args in name_next a.entry a.i c.if-i-eq0.false
