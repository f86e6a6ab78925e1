-- `offsets::places::ahead` meets its contract, arm by arm. Assumes nothing.
use mathlib.Core.Path.{sym, ap}
use Rattle.offsets.specs.Places.{ahead_of}
use Rattle.offsets.proofs.places.ahead.Goals as goal

pub returns-in-Up : goal.returns-in-Up
returns-in-Up c = sym (ap ahead_of c.in-Up.is)

pub returns-in-Down : goal.returns-in-Down
returns-in-Down c = sym (ap ahead_of c.in-Down.is)

pub returns-in-Left : goal.returns-in-Left
returns-in-Left c = sym (ap ahead_of c.in-Left.is)

pub returns-in-Right : goal.returns-in-Right
returns-in-Right c = sym (ap ahead_of c.in-Right.is)
