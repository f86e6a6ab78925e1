-- `flaws::calls` meets its contract: the invariant says what the calls that are left come to; one law a call. Assumes nothing.
use Rattle.std.proofs.Common.{◌-◌, ◌≡◌}
use Rattle.flaws.specs.Flaws.{calls_of}
use Rattle.flaws.proofs.calls.Given as goal

abbrev pub invariant-loop : goal.invariant-loop
invariant-loop l = calls_of (l.count - l.counter) l.file l.next ≡ calls_of l.count l.file l.at
