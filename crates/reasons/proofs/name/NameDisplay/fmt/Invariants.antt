-- `NameDisplay::fmt`: the invariant says what is left to be written. Assumes nothing.
use Rattle.std.specs.Fmt.{IsPlainFormatter}
use Rattle.reasons.proofs.NameLaws.{Writing}
use Rattle.reasons.proofs.name.NameDisplay.fmt.Given as goal

abbrev pub invariant-loop-c : goal.invariant-loop-c
invariant-loop-c g l = IsPlainFormatter l.initial.f → Writing g.W.Write.write_str_gives l.initial.f l.initial.c-iterator l.f l.c-iterator
