-- `generator::Draws::calls_length` meets its contract: the invariant `Counting` says what is left, one law a turn and one at the end. Assumes nothing.
use Rattle.generator.proofs.WriteLaws.{Counting}
use Rattle.generator.proofs.Draws.calls_length.Given as goal

abbrev pub invariant-loop : goal.invariant-loop
invariant-loop l = Counting l.initial.self.borders l.count l.initial.self.state l.self.borders l.self.state l.counter l.length
