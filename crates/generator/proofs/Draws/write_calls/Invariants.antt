-- `generator::Draws::write_calls` meets its contract: the invariant `Written` says what is left, one law a turn and one at the end. Assumes nothing.
use Rattle.generator.proofs.WriteLaws.{Written}
use Rattle.generator.proofs.Draws.write_calls.Given as goal

abbrev pub invariant-loop : goal.invariant-loop
invariant-loop l = Written l.initial.self.borders l.count l.initial.self.state l.initial.file l.file l.self.borders l.self.state l.counter l.at
