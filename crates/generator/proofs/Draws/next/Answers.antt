-- `generator::Draws::next` meets its contract: by the four ways of `DrawLaws`. Assumes nothing.
use Rattle.std.proofs.Common.{arith}
use Rattle.generator.proofs.DrawLaws.{undo_drawn, ask_drawn, none_drawn, border_drawn}
use Rattle.generator.proofs.Draws.next.Goals as goal

pub returns-in-0-clause-drawn : goal.returns-in-0-clause-drawn
returns-in-0-clause-drawn c = undo_drawn _ _ _ c.next_state-s.ensures c.in-0.is

pub returns-in-3-clause-drawn : goal.returns-in-3-clause-drawn
returns-in-3-clause-drawn c = ask_drawn _ _ _ c.next_state-s.ensures c.in-3.is

pub returns-in_default-clause-drawn : goal.returns-in_default-clause-drawn
returns-in_default-clause-drawn c = none_drawn _ _ _ c.next_state-s.ensures (omega arith) (omega arith) c.if-self-eq0.true

pub returns-in_default-2-clause-drawn : goal.returns-in_default-2-clause-drawn
returns-in_default-2-clause-drawn c =
    border_drawn _ _ _ c.next_state-s.ensures (omega arith) (omega arith) _ c.next_state-self.ensures c.if-self-eq0.false
