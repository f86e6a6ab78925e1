-- `offsets::shift::along` meets its contract: before the line's first place there is none, and then the end is asked for. Assumes nothing.
use mathlib.Core.Path.{◌∙◌}
use Rattle.offsets.proofs.ReachLaws.{before_start, on_line}
use Rattle.offsets.proofs.shift.along.Goals as goal

pub returns-in_err-moved : goal.returns-in_err-moved
returns-in_err-moved c =
    let a = c.args in
    c.from_residual.ensures ∙ before_start a.count a.from a.to a.at c.checked_sub.ensures c.in_err-moved.was

pub returns : goal.returns
returns c =
    let a = c.args in
    c.then_some.ensures ∙ on_line a.count a.from a.to a.at c.checked_sub.ensures c.in_ok-moved.was
