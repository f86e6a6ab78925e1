-- `flaws::lists` meets its contract: each list stands behind the one before it, and the calls' count is the number that is read. Assumes nothing.
use Rattle.std.proofs.Common.{◌∙◌}
use Rattle.flaws.proofs.FlawLaws.{calls_there, parts_there}
use Rattle.flaws.proofs.lists.Goals as goal

pub returns : goal.returns
returns c =
    let bs = c.args.file.now in
    let w = c.in-Some-word.ensures in
    c.calls.ensures ∙ calls_there bs c.in-Some-behind.calls_at c.from.result (w.0, c.from.ensures ∙ w.1) ∙ parts_there bs _ _ c.in-Some.ensures c.in-Some-behind.ensures
