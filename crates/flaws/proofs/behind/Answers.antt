-- `flaws::behind` meets its contract: the count is the number that is read, and the list ends within the file or does not. Assumes nothing.
use Rattle.std.proofs.Common.{◌∙◌}
use Rattle.flaws.proofs.FlawLaws.{behind_cut, behind_fits}
use Rattle.flaws.proofs.behind.Goals as goal

pub returns-then-file-end : goal.returns-then-file-end
returns-then-file-end c =
    let w = c.in_ok-word.ensures in
    behind_cut c.args.file.now c.args.at _ (w.0, c.from-count.ensures ∙ w.1) c.if-file-end.true

pub returns : goal.returns
returns c =
    let w = c.in_ok-word.ensures in
    behind_fits c.args.file.now c.args.at _ (w.0, c.from-count.ensures ∙ w.1) c.if-file-end.false
