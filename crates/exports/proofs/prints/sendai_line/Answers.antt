-- `exports::prints::sendai_line` meets its contract: what its three calls ensure, put together. Assumes nothing.
use mathlib.Core.Path.{ap, ◌∙◌}
use lib.ListN.{length}
use Rattle.answers.specs.Answers.{Outcome, plain_listed, written}
use Rattle.answers.specs.Listed.{Listed}
use Rattle.answers.specs.Refusals.{listed_plain}
use Rattle.lines.specs.declared.Line.{Line}
use Rattle.lines.specs.Line.{line_into}
use Rattle.exports.proofs.prints.sendai_line.Goals as goal

pub returns : goal.returns
returns c =
    let args = c.args in
    let into : Line → Outcome = λ l. line_into l args.entries.now (length args.buffer.now) in
    record {
      value = c.from.ensures ∙ ap (λ (a : Listed). plain_listed a) c.write_line.ensures.value ∙ ap (λ l. listed_plain (into l)) c.line_of-line.ensures;
      buffer_after = c.write_line.ensures.buffer_after ∙ ap (λ l. written (into l) args.buffer.now) c.line_of-line.ensures;
    }
