-- `NameDisplay::fmt` writes its text: one law a character, and the end. Assumes nothing.
use Rattle.std.proofs.Common.{true, refl, ap, ◌∙◌}
use Rattle.std.specs.Prelude.{encode_utf8}
use Rattle.std.proofs.Output.{has_written_of_eq}
use Rattle.reasons.proofs.NameLaws.{shown_text, writing_starts, writing_more, writing_ends}
use Rattle.reasons.proofs.name.NameDisplay.fmt.Goals as goal

pub loop-c-init : goal.loop-c-init
loop-c-init g c p = writing_starts g.W.Write.write_str_gives _ _ p

pub loop-c-preserved : goal.loop-c-preserved
loop-c-preserved g c p =
    let w = c.loop-c.invariant p in
    let one = has_written_of_eq _ _ _ _ _ (ap encode_utf8 c.shown.ensures) (c.in_ok-write_char.ensures.writes w.plain (refl {a = true})) in
    writing_more g.W.Write.write_str_gives w _ _ _ c.in-Some.ensures.steps one

pub returns-clause-writes : goal.returns-clause-writes
returns-clause-writes g c p k =
    let items = c.into_iter-c-iterator.ensures.into_iter_gives ∙ c.chars-c-items.ensures.value in
    has_written_of_eq _ _ _ _ _ (ap shown_text items) (writing_ends g.W.Write.write_str_gives (c.loop-c.invariant p) c.in-None.ensures.steps.0)
