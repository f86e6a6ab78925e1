-- `ledger::none_twice` meets its contract: marks of zeros are free. Assumes nothing.
use mathlib.Core.Path.{◌≡◌, ap, ◌∙◌}
use mathlib.Core.Bool.{true}
use native.Mathlib.Omega.{arith}
use lib.Dec.{ltb}
use lib.ListN.{length}
use Rattle.ledger.specs.Ledger.{Decision, decisions, all_exist}
use Rattle.ledger.specs.Books.{zeros}
use Rattle.ledger.specs.Marks.{new_names}
use Rattle.ledger.proofs.MarkLaws.{all_front, all_rest, front_tells, rest_tells}
use Rattle.ledger.proofs.StrokeLoops.{too_short, by_marks}
use Rattle.ledger.proofs.Turns.{all_entries, entries_half}
use Rattle.ledger.proofs.BookLaws.{zero_at, zeros_length}
use Rattle.ledger.proofs.none_twice.Goals as goal

pub returns-then-entries-lt2 : goal.returns-then-entries-lt2
returns-then-entries-lt2 c = too_short c.args.entries.now c.if-entries-lt2.true

pub mark_each-requires : goal.mark_each-requires
unfolding zeros
mark_each-requires c =
    let q : all_exist (length zeros) (decisions c.args.entries.now) ≡ true = rw zeros_length c.requires in
    all_front _ _ c.args.entries.now (all_entries (λ (d : Decision). ltb d.border (length zeros)) c.args.entries.now ∙ q)

pub mark_each-requires-then-mark_each : goal.mark_each-requires-then-mark_each
unfolding zeros
mark_each-requires-then-mark_each c =
    let k : length c.mark_each.new.marks ≡ length zeros = omega arith in
    let q : all_exist (length zeros) (decisions c.args.entries.now) ≡ true = rw zeros_length c.requires in
    rw k (all_rest _ _ c.args.entries.now (all_entries (λ (d : Decision). ltb d.border (length zeros)) c.args.entries.now ∙ q))

-- the front and what is behind it, marked one after the other, are the stroke
pub returns-then-mark_each : goal.returns-then-mark_each
unfolding zeros
returns-then-mark_each c =
    let es = c.args.entries.now in
    rest_tells (length zeros) _ zeros es c.mark_each.ensures c.if-mark_each.true (omega arith) c.mark_each-then-mark_each.ensures
    ∙ ap (new_names (length zeros) zeros) (entries_half es)
    ∙ by_marks (length zeros) es zeros (rw zeros_length c.requires) (omega arith) zero_at

pub returns-else-mark_each : goal.returns-else-mark_each
unfolding zeros
returns-else-mark_each c =
    let es = c.args.entries.now in
    front_tells (length zeros) _ zeros es c.mark_each.ensures c.if-mark_each.false
    ∙ ap (new_names (length zeros) zeros) (entries_half es)
    ∙ by_marks (length zeros) es zeros (rw zeros_length c.requires) (omega arith) zero_at
