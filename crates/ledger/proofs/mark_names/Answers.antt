-- `ledger::mark_names` meets its contract: names below twice n are of borders, each with its mark. Assumes nothing.
use mathlib.Core.Path.{sym, ◌∙◌}
use lib.ListN.{length}
use Rattle.ledger.proofs.Turns.{walk_out, halves_below, marked_within}
use Rattle.ledger.proofs.mark_names.Goals as goal

pub mark_each-requires : goal.mark_each-requires
mark_each-requires c =
    halves_below c.args.names.now c.args.n (length c.args.marks.now) c.requires.0 (sym c.all_below.ensures ∙ c.if-all_below.true)

pub returns-then-all_below : goal.returns-then-all_below
returns-then-all_below c =
    marked_within c.args.names.now c.args.n (length c.args.marks.now) c.requires.0 (sym c.all_below.ensures ∙ c.if-all_below.true) c.args.marks.now c.mark_each.new.marks c.mark_each.result c.mark_each.ensures

pub returns-else-all_below : goal.returns-else-all_below
returns-else-all_below c = rw c.if-all_below.false (walk_out c.args.names.now c.args.n c.args.marks.now c.requires.0 (sym c.all_below.ensures ∙ c.if-all_below.false))
