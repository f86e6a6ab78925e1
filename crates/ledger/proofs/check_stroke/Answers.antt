-- `ledger::check_stroke` meets its contract: a law for each number. Assumes nothing.
use mathlib.Core.Path.{sym, ◌∙◌}
use lib.ListN.{length}
use Rattle.limits.specs.Limits.{most_borders}
use Rattle.ledger.specs.Ledger.{decisions}
use Rattle.ledger.specs.Books.{state_at}
use Rattle.ledger.proofs.Strokes.{exist_more}
use Rattle.ledger.proofs.Codes.{not_there, there_twice, not_free, no_refusal}
use Rattle.ledger.proofs.check_stroke.Goals as goal

pub none_twice-requires : goal.none_twice-requires
none_twice-requires c = exist_more c.args.n most_borders (decisions c.args.entries.now) c.requires.1 (sym c.all_exist.ensures ∙ c.if-not-all_exist.false)

pub all_free-requires : goal.all_free-requires
all_free-requires c =
    exist_more c.args.n (length c.args.states.now) (decisions c.args.entries.now) c.requires.0 (sym c.all_exist.ensures ∙ c.if-not-all_exist.false)

pub returns-then-not-all_exist : goal.returns-then-not-all_exist
returns-then-not-all_exist c = not_there c.args.n (state_at c.args.states.now) (decisions c.args.entries.now) (sym c.all_exist.ensures ∙ c.if-not-all_exist.true)

pub returns-then-not-none_twice : goal.returns-then-not-none_twice
returns-then-not-none_twice c =
    there_twice c.args.n (state_at c.args.states.now) (decisions c.args.entries.now) (sym c.all_exist.ensures ∙ c.if-not-all_exist.false) (sym c.none_twice.ensures ∙ c.if-not-none_twice.true)

pub returns-then-not-all_free : goal.returns-then-not-all_free
returns-then-not-all_free c =
    not_free c.args.n (state_at c.args.states.now) (decisions c.args.entries.now) (sym c.all_exist.ensures ∙ c.if-not-all_exist.false) (sym c.none_twice.ensures ∙ c.if-not-none_twice.false) (sym c.all_free.ensures ∙ c.if-not-all_free.true)

pub returns : goal.returns
returns c =
    no_refusal c.args.n (state_at c.args.states.now) (decisions c.args.entries.now) (sym c.all_exist.ensures ∙ c.if-not-all_exist.false) (sym c.none_twice.ensures ∙ c.if-not-none_twice.false) (sym c.all_free.ensures ∙ c.if-not-all_free.false)
