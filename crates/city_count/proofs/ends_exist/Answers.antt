-- `city_count::ends_exist` meets its contract: all first ends exist, and all second ends. Assumes nothing.
use Rattle.std.proofs.Common.{sym, ◌∙◌}
use Rattle.city_count.proofs.LoopLaws.{ends_small}
use Rattle.city_count.proofs.ends_exist.Goals as goal

pub returns-then-all_below : goal.returns-then-all_below
returns-then-all_below c =
    rw (ends_small c.args.n c.args.us.now c.args.vs.now c.requires.1, sym c.all_below.ensures ∙ c.if-all_below.true) c.all_below-then-all_below.ensures

pub returns-else-all_below : goal.returns-else-all_below
returns-else-all_below c =
    rw (ends_small c.args.n c.args.us.now c.args.vs.now c.requires.1, sym c.all_below.ensures ∙ c.if-all_below.false) c.if-all_below.false
