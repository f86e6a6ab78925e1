-- `clues::check_lists` meets its contract: a law of `ListsCode` for each answer. Assumes nothing.
use Rattle.std.proofs.Common.{sym, ◌∙◌}
use Rattle.clues.proofs.ListsCode.{not_there, not_rising, by_rooms, walls_given}
use Rattle.clues.proofs.check_lists.Goals as goal

pub returns-then-not-exist : goal.returns-then-not-exist
returns-then-not-exist c = not_there _ _ c.args.clues.now c.border_count.ensures c.exist.ensures c.if-not-exist.true

pub returns-then-not-rise : goal.returns-then-not-rise
returns-then-not-rise c = not_rising _ _ c.args.clues.now c.border_count.ensures c.exist.ensures c.if-not-exist.false (sym c.rise.ensures ∙ c.if-not-rise.true)

pub check_rooms-requires-clause-given : goal.check_rooms-requires-clause-given
check_rooms-requires-clause-given c = walls_given _ _ c.args.clues.now c.border_count.ensures c.exist.ensures c.if-not-exist.false c.requires

pub check_rooms-requires-else-is_small-clause-given : goal.check_rooms-requires-else-is_small-clause-given
check_rooms-requires-else-is_small-clause-given c = walls_given _ _ c.args.clues.now c.border_count.ensures c.exist.ensures c.if-not-exist.false c.requires

pub returns-then-is_small : goal.returns-then-is_small
returns-then-is_small c =
    c.check_rooms.ensures ∙ by_rooms _ _ c.args.clues.now c.border_count.ensures c.exist.ensures c.if-not-exist.false (sym c.rise.ensures ∙ c.if-not-rise.false)

pub returns-else-is_small : goal.returns-else-is_small
returns-else-is_small c =
    c.check_rooms-else-is_small.ensures ∙ by_rooms _ _ c.args.clues.now c.border_count.ensures c.exist.ensures c.if-not-exist.false (sym c.rise.ensures ∙ c.if-not-rise.false)
