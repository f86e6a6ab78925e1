-- `clues::check_rooms` meets its contract: a law of `ListsCode` for each answer. Assumes nothing.
use Rattle.std.proofs.Common.{true, false, sym, ◌∙◌}
use Rattle.rooms.proofs.PutLaws.{places}
use Rattle.clues.proofs.ListsCode.{sizes_long, by_sizes}
use Rattle.clues.proofs.check_rooms.Goals as goal

pub clues_fit-requires : goal.clues_fit-requires
clues_fit-requires g c =
    sizes_long c.args.grid c.args.given.now c.args.clues.now c.requires.given (places _ _ c.requires.room.0) c.rooms_of-count.ensures c.if-clues-count.false

pub returns-then-not-clues_fit : goal.returns-then-not-clues_fit
returns-then-not-clues_fit g c =
    by_sizes c.args.grid c.args.given.now c.args.clues.now c.requires.given (places _ _ c.requires.room.0) c.rooms_of-count.ensures c.if-clues-count.false
    false
    (sym c.clues_fit.ensures ∙ c.if-not-clues_fit.true)

pub returns : goal.returns
returns g c =
    by_sizes c.args.grid c.args.given.now c.args.clues.now c.requires.given (places _ _ c.requires.room.0) c.rooms_of-count.ensures c.if-clues-count.false
    true
    (sym c.clues_fit.ensures ∙ c.if-not-clues_fit.false)
