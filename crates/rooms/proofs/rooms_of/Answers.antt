-- `rooms::rooms_of` meets its contract: one room, or the rooms of given walls. Assumes nothing.
use Rattle.std.proofs.Common.{◌≡◌, ◌++◌, ◌≤◌, length, drop, replicate, rules}
use Rattle.std.proofs.lemmas.List.Edits.{sets}
use Rattle.lists.proofs.SetsLaws.{front_filled}
use Rattle.rooms.proofs.OneRoom.{one_roomed}
use Rattle.rooms.proofs.rooms_of.Goals as goal

pub returns-then-is_empty : goal.returns-then-is_empty
returns-then-is_empty c =
    let n = c.cell_count-n.result in
    let ids = c.args.ids.now in
    let none : length c.args.given.now ≡ 0 = search rules in
    let h : n ≤ length ids = search rules in
    let filled : c.fill.new.self ++ drop n ids ≡ sets ids 0 (replicate n 0) = rw (c.fill.ensures.after (λ y e. e)) (front_filled ids n 0 h) in
    rw c.cell_count-n.ensures
    (one_roomed c.args.g c.requires.given.limits c.args.given.now ids c.args.sizes.now _ none (rw c.cell_count-n.ensures at filled))
