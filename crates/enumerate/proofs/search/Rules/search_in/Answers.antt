-- `Rules::search_in` meets its contract: the laws of a search's start and end. Assumes nothing.
use borrow.Author.Rules.{rules}
use Rattle.puzzle.specs.Kind.{images_of}
use Rattle.enumerate.specs.Search.{no_entries}
use Rattle.enumerate.proofs.Starting.{at_start, at_end}
use Rattle.enumerate.proofs.search.Rules.search_in.Goals as goal

pub choose_border-requires : goal.choose_border-requires
unfolding no_entries
choose_border-requires g c =
    let a = c.args in
    at_start (images_of a.self.kind) a.self.grid a.self.given.now a.self.clues.now a.states.now a.cap a.boards.now g.row.N c.requires.room.0 c.requires.started

pub returns : goal.returns
unfolding no_entries
returns g c =
    let a = c.args in
    let w = at_end (images_of a.self.kind) a.self.grid a.self.given.now a.self.clues.now a.states.now a.cap a.boards.now _ _ _ _ (search rules) c.choose_border.ensures.boards_after in
    record { value = w.0; boards_after = w.1 }
