-- `clues::rise` meets its contract: the library tests each wall and the next. Assumes nothing.
use Rattle.std.proofs.Common.{rules}
use Rattle.std.proofs.lemmas.List.Sorted.{answers_always}
use lib.Dec.{ltb}
use Rattle.clues.proofs.Loops.{rise_by}
use Rattle.clues.proofs.rise.Goals as goal

pub returns : goal.returns
returns c = rise_by c.args.given.now c.is_sorted_by.result (c.is_sorted_by.ensures.cases ltb (answers_always _ _ _ (λ f a r g h. search rules)))
