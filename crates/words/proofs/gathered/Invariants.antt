-- `words::gathered` meets its contract: the loop's invariant is the word of the codes so far. Assumes nothing.
use Rattle.words.specs.Words.{reads}
use Rattle.words.proofs.WalkLaws.{OrWalk}
use Rattle.words.proofs.gathered.Given as goal

abbrev pub invariant-loop-code : goal.invariant-loop-code
invariant-loop-code l = OrWalk (reads l.table l.at) l.codes l.word l.code-index
