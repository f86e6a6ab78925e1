-- the measure of `UnionFind::climb` is the depth
use Rattle.union_find.proofs.UnionFind.+climb.Given as goal

abbrev pub decreases-climb : goal.decreases-climb
decreases-climb l = l.depth
