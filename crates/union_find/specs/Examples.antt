-- Closed examples: unions of three vertices. Assumes nothing.
use Rattle.std.specs.Prelude.{◌≡◌, refl, true, false, [], ◌∷◌}
use Rattle.lists.specs.Lists.{range, count_from, all}
use Rattle.union_find.specs.Chains.{climb, shortened, united, hung, parents_exist, chains_end}
use Rattle.union_find.specs.UnionFind.{holds_of}

-- 0 is hung under 1
first : (united 3 (0 ∷ 1 ∷ 2 ∷ []) 0 1 ≡ true) × (hung 3 (0 ∷ 1 ∷ 2 ∷ []) 0 1 ≡ 1 ∷ 1 ∷ 2 ∷ [])
unfolding climb shortened united hung
first = (refl, refl)

-- 0's root 1 is hung under 2
second : hung 3 (1 ∷ 1 ∷ 2 ∷ []) 0 2 ≡ 1 ∷ 2 ∷ 2 ∷ []
unfolding climb shortened united hung
second = refl

-- 0 finds 2 by way of 1, and then names it
third : (climb 3 (1 ∷ 2 ∷ 2 ∷ []) 0 ≡ 2) × (shortened 3 (1 ∷ 2 ∷ 2 ∷ []) 0 ≡ 2 ∷ 2 ∷ 2 ∷ [])
unfolding climb shortened
third = (refl, refl)

-- in one part already
fourth : (united 3 (2 ∷ 2 ∷ 2 ∷ []) 0 1 ≡ false) × (hung 3 (2 ∷ 2 ∷ 2 ∷ []) 0 1 ≡ 2 ∷ 2 ∷ 2 ∷ [])
unfolding climb shortened united hung
fourth = (refl, refl)

-- a chain that does not end, a parent that does not exist, and parents that hold together
endless : holds_of 3 (1 ∷ 0 ∷ 2 ∷ []) ≡ false
unfolding climb parents_exist chains_end all range count_from
endless = refl

missing : holds_of 3 (0 ∷ 3 ∷ 2 ∷ []) ≡ false
unfolding climb parents_exist chains_end all range count_from
missing = refl

good : holds_of 3 (1 ∷ 2 ∷ 2 ∷ []) ≡ true
unfolding climb parents_exist chains_end all range count_from
good = refl
