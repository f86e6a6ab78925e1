-- A file, written: SPEC 5.1 and 5.2 from the other side. Reading and writing are shown to be inverse, so this is what a sound file is. Assumes nothing.
use Rattle.std.specs.Prelude.{ℕ, ◌/◌, ◌%◌, List, [], ◌∷◌, ◌++◌, length}
use Rattle.lists.specs.Choice.{pick}
use Rattle.lists.specs.Lists.{gather}
use Rattle.case_file.specs.declared.Call.{Call}
use Rattle.case_file.specs.declared.Call.TheVariants.{Undo, Decide, Ask}
use Rattle.case_file.specs.Sound.{Case}

-- 16 bits, big-endian
abbrev pub word : ℕ → List ℕ
word n = n / 256 ∷ n % 256 ∷ []

abbrev pub call : Call → List ℕ
call Undo = 0 ∷ []
call (Decide border wall) = pick wall 2 1 ∷ word border
call Ask = 3 ∷ []

-- items with their count in front
unfoldable pub counted : {A : Type 0} → (A → List ℕ) → List A → List ℕ
unfolding gather
counted f xs = word (length xs) ++ gather f xs

unfoldable pub rest : Case → List ℕ
unfolding counted
rest f = f.height ∷ f.width ∷ (counted word f.walls ++ (counted word f.clues ++ counted call f.calls))

unfoldable pub encode : Case → List ℕ
unfolding rest
encode f = 1 ∷ (word (length (rest f)) ++ rest f)
