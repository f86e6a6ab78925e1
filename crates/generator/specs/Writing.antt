-- The file's parts as the code writes them: the head, and the calls behind it. Assumes nothing.
use Rattle.std.specs.Prelude.{ℕ, ◌+◌, ◌/◌, ◌%◌, ◌≤◌, List, [], ◌∷◌, length}
use Rattle.lists.specs.Lists.{gather}
use Rattle.grid.specs.declared.Grid.{Grid}
use Rattle.grid.specs.Grid.{Limits}
use Rattle.case_file.specs.Encode.{call}
use Rattle.generator.specs.Generator.{calls_from}

-- how many bytes the calls have
abbrev pub calls_length : ℕ → ℕ → ℕ → ℕ
calls_length borders n s = length (gather call (calls_from borders n s))

-- version, length, height, width, no given walls, one clue, which is none, and the count of the calls, which have so many bytes
abbrev pub head : Grid → ℕ → ℕ → List ℕ
head g n bytes =
    1 ∷ (10 + bytes) / 256 ∷ (10 + bytes) % 256 ∷ g.height ∷ g.width ∷ 0 ∷ 0 ∷ 0 ∷ 1 ∷ 255 ∷ 255 ∷ n / 256 ∷ n % 256 ∷ []

-- numbers that such a head can have, and a buffer that has its places
pub record Heading (g : Grid) (n bytes : ℕ) (file : List ℕ) : Type 0 where
  pub limits : Limits g
  pub count_fits : n ≤ 59990
  pub bytes_fit : bytes ≤ 59990
  pub places : 13 ≤ length file
