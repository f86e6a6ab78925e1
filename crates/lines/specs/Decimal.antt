-- Numbers in decimal (SPEC 5.4). Assumes nothing.
use Rattle.std.specs.Prelude.{ℕ, zero, suc, ◌+◌, ◌*◌, ◌-◌, ◌/◌, ◌%◌, List, [], ◌∷◌, ◌++◌, ltb}
use Rattle.lists.specs.Choice.{pick}

-- the digits of n in ASCII, the most significant first, at most so many
unfoldable pub digits_of : ℕ → ℕ → List ℕ
digits_of zero n = []
digits_of (suc places) n = pick (ltb n 10) [] (digits_of places (n / 10)) ++ ((48 + n % 10) ∷ [])

-- a number of 64 bits has at most 20 digits
abbrev pub decimal_of : ℕ → List ℕ
decimal_of n = digits_of 20 n

-- the number that digits say, read from the left behind a
unfoldable pub value_from : ℕ → List ℕ → ℕ
value_from a [] = a
value_from a (d ∷ ds) = value_from (10 * a + (d - 48)) ds
