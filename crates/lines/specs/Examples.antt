-- Lines of SPEC 5.4 and 7.9, computed. Assumes nothing.
use Rattle.std.specs.Prelude.{◌≡◌, refl, [], ◌∷◌}
use Rattle.lists.specs.Lists.{gather}
use Rattle.lines.specs.Decimal.{digits_of, decimal_of}
use Rattle.lines.specs.Line.{spaced_of, line_of}
use Rattle.lines.specs.declared.Line.TheVariants.{Shape, Room, Refused}

-- "65535"
pub decimal : decimal_of 65535 ≡ 54 ∷ 53 ∷ 53 ∷ 51 ∷ 53 ∷ []
unfolding digits_of
decimal = refl

pub zero : decimal_of 0 ≡ 48 ∷ []
unfolding digits_of
zero = refl

-- "shape: 1 2"
pub shape : line_of Shape (1 ∷ 2 ∷ []) ≡ 115 ∷ 104 ∷ 97 ∷ 112 ∷ 101 ∷ 58 ∷ 32 ∷ 49 ∷ 32 ∷ 50 ∷ 10 ∷ []
unfolding digits_of spaced_of gather
shape = refl

-- "room 4:" with no entry
pub room : line_of (Room 4) [] ≡ 114 ∷ 111 ∷ 111 ∷ 109 ∷ 32 ∷ 52 ∷ 58 ∷ 10 ∷ []
unfolding digits_of spaced_of gather
room = refl

-- "refused 4"
pub refused : line_of (Refused 4) [] ≡ 114 ∷ 101 ∷ 102 ∷ 117 ∷ 115 ∷ 101 ∷ 100 ∷ 32 ∷ 52 ∷ 10 ∷ []
unfolding digits_of
refused = refl
