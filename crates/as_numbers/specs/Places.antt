-- An answer of `Grid::neighbour` as numbers. Assumes nothing.
use Rattle.std.specs.Prelude.{true, false, Option, Some, None, Result, Ok, Err}
use Rattle.answers.specs.declared.Refusal.{Refusal}
use Rattle.answers.specs.Refusals.{number_of}
use Rattle.grid.specs.declared.Neighbour.{Neighbour}
use Rattle.as_numbers.specs.declared.places.Place.{Place}

-- the neighbour and the border; or that the board ends; or the refusal's number
abbrev pub place_of : Result (Option Neighbour) Refusal → Place
place_of (Ok (Some n)) = record { code = 0; ends = false; cell = n.cell; border = n.border }
place_of (Ok None) = record { code = 0; ends = true; cell = 0; border = 0 }
place_of (Err e) = record { code = number_of e; ends = false; cell = 0; border = 0 }
