-- The answer about a puzzle's right boards as numbers (SPEC 10.2). Assumes nothing.
use Rattle.std.specs.Prelude.{false}
use Rattle.enumerate.specs.Boards.{Boards}
use Rattle.enumerate.specs.Boards.{Listed, Refused}
use Rattle.as_numbers.specs.declared.boards.Listing.{Listing}

abbrev pub listing_of : Boards → Listing
listing_of (Listed n more) = record { code = 0; more = more; count = n }
listing_of (Refused k) = record { code = k; more = false; count = 0 }
