-- The numbers that bound every record (SPEC 1.1, 1.7, 1.8, 3.6, 14.5), as the code's constants have them. Assumes nothing.
use Rattle.std.specs.Prelude.{ℕ}

-- SPEC 1.1, 1.8: cells of 32 by 32, and vertices of a room graph
abbrev pub most_cells : ℕ
most_cells = 1024

-- SPEC 1.2, 1.8: borders of 32 by 32, and edges of a room graph
abbrev pub most_borders : ℕ
most_borders = 1984

-- SPEC 3.6: nine entries for each cell
abbrev pub most_entries : ℕ
most_entries = 9216

-- SPEC 14.5: sixteen where all eight images are tried
abbrev pub most_image_entries : ℕ
most_image_entries = 16384

-- SPEC 1.7: no clue
abbrev pub no_clue : ℕ
no_clue = 65535

-- `room 1023:` with as many entries as there can be, and its line feed
abbrev pub longest_line : ℕ
longest_line = 55323
