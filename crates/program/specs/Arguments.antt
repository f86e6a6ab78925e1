-- SPEC 5.7: what the program is asked to do by its arguments. Assumes nothing.
use Rattle.std.specs.Prelude.{ℕ, Bool, true, false, List, [], ◌∷◌, eqb, codes, bytes_eq, Option, Some, None, Result, Ok, Err}
use Rattle.std.specs.Borrow.{Bor}
use Rattle.lists.specs.Choice.{pick}
use Rattle.reasons.specs.declared.said.Misuse.{Misuse}
use Rattle.reasons.specs.declared.said.Misuse.TheVariants.{UnknownOption, TooMany, LongArgument}
use Rattle.program.specs.declared.arguments.Request.{Request}
use Rattle.program.specs.declared.arguments.Request.TheVariants.{Help, Version, Run}

-- a request or a misuse, with the words themselves where the code has references to them
pub data Asked : Type 0 where
  help : Asked
  version : Asked
  run : List ℕ → Asked
  unknown : List ℕ → Asked
  too_many : Asked
  long : Asked

abbrev pub asked_in : Result Request Misuse → Asked
asked_in (Ok Help) = help
asked_in (Ok Version) = version
asked_in (Ok (Run name)) = run name.now
asked_in (Err (UnknownOption word)) = unknown word.now
asked_in (Err TooMany) = too_many
asked_in (Err LongArgument) = long

-- a word that begins with a dash is no file's name
abbrev pub is_dashed : List ℕ → Bool
is_dashed [] = false
is_dashed (b ∷ bs) = eqb b 45

-- the file that is read where none is named
abbrev pub default_run : Asked
default_run = run (codes "sendai.bin")

-- one word: --help, --version, -- alone, another that begins with a dash, or a file
abbrev pub asked_by : List ℕ → Asked
asked_by w = pick (bytes_eq w (codes "--help")) help (pick (bytes_eq w (codes "--version")) version (pick (bytes_eq w (codes "--")) default_run (pick (is_dashed w) (unknown w) (run w))))

-- by the first word, the second, and whether there are more: behind -- there may be a file, and nothing else goes with another word
abbrev pub asked_of : Option (List ℕ) → Option (List ℕ) → Bool → Asked
asked_of None second more = default_run
asked_of (Some w) None more = asked_by w
asked_of (Some w) (Some f) true = too_many
asked_of (Some w) (Some f) false = pick (bytes_eq w (codes "--")) (run f) too_many

-- a word that a reference leads to
abbrev pub word_in : Option (Bor (List ℕ)) → Option (List ℕ)
word_in None = None
word_in (Some word) = Some word.now
