-- Why a file is refused, as one sentence (SPEC 5.9). Assumes nothing.
use Rattle.std.specs.Prelude.{ℕ, ◌+◌, ◌-◌, List, ◌++◌, leb, length, get_or, codes, decimal, map, encode_utf8_all, Option, Some, None}
use Rattle.std.specs.Char.{is_control}
use Rattle.bstr.specs.Utf8.{lossy_chars}
use Rattle.lists.specs.Choice.{pick}
use Rattle.answers.specs.declared.Refusal.{Refusal}
use Rattle.answers.specs.declared.Refusal.TheVariants.{Size, Missing, Unsorted, ClueCount, LargeClue}
use Rattle.answers.specs.Refusals.{number_of}
use Rattle.case_file.specs.Layout.{word_at}
use Rattle.flaws.specs.declared.Flaw.{Flaw}
use Rattle.flaws.specs.declared.Flaw.TheVariants.{Long, Short, Version, Length, Walls, Clues, Calls, Cut, Kind, Behind}
use Rattle.reasons.specs.declared.said.Misuse.{Misuse}
use Rattle.reasons.specs.declared.said.Misuse.TheVariants.{UnknownOption, TooMany, LongArgument}
use Rattle.reasons.specs.declared.Why.{Why}
use Rattle.reasons.specs.declared.Why.TheVariants.{Unsound, Refused, Folder, NotRegular, NotText, NotRead}

-- a character of a name as a line can show it: one that would end the line or steer a terminal is a `?`
abbrev pub shown_char : ℕ → ℕ
shown_char c = pick (is_control c) 63 c

-- a name, of which bytes that are no text are read as U+FFFD
abbrev pub name_text : List ℕ → List ℕ
name_text bs = encode_utf8_all (map shown_char (lossy_chars bs))

-- the number at a byte, 0 where the file ends before it
abbrev pub said_at : List ℕ → ℕ → ℕ
said_at bs at = pick (leb (at + 2) (length bs)) (word_at bs at) 0

-- a count of given walls, clues or calls, which is cut off or runs past the end
abbrev pub count_text : List ℕ → ℕ → List ℕ → List ℕ
count_text bs at of =
    pick (leb (at + 2) (length bs)) (codes "byte " ++ (decimal at ++ (codes ": the count of " ++ (of ++ (codes ", " ++ (decimal (word_at bs at) ++ codes ", runs past the end of the file"))))))
    (codes "byte " ++ (decimal at ++ (codes ": the count of " ++ (of ++ codes " is cut off by the end of the file"))))

-- a call that the count of calls promises: the file ends before it, or in it
abbrev pub cut_word : List ℕ → ℕ → List ℕ
cut_word bs at = pick (leb (length bs) at) (codes "before") (codes "in")

-- what is wrong with an unsound file, and at which byte, counted from 0
abbrev pub flaw_text : List ℕ → Flaw → List ℕ
flaw_text bs Long = codes "it is longer than 60,003 bytes"
flaw_text bs Short = codes "it has " ++ (decimal (length bs) ++ codes " bytes, and version, length, height and width take 5")
flaw_text bs Version = codes "byte 0: the version is " ++ (decimal (get_or bs 0 0) ++ codes ", not 1")
flaw_text bs Length = codes "byte 1: the length is " ++ (decimal (said_at bs 1) ++ (codes ", and " ++ (decimal (length bs - 3) ++ codes " bytes follow it")))
flaw_text bs Walls = count_text bs 5 (codes "given walls")
flaw_text bs (Clues at) = count_text bs at (codes "clues")
flaw_text bs (Calls at) = count_text bs at (codes "calls")
flaw_text bs (Cut at) = codes "byte " ++ (decimal at ++ (codes ": the count of calls runs past the end of the file: it ends " ++ (cut_word bs at ++ codes " this call")))
flaw_text bs (Kind at) = codes "byte " ++ (decimal at ++ (codes ": the call is of kind " ++ (decimal (get_or bs at 0) ++ codes ", not 0 to 3")))
flaw_text bs (Behind at) = codes "byte " ++ (decimal at ++ codes ": the last call ends before this byte, and the file does not")

-- why a sound file's puzzle is refused, by the question's number (SPEC 3)
abbrev pub puzzle_text : List ℕ → Refusal → List ℕ
puzzle_text bs Size = codes "a board of " ++ (decimal (get_or bs 3 0) ++ (codes " by " ++ (decimal (get_or bs 4 0) ++ codes " cells is not within 1 to 32 a side")))
puzzle_text bs Missing = codes "a given wall names a border that the board does not have"
puzzle_text bs Unsorted = codes "the given walls do not rise strictly"
puzzle_text bs ClueCount = codes "there are not as many clues as rooms"
puzzle_text bs LargeClue = codes "a clue is more than its room has cells"
puzzle_text bs r = codes "question " ++ (decimal (number_of r) ++ codes " refuses it")

-- why nothing of a file is read, or why what was read is refused; what the system says of a file that it can't read is not known
abbrev pub why_text : Why → Option (List ℕ)
why_text (Unsound flaw file) = Some (flaw_text file.now flaw)
why_text (Refused r file) = Some (puzzle_text file.now r)
why_text Folder = Some (codes "it is a folder")
why_text NotRegular = Some (codes "it is no regular file")
why_text NotText = Some (codes "its name is not UTF-8, and can't be opened here")
why_text (NotRead e) = None

-- of a file's bytes, which a question refuses: the first flaw, from the front, or what the question says of the puzzle
abbrev pub refused_text : Option Flaw → List ℕ → Refusal → List ℕ
refused_text (Some flaw) bs r = flaw_text bs flaw
refused_text None bs r = puzzle_text bs r

-- THE LINE of a file that is refused, by the name that it was called by, as far as its sentence is known
abbrev pub line_text : List ℕ → Option (List ℕ) → Option (List ℕ)
line_text name None = None
line_text name (Some why) = Some (codes "sendai: " ++ (name_text name ++ (codes ": " ++ why)))

-- the line of a wrong use (SPEC 5.7)
abbrev pub misuse_text : Misuse → List ℕ
misuse_text (UnknownOption word) = codes "sendai: " ++ (name_text word.now ++ codes " is no option: see sendai --help")
misuse_text TooMany = codes "sendai: too many arguments: see sendai --help"
misuse_text LongArgument = codes "sendai: an argument is longer than 4,096 bytes"
