-- A search stays with its stage and its marks. Assumes nothing.
use mathlib.Core.Path.{◌∙◌, refl}
use Rattle.unit_check.specs.declared.find.Finder.{Finder}
use Rattle.unit_check.specs.Finder.{Kept}

pub kept_all : (f : Finder) → Kept f f
kept_all f = record { stage = refl; marks = refl }

pub kept_then : {f h : Finder} (m : Finder) → Kept f m → Kept m h → Kept f h
kept_then m a b = record { stage = b.stage ∙ a.stage; marks = b.marks ∙ a.marks }
