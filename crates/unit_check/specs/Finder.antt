-- A search that stays with its stage and its marks. Assumes nothing.
use Rattle.std.specs.Prelude.{◌≡◌}
use Rattle.unit_check.specs.declared.find.Finder.{Finder}

-- a step goes by the same stage, and writes to the same marks
pub record Kept (before after : Finder) : Type 0 where
  pub stage : after.stage ≡ before.stage
  pub marks : after.marks.ghost_name ≡ before.marks.ghost_name
