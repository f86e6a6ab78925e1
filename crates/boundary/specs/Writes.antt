-- What writing to a list of entries leaves: the new ones stand behind the others. Assumes nothing.
use Rattle.std.specs.Prelude.{ℕ, ◌≡◌, List}
use Rattle.boundary.specs.declared.Entries.{Entries}
use Rattle.boundary.specs.Appended.{Appended}

-- the entries xs are written, to the same buffer
pub record Writes (xs : List ℕ) (before after : Entries) : Type 0 where
  pub appended : Appended before.buffer.now before.len xs after.buffer.now after.len
  pub same_reference : after.buffer.ghost_name ≡ before.buffer.ghost_name
