-- `lists::write_at` meets its contract: what is left to write, written from here on, gives the whole.
use Rattle.std.proofs.Common.{◌≡◌, drop}
use Rattle.lists.specs.Writes.{puts}
use Rattle.lists.proofs.write_at.Given as goal

abbrev pub invariant-loop-place : goal.invariant-loop-place
invariant-loop-place l = puts (drop l.place-index l.places) l.v l.xs ≡ puts l.places l.v l.initial.xs
