-- `unit_check::soon::longest_run` meets its contract: no run is longer than the cells that it has gone by. Assumes nothing.
use lib.ListN.{length}
use Prim.Native.Nat.{◌+◌, ◌≤◌, ◌<◌}
use mathlib.Core.Path.{◌≡◌}
use Rattle.std.specs.Slice.Iter.{windows_rest, windows_size}
use Rattle.std.specs.Slice.ArrayWindows.{array_windows_parts}
use Rattle.unit_check.proofs.soon.longest_run.Given as goal

abbrev pub invariant-loop-before : goal.invariant-loop-before
invariant-loop-before l =
    let left = length (windows_rest (array_windows_parts l.before-iterator)) in (0 < left) × (l.run + left ≤ 1025) × (l.longest + left ≤ 1025) × (windows_size (array_windows_parts l.before-iterator) ≡ 2)
