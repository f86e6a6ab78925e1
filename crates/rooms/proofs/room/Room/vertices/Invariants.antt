-- `Room::vertices` meets its contract: what is left to number, numbered from i on, gives the whole.
use Rattle.std.proofs.Common.{◌≡◌, ◌+◌, length, drop}
use Rattle.rooms.specs.Lent.{nowhere, numbered}
use Rattle.rooms.proofs.room.Room.vertices.Given as goal

abbrev pub invariant-loop-i : goal.invariant-loop-i
invariant-loop-i l = record {
  long : length l.vertices ≡ 1024;
  written : numbered (drop l.i l.self.cells.now) (l.i + 1) l.vertices ≡ numbered l.self.cells.now 1 nowhere;
}
