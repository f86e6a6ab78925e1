-- `Room::edge` meets its contract: a law of `EdgeLaws` for each way out. Assumes nothing.
use Rattle.std.proofs.Common.{◌∙◌, arith}
use Rattle.grid.proofs.Geometry.{cells_le, border_count_le}
use Rattle.grid.proofs.Told.{none_told}
use Rattle.rooms.proofs.EdgeLaws.{at_end, cell_lt, border_fits, no_vertex, wall_there_lem, edge_there}
use Rattle.rooms.proofs.room.Room.edge.Goals.{then-vertices-there-eq0-via-then-vertices-there-eq0, then-vertices-there-eq0-via-else-vertices-there-eq0+then-self-there-ne0}
use Rattle.rooms.proofs.room.Room.edge.Goals as goal

pub returns-in_err-there-clause-edge : goal.returns-in_err-there-clause-edge
returns-in_err-there-clause-edge c =
    let a = c.args in
    c.from_residual.ensures ∙ at_end a.self.borders.grid a.self.marks.now a.vertices.now a.cell a.direction (none_told _ _ _ c.step.ensures c.in_err-there.was)

pub offset_bounds-vertices-there : goal.offset_bounds-vertices-there
offset_bounds-vertices-there c =
    let a = c.args in
    omega (arith, cells_le _ a.self.housed.limits, cell_lt a.self.borders.grid a.self.marks.now a.vertices.now a.cell a.direction c.requires c.step.ensures c.in_ok-there.was)

pub bounds-vertices-there : goal.bounds-vertices-there
bounds-vertices-there c =
    let a = c.args in
    omega (arith, cells_le _ a.self.housed.limits, cell_lt a.self.borders.grid a.self.marks.now a.vertices.now a.cell a.direction c.requires c.step.ensures c.in_ok-there.was)

pub bounds-self-there : goal.bounds-self-there
bounds-self-there c =
    let a = c.args in
    omega (arith, a.self.housed.marks_long, border_fits a.self.borders.grid a.self.marks.now a.vertices.now a.cell a.direction c.requires c.step.ensures c.in_ok-there.was)

pub returns-then-vertices-there-eq0-clause-edge : goal.returns-then-vertices-there-eq0-clause-edge
returns-then-vertices-there-eq0-clause-edge c =
    let a = c.args in
    elim c.then-vertices-there-eq0.branch [
      | then-vertices-there-eq0-via-then-vertices-there-eq0 w ↦
          no_vertex a.self.borders.grid a.self.marks.now a.vertices.now a.cell a.direction c.requires c.step.ensures c.in_ok-there.was w.if-vertices-there-eq0.true
      | then-vertices-there-eq0-via-else-vertices-there-eq0+then-self-there-ne0 w ↦
          wall_there_lem a.self.borders.grid a.self.marks.now a.vertices.now a.cell a.direction c.requires c.step.ensures c.in_ok-there.was w.if-vertices-there-eq0.false w.if-self-there-ne0.true
    ]

pub returns-clause-edge : goal.returns-clause-edge
returns-clause-edge c =
    let a = c.args in
    edge_there a.self.borders.grid a.self.marks.now a.vertices.now a.cell a.direction c.requires c.step.ensures c.in_ok-there.was c.if-vertices-there-eq0.false c.if-self-there-ne0.false

pub returns-clause-there : goal.returns-clause-there
returns-clause-there c =
    let a = c.args in
    let fits = border_fits a.self.borders.grid a.self.marks.now a.vertices.now a.cell a.direction c.requires c.step.ensures c.in_ok-there.was in
    record {
      cell_lt = omega (arith, cells_le _ a.self.housed.limits, cell_lt a.self.borders.grid a.self.marks.now a.vertices.now a.cell a.direction c.requires c.step.ensures c.in_ok-there.was);
      has_vertex = omega (arith, c.if-vertices-there-eq0.false);
      border_lt = fits;
      border_most = omega (arith, border_count_le _ a.self.housed.limits, fits);
    }
