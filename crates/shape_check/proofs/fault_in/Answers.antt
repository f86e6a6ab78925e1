-- `shape_check::fault_in` meets its contract: the two stages, over the units and potential units. Assumes nothing.
use mathlib.Core.Path.{◌≡◌, sym, ◌∙◌}
use mathlib.Core.Bool.{true}
use lib.ListN.{length}
use Rattle.borders.specs.Border.{decided}
use Rattle.groups.specs.Groups.{group_ids, group_count}
use Rattle.groups.proofs.Agreement.{decided_ids, decided_count}
use Rattle.groups.proofs.EdgeLaws.{ids_length}
use Rattle.shape_check.proofs.ShapeLaws.{inner_fault, checked, units_found}
use Rattle.shape_check.proofs.fault_in.Given.{Over}
use Rattle.shape_check.proofs.fault_in.Goals as goal
use Rattle.shape_check.proofs.fault_in.Goals.{Joined-are_decided, then-are_decided, else-are_decided}

pub returns-in-Some : goal.returns-in-Some
returns-in-Some g c =
    let b = c.args.b in
    inner_fault c.args.images.now b.grid b.states.now (rw c.group-units.ensures.ids_are at c.inner_wall.ensures) c.in-Some.is

-- the groups that are handed on are the potential units
around : (g : Over) (c : Joined-are_decided g) → let b = c.args.b in let p = c.if-are_decided.potentials in
    (p.grid ≡ b.grid) × (p.ids.now ≡ group_ids b.grid b.states.now true) × (length p.starts.now ≡ group_count b.grid b.states.now true)
around g c =
    let b = c.args.b in
    elim c.if-are_decided.branch [
      | then-are_decided w ↦
          let e = c.group-units.ensures in
          let full : decided b.grid b.states.now ≡ true = sym c.are_decided.ensures ∙ w.if-are_decided.true in
          rw w.potentials-is (e.grid_is, e.ids_are ∙ sym (decided_ids b.grid b.states.now b.fits full), e.count_is ∙ sym (decided_count b.grid b.states.now b.fits full))
      | else-are_decided w ↦ let e = w.group-potentials.ensures in rw w.potentials-is (e.grid_is, e.ids_are, e.count_is)
    ]

pub check-requires-clause-checked : goal.check-requires-clause-checked
check-requires-clause-checked g c =
    let b = c.args.b in
    let e = c.group-units.ensures in
    rw (e.grid_is, e.ids_are) (checked c.args.images.now b.grid b.states.now (rw e.ids_are at c.inner_wall.ensures) c.requires.enough)

pub check-requires-clause-potentials : goal.check-requires-clause-potentials
check-requires-clause-potentials g c =
    let b = c.args.b in
    let p = around g (goal.at.check-requires-clause-potentials g c).Joined-are_decided in (p.0, rw p.1 (ids_length b.grid b.states.now true))

pub returns : goal.returns
returns g c =
    let b = c.args.b in
    let e = c.group-units.ensures in
    let p = around g (goal.at.returns g c).Joined-are_decided in
    units_found c.args.images.now b.grid b.states.now (rw e.ids_are at c.inner_wall.ensures) c.in_default.is (rw (e.ids_are, e.count_is, p.1, p.2) at c.check.ensures)
