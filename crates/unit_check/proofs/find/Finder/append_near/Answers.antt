-- `unit_check::find::Finder::append_near` meets its contract: the loop's invariant is what is left to append. Assumes nothing.
use Rattle.boundary.proofs.AppendLaws.{writes_none}
use Rattle.unit_check.specs.Write.{near_boundaries}
use Rattle.unit_check.proofs.RestLaws.{left_all, left_room, left_on, left_end}
use Rattle.unit_check.proofs.WriteLaws.{its_list, not_marked, has_mark, mark_is, marks_over}
use Rattle.unit_check.proofs.find.Finder.append_near.Goals.{then-mark-ne0, else-mark-ne0}
use Rattle.unit_check.proofs.find.Finder.append_near.Goals as goal

pub loop-number-init : goal.loop-number-init
loop-number-init c = left_all _ _ _

pub append-requires : goal.append-requires
unfolding near_boundaries
append-requires c =
    let s = c.args.self.now.stage in
    let b = s.chart.borders in
    let o = c.of.ensures in
    let h = c.loop-number-test.true in
    let long = c.args.self.now.marks_long in
    rw (o.borders_are, o.ids_are, o.potential_is, o.number_is)
    (rw (its_list b.grid b.states.now s.potentials.ids.now c.args.self.now.marks.now c.loop-number.number (rw (mark_is _ c.len.ensures long h) at c.if-mark-ne0.true)) at (left_room _ _ c.loop-number.invariant (has_mark _ c.len.ensures long h) c.requires))

pub loop-number-preserved : goal.loop-number-preserved
loop-number-preserved c =
    let s = c.args.self.now.stage in
    let b = s.chart.borders in
    let h = c.loop-number-test.true in
    let long = c.args.self.now.marks_long in
    let mark = mark_is _ c.len.ensures long h in
    left_on _ _ c.loop-number.invariant (has_mark _ c.len.ensures long h)
    (elim c.if-mark-ne0.branch [
      | then-mark-ne0 w ↦ rw (w.list-is, its_list b.grid b.states.now s.potentials.ids.now c.args.self.now.marks.now c.loop-number.number (rw mark at w.if-mark-ne0.true)) (let o = w.of.ensures in rw (o.borders_are, o.ids_are, o.potential_is, o.number_is) at w.append.ensures)
      | else-mark-ne0 w ↦ rw w.list-is (writes_none (not_marked b.grid b.states.now s.potentials.ids.now c.args.self.now.marks.now c.loop-number.number (rw mark at w.if-mark-ne0.false)))
    ])

pub returns : goal.returns
unfolding near_boundaries
returns c = left_end _ _ c.loop-number.invariant (marks_over _ c.len.ensures c.args.self.now.marks_long c.loop-number-test.false)
