-- `boundary::Outline::append_cell` meets its contract: a cell's list is what the calls append, one behind the other. Assumes nothing.
use Rattle.boundary.proofs.AppendLaws.{writes_then}
use Rattle.boundary.proofs.ListingLaws.{potential_cell_is, unit_cell_is, ready_front, ready_on}
use Rattle.boundary.proofs.Outline.append_cell.Goals as goal

pub append_around-requires : goal.append_around-requires
append_around-requires c =
    rw (potential_cell_is _ _ _ _ _ c.if-self.true) at c.requires

pub returns-then-self : goal.returns-then-self
returns-then-self c =
    rw (potential_cell_is _ _ _ _ _ c.if-self.true) c.append_around.ensures

pub append_entry-requires : goal.append_entry-requires
append_entry-requires c =
    ready_front _ _ (rw (unit_cell_is _ _ _ _ _ c.if-self.false) at c.requires)

pub append_entry-requires-else-self : goal.append_entry-requires-else-self
append_entry-requires-else-self c =
    ready_front _ _ (ready_on _ _ (rw (unit_cell_is _ _ _ _ _ c.if-self.false) at c.requires) c.append_entry.ensures.appended)

pub append_around-requires-else-self : goal.append_around-requires-else-self
append_around-requires-else-self c =
    ready_on _ _ (ready_on _ _ (rw (unit_cell_is _ _ _ _ _ c.if-self.false) at c.requires) c.append_entry.ensures.appended) c.append_entry-else-self.ensures.appended

pub returns-else-self : goal.returns-else-self
returns-else-self c =
    rw (unit_cell_is _ _ _ _ _ c.if-self.false) (writes_then c.append_entry.ensures (writes_then c.append_entry-else-self.ensures c.append_around-else-self.ensures))
