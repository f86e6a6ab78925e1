-- `city_count::list` meets its contract: `Listing` of the edges so far. Assumes nothing.
use Rattle.std.proofs.Common.{◌≡◌, length, sym, ◌∙◌}
use Rattle.ledger.specs.Ledger.{state_for}
use Rattle.room_parts.specs.Graph.{states_in}
use Rattle.borders.specs.Entry.{entry_of}
use Rattle.city_count.proofs.EntryLaws.{listing_none, listing_more, listing_same, listing_all}
use Rattle.city_count.proofs.list.Goals.{then-state-kind, else-state-kind}
use Rattle.city_count.proofs.list.Goals as goal

pub loop-i-init : goal.loop-i-init
loop-i-init c =
    listing_none (entry_of c.args.wall) (state_for c.args.wall) (length c.args.states.now) (states_in c.args.states.now) c.args.buffer.now

pub loop-i-preserved : goal.loop-i-preserved
loop-i-preserved c =
    let kind : c.state_of-kind.result ≡ state_for c.args.wall = c.state_of-kind.ensures in
    elim c.if-state-kind.branch [
      | then-state-kind w ↦
          rw (w.buffer-is, w.n-is)
          (listing_more (entry_of c.args.wall) (state_for c.args.wall) (length c.args.states.now) (states_in c.args.states.now) c.args.buffer.now c.loop-i.buffer c.loop-i.n c.loop-i.i c.loop-i.invariant c.loop-i-test.true
          (w.if-state-kind.true ∙ kind)
          w.entry.ensures)
      | else-state-kind w ↦
          rw (w.buffer-is, w.n-is)
          (listing_same (entry_of c.args.wall) (state_for c.args.wall) (length c.args.states.now) (states_in c.args.states.now) c.args.buffer.now c.loop-i.buffer c.loop-i.n c.loop-i.i c.loop-i.invariant c.loop-i-test.true
          (λ e. w.if-state-kind.false (e ∙ sym kind)))
    ]

pub returns : goal.returns
returns c =
    let w = listing_all (entry_of c.args.wall) (state_for c.args.wall) (length c.args.states.now) (states_in c.args.states.now) c.args.buffer.now c.loop-i.buffer c.loop-i.n c.loop-i.i c.loop-i.invariant c.loop-i-test.false in
    record { value = w.0; buffer_after = w.1 }
