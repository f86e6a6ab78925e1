-- `path::Trace::look` meets its contract: one law of `Trace` for each way out. Assumes nothing.
use mathlib.Core.Path.{refl, sym, ◌∙◌}
use native.Mathlib.Omega.{arith}
use Rattle.grid.proofs.Told.{not_told}
use Rattle.path.proofs.Looks.{border_fits, entry_fits, cell_small, queue_fits, look_end, look_apart, look_old, look_new}
use Rattle.path.proofs.Trace.look.Goals as goal

pub returns-in_default : goal.returns-in_default
returns-in_default c = record { same = refl; follows = look_end c.requires _ (not_told _ _ _ c.step.ensures c.in_default.not-Some) }

pub bounds-states-border : goal.bounds-states-border
bounds-states-border c = border_fits c.requires _ c.step.ensures c.in-Some.is

pub returns-then-states-border-ne1 : goal.returns-then-states-border-ne1
returns-then-states-border-ne1 c = record { same = refl; follows = look_apart c.requires _ c.step.ensures c.in-Some.is c.if-states-border-ne1.true }

pub offset_bounds-self-next : goal.offset_bounds-self-next
offset_bounds-self-next c = omega (arith, cell_small c.requires _ c.step.ensures c.in-Some.is)

pub bounds-self-next : goal.bounds-self-next
bounds-self-next c = cell_small c.requires _ c.step.ensures c.in-Some.is

pub offset_bounds-self-next-2 : goal.offset_bounds-self-next-2
offset_bounds-self-next-2 c = omega (arith, cell_small c.requires _ c.step.ensures c.in-Some.is)

pub bounds-self-next-2 : goal.bounds-self-next-2
bounds-self-next-2 c = cell_small c.requires _ c.step.ensures c.in-Some.is

pub overflow_cast-self-2 : goal.overflow_cast-self-2
overflow_cast-self-2 c = omega (arith, cell_small c.requires _ c.step.ensures c.in-Some.is)

pub returns-then-is_some : goal.returns-then-is_some
returns-then-is_some c = record { same = refl; follows = look_old c.requires _ c.step.ensures c.in-Some.is c.if-states-border-ne1.false (sym c.is_some.ensures ∙ c.if-is_some.true) }

pub entry-requires : goal.entry-requires
entry-requires c = entry_fits c.requires _ c.step.ensures c.in-Some.is

pub bounds-self-self : goal.bounds-self-self
bounds-self-self c =
    omega (arith, queue_fits c.requires _ c.step.ensures c.in-Some.is c.if-states-border-ne1.false (sym c.is_some.ensures ∙ c.if-is_some.false), c.requires.looking.kept.queue_long)

pub returns : goal.returns
returns c = record { same = refl; follows = look_new c.requires _ c.step.ensures c.in-Some.is c.if-states-border-ne1.false (sym c.is_some.ensures ∙ c.if-is_some.false) c.entry.ensures }
