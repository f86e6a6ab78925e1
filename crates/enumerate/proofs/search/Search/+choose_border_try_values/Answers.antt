-- The two functions of the search, which call each other, meet their contracts: a law of `Ways` for each way through. Assumes nothing.
use mathlib.Core.Path.{ap, sym, ◌∙◌}
use Rattle.std.specs.Prelude.{is_some}
use native.Mathlib.Omega.{arith}
use Rattle.puzzle.proofs.KindLaws.{translate_in}
use Rattle.enumerate.proofs.Undecided.{some_undecided}
use Rattle.enumerate.proofs.Ways.{cap_met, branch_cut, board_kept, other_list, decided, second, less, less_again, undone, both_tried}
use Rattle.enumerate.proofs.search.Search.+choose_border_try_values.Goals as goal

-- CHOOSING A BORDER
pub choose_border-fault_of-requires-clause-translate : goal.choose_border-fault_of-requires-clause-translate
choose_border-fault_of-requires-clause-translate t c = rw c.images_of-images.ensures (translate_in c.args.self.now.rules.kind)

pub choose_border-returns-then-self-clause-boards_after : goal.choose_border-returns-then-self-clause-boards_after
choose_border-returns-then-self-clause-boards_after t c = cap_met _ _ c.requires c.if-self.true

pub choose_border-returns-then-is_some-clause-boards_after : goal.choose_border-returns-then-is_some-clause-boards_after
choose_border-returns-then-is_some-clause-boards_after t c = branch_cut _ _ c.requires (rw c.images_of-images.ensures at (ap is_some (sym c.fault_of.ensures.value) ∙ sym c.is_some.ensures ∙ c.if-is_some.true))

pub choose_border-returns-in-None-clause-boards_after : goal.choose_border-returns-in-None-clause-boards_after
choose_border-returns-in-None-clause-boards_after t c =
    c.keep.ensures.boards_after
    ∙ board_kept _ _ c.requires (rw c.images_of-images.ensures at (ap is_some (sym c.fault_of.ensures.value) ∙ sym c.is_some.ensures ∙ c.if-is_some.false)) (sym c.first_undecided.ensures ∙ c.in-None.is)

pub choose_border-try_values-requires : goal.choose_border-try_values-requires
choose_border-try_values-requires t c = (omega arith, (some_undecided _ _ (sym c.first_undecided.ensures ∙ c.in-Some.is), other_list c.requires _ c.fault_of.auto.buffer))

-- TRYING ITS VALUES
pub try_values-choose_border-requires : goal.try_values-choose_border-requires
try_values-choose_border-requires t c = (omega (arith, less c.requires.trying 1 (omega arith)), decided c.requires.searching _ 1 (omega arith))

pub try_values-choose_border-requires-2 : goal.try_values-choose_border-requires-2
try_values-choose_border-requires-2 t c =
    let q = c.choose_border.ensures in
    (omega (arith, less_again c.requires.trying _ q.states_unchanged), second _ _ c.requires.searching _ _ q.states_unchanged q.kept q.boards_after)

pub try_values-returns-clause-states_unchanged : goal.try_values-returns-clause-states_unchanged
try_values-returns-clause-states_unchanged t c = undone c.requires.trying _ _ c.choose_border.ensures.states_unchanged c.choose_border-2.ensures.states_unchanged

pub try_values-returns-clause-boards_after : goal.try_values-returns-clause-boards_after
try_values-returns-clause-boards_after t c =
    let q = c.choose_border.ensures in
    both_tried c.requires.trying _ _ _ _ q.states_unchanged q.kept q.boards_after c.choose_border-2.ensures.boards_after
