-- `offsets::trial::Trial::is_good_at` meets its contract: what `at` says, without the entry. Assumes nothing.
use mathlib.Core.Path.{ap, ◌∙◌}
use Rattle.shape.specs.Shape.{is_good}
use Rattle.offsets.proofs.TrialLaws.{head_in, tried_first, shift_small, fail_asks, trial_passed, good_landed}
use Rattle.offsets.proofs.trial.Trial.is_good_at.Goals as goal

pub reaches-requires : goal.reaches-requires
reaches-requires c = shift_small c.args.image _ c.args.self.placed (head_in _ c.args.self.placed.some) c.requires c.shift_to-shift.ensures

pub lands_well-requires : goal.lands_well-requires
lands_well-requires c = fail_asks c.args.image _ c.args.self.placed (head_in _ c.args.self.placed.some) c.requires c.shift_to-shift.ensures c.reaches.ensures c.if-reaches.true

pub returns-then-reaches : goal.returns-then-reaches
returns-then-reaches c = good_landed c.args.image _ c.args.self.placed (head_in _ c.args.self.placed.some) c.requires c.shift_to-shift.ensures c.reaches.ensures c.if-reaches.true c.lands_well.ensures ∙ ap is_good (tried_first _ _ _ c.args.self.unit.unit)

pub returns-else-reaches : goal.returns-else-reaches
unfolding is_good
returns-else-reaches c = c.if-reaches.false ∙ ap is_good (trial_passed c.args.image _ c.args.self.placed (head_in _ c.args.self.placed.some) c.requires c.shift_to-shift.ensures c.reaches.ensures c.if-reaches.false) ∙ ap is_good (tried_first _ _ _ c.args.self.unit.unit)
