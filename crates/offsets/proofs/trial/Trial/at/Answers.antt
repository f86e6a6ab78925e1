-- `offsets::trial::Trial::at` meets its contract: each return is a law of `TrialLaws`. Assumes nothing.
use mathlib.Core.Path.{◌∙◌}
use Rattle.offsets.proofs.TrialLaws.{head_in, tried_first, shift_small, trial_passed, fail_asks, trial_failed, trial_good}
use Rattle.offsets.proofs.trial.Trial.at.Goals as goal

pub reaches-requires : goal.reaches-requires
reaches-requires c = shift_small c.args.image _ c.args.self.placed (head_in _ c.args.self.placed.some) c.requires c.shift_to-shift.ensures

pub returns-then-not-reaches : goal.returns-then-not-reaches
returns-then-not-reaches c = trial_passed c.args.image _ c.args.self.placed (head_in _ c.args.self.placed.some) c.requires c.shift_to-shift.ensures c.reaches.ensures c.if-not-reaches.true ∙ tried_first _ _ _ c.args.self.unit.unit

pub failure-requires : goal.failure-requires
failure-requires c = fail_asks c.args.image _ c.args.self.placed (head_in _ c.args.self.placed.some) c.requires c.shift_to-shift.ensures c.reaches.ensures c.if-not-reaches.false

pub returns-in-Some : goal.returns-in-Some
returns-in-Some c = trial_failed c.args.image _ c.args.self.placed (head_in _ c.args.self.placed.some) c.requires c.shift_to-shift.ensures c.reaches.ensures c.if-not-reaches.false c.failure.ensures c.in-Some.is ∙ tried_first _ _ _ c.args.self.unit.unit

pub returns-in-None : goal.returns-in-None
returns-in-None c = trial_good c.args.image _ c.args.self.placed (head_in _ c.args.self.placed.some) c.requires c.shift_to-shift.ensures c.reaches.ensures c.if-not-reaches.false c.failure.ensures c.in-None.is ∙ tried_first _ _ _ c.args.self.unit.unit
