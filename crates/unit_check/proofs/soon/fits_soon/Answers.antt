-- `unit_check::soon::fits_soon` meets its contract: the loop's invariant is `Tried`. Assumes nothing.
use mathlib.Core.Path.{sym, ◌∙◌}
use mathlib.Core.Bool.{true≢false}
use Rattle.unit_check.proofs.SoonLaws.{good_fits, tried_first, tried_on, tried_all}
use Rattle.unit_check.proofs.soon.fits_soon.Goals as goal

pub loop-i-init : goal.loop-i-init
loop-i-init c = tried_first _ _ _ _ _ _ c.turns-i-end.ensures.upper_bound c.turns-i-end.ensures.value

pub returns-then-is_good_at : goal.returns-then-is_good_at
returns-then-is_good_at c =
    let e = good_fits _ _ _ _ _ (sym c.is_good_at.ensures ∙ c.if-is_good_at.true) in
    record { cells_value = λ q. e; value = λ s. sym e }

pub loop-i-preserved : goal.loop-i-preserved
loop-i-preserved c =
    tried_on _ _ _ _ c.loop-i.invariant c.loop-i-test.true c.place.ensures c.is_good_at.ensures c.if-is_good_at.false

pub returns : goal.returns
returns c = record { cells_value = λ q. absurd (true≢false (sym q)); value = λ s. sym (tried_all _ _ _ _ c.loop-i.invariant c.loop-i-test.false s) }
