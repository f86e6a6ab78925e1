-- `offsets::chart::Chart::cell_failure` meets its contract: the directions before this one have nothing. Assumes nothing.
use Rattle.lists.specs.Lists.{first}
use Rattle.offsets.specs.Landings.{fail_cell}
use Rattle.offsets.proofs.ToldLaws.{told_hit, told_later, told_last}
use Rattle.offsets.proofs.chart.Chart.cell_failure.Goals as goal

pub returns-in-Some : goal.returns-in-Some
unfolding fail_cell first
returns-in-Some c = rw c.in-Inner.is (told_hit _ _ c.failure.ensures c.in-Some.is)

pub returns-in_default : goal.returns-in_default
unfolding fail_cell first
returns-in_default c = rw c.in-Inner.is (told_later _ _ c.failure.ensures c.in_default.is (told_last _ c.failure-in-Inner.ensures))

pub returns-in-Some-failure : goal.returns-in-Some-failure
unfolding fail_cell first
returns-in-Some-failure c = rw c.in-Outer.is (told_hit _ _ c.failure-in-Outer.ensures c.in-Some-failure.is)

pub returns-in-Some-failure-2 : goal.returns-in-Some-failure-2
unfolding fail_cell first
returns-in-Some-failure-2 c =
    rw c.in-Outer.is (told_later _ _ c.failure-in-Outer.ensures c.in_default-failure.is (told_hit _ _ c.failure-in-Outer-2.ensures c.in-Some-failure-2.is))

pub returns-in-Some-failure-3 : goal.returns-in-Some-failure-3
unfolding fail_cell first
returns-in-Some-failure-3 c =
    rw c.in-Outer.is (told_later _ _ c.failure-in-Outer.ensures c.in_default-failure.is (told_later _ _ c.failure-in-Outer-2.ensures c.in_default-failure-2.is (told_hit _ _ c.failure-in-Outer-3.ensures c.in-Some-failure-3.is)))

pub returns-in_default-failure-3 : goal.returns-in_default-failure-3
unfolding fail_cell first
returns-in_default-failure-3 c =
    rw c.in-Outer.is (told_later _ _ c.failure-in-Outer.ensures c.in_default-failure.is (told_later _ _ c.failure-in-Outer-2.ensures c.in_default-failure-2.is (told_later _ _ c.failure-in-Outer-3.ensures c.in_default-failure-3.is (told_last _ c.failure-in-Outer-4.ensures))))
