-- `case_file::reach` meets its contract: a list has two bytes a number, as far as the file goes (`numbers_count`). Assumes nothing.
use native.Mathlib.Omega.{arith}
use Rattle.case_file.proofs.NumberLaws.{numbers_count}
use Rattle.case_file.proofs.reach.Goals as goal

pub returns : goal.returns
returns c = let a = c.args in omega (arith, numbers_count a.file.now a.list.at a.list.count)
