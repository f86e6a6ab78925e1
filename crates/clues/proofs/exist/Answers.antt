-- `clues::exist` meets its contract: the library's test of each wall of a long list. Assumes nothing.
use Rattle.std.proofs.Common.{rules, ◌↔◌, All, IsTrue}
use lib.Dec.{ltb}
use Rattle.lists.proofs.Bridges.{all_is}
use Rattle.clues.proofs.exist.Goals as goal

pub returns-then-given-gt-BORDERS : goal.returns-then-given-gt-BORDERS
returns-then-given-gt-BORDERS c =
    all_is (λ x. ltb x c.args.n) c.args.given.now c.all.result (let h : IsTrue c.all.result ↔ All (λ x. IsTrue (ltb x c.args.n)) c.args.given.now = search rules in h)
