-- `borders::Borders::are_decided` meets its contract. Assumes nothing.
use Rattle.std.proofs.Common.{rules, ◌↔◌, All, IsTrue, take, not}
use lib.Dec.{eqb}
use Rattle.grid.specs.Grid.{border_count}
use Rattle.lists.proofs.Bridges.{all_is}
use Rattle.borders.proofs.Borders.are_decided.Goals as goal

pub returns : goal.returns
returns c =
    let states = take (border_count c.args.self.grid) c.args.self.states.now in
    all_is (λ s. not (eqb s 0)) states c.all.result (let h : IsTrue c.all.result ↔ All (λ s. IsTrue (not (eqb s 0))) states = search rules in h)
