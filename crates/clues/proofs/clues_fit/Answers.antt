-- `clues::clues_fit` meets its contract: `all` tests each clue and its room's size. Assumes nothing.
use Rattle.std.proofs.Common.{◌↔◌, IsTrue, length, ℕ, ◌<◌, rules}
use Rattle.clues.specs.Clues.{clue_fits}
use Rattle.clues.proofs.Loops.{fits_by}
use Rattle.clues.proofs.clues_fit.Goals as goal

pub returns : goal.returns
returns c =
    fits_by c.args.sizes.now c.args.clues.now c.all.result
    (let h : IsTrue c.all.result ↔ ((k : ℕ) → k < length c.args.clues.now → IsTrue (clue_fits c.args.sizes.now c.args.clues.now k)) = search rules in h)
