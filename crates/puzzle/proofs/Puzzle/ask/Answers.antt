-- `puzzle::Puzzle::ask` meets its contract: how many places its kind wants is a number, and what an accepted ask hands on. Assumes nothing.
use mathlib.Core.Path.{sym, subst}
use native.Mathlib.Omega.{arith}
use Rattle.lists.specs.Lists.{In}
use Rattle.grid.specs.Grid.{cells}
use Rattle.grid.proofs.Geometry.{cells_le}
use Rattle.images.specs.Images.{translate}
use Rattle.puzzle.specs.Puzzle.{grid_of}
use Rattle.puzzle.proofs.Ready.{ready}
use Rattle.puzzle.proofs.KindLaws.{translate_in, sixteen_most}
use Rattle.puzzle.proofs.Puzzle.ask.Goals as goal

pub overflow_mul-images : goal.overflow_mul-images
overflow_mul-images c =
    let p = c.args.self.now in
    rw (c.images-images.ensures, c.cell_count.ensures)
    (omega (arith, sixteen_most p.kind (cells (grid_of p)), cells_le (grid_of p) (ready p (sym c.in_ok-check.ensures)).limits))

pub fault_of-found-requires-clause-translate : goal.fault_of-found-requires-clause-translate
fault_of-found-requires-clause-translate c = subst (In translate) (sym c.images-images.ensures) (translate_in c.args.self.now.kind)
