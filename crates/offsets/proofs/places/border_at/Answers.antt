-- `offsets::places::border_at` meets its contract: a place of the board is that of a cell's border. Assumes nothing.
use Prim.Native.Nat.{◌%◌, ◌/◌, ◌*◌, ◌+◌}
use mathlib.Core.Path.{◌≡◌, refl, sym, ap, ◌∙◌}
use borrow.Author.Tests.{eq-eqb, ne_eqb}
use lib.Dec.{eqb}
use Rattle.lists.specs.Choice.{pick}
use Rattle.grid.specs.declared.Direction.TheVariants.{Down, Right}
use Rattle.offsets.specs.Places.{border_of, border_at}
use Rattle.offsets.proofs.PlaceLaws.{off_rows, off_cols, on_place, halved_on}
use Rattle.offsets.proofs.places.border_at.Goals.{then-grid-y-via-then-grid-y, then-grid-y-via-else-grid-y+then-grid-x, then-y-eq1, else-y-eq1, After-step_at}
use Rattle.offsets.proofs.places.border_at.Goals as goal

pub returns-then-grid-y : goal.returns-then-grid-y
returns-then-grid-y c =
    let a = c.args in
    elim c.then-grid-y.branch [
      | then-grid-y-via-then-grid-y w ↦ sym (off_rows a.grid c.requires a.y a.x w.if-grid-y.true)
      | then-grid-y-via-else-grid-y+then-grid-x w ↦ sym (off_cols a.grid c.requires a.y a.x w.if-grid-y.false w.if-grid-x.true)
    ]

pub step_at-requires : goal.step_at-requires
step_at-requires c = halved_on c.args.grid c.requires c.args.y c.args.x c.if-grid-y.false c.if-grid-x.false

-- what lies in that direction has it
there : (c : After-step_at) → border_of c.step_at.result ≡ border_at c.args.grid c.args.y c.args.x
there c =
    let a = c.args in
    let d : pick (eqb (a.y % 2) 1) Down Right ≡ c.if-y-eq1.direction =
    elim c.if-y-eq1.branch [ then-y-eq1 w ↦ rw (w.direction-is, eq-eqb (a.y % 2) 1 w.if-y-eq1.true) | else-y-eq1 w ↦ rw (w.direction-is, ne_eqb (a.y % 2) 1 w.if-y-eq1.false) ] in
    ap border_of c.step_at.ensures ∙ sym (on_place a.grid c.requires a.y a.x (a.y / 2 * a.grid.width + a.x / 2) c.if-y-eq1.direction c.if-grid-y.false c.if-grid-x.false d refl)

pub returns-in_err-beyond : goal.returns-in_err-beyond
returns-in_err-beyond c = c.from_residual.ensures ∙ ap border_of (sym c.in_err-beyond.was) ∙ there (goal.at.returns-in_err-beyond c).After-step_at

pub returns : goal.returns
returns c = ap border_of (sym c.in_ok-beyond.was) ∙ there (goal.at.returns c).After-step_at
