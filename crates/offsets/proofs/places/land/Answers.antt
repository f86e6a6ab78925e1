-- `offsets::places::land` meets its contract: a negative place is outside, and any other is the number that it is. Assumes nothing.
use mathlib.Core.Path.{sym, ap₂, ◌∙◌}
use native.Mathlib.Omega.{arith}
use Rattle.offsets.specs.Places.{land_of}
use Rattle.offsets.proofs.Signed.{negative, cast_is}
use Rattle.offsets.proofs.PlaceLaws.{above, beside}
use Rattle.offsets.proofs.places.land.Goals as goal
use Rattle.offsets.proofs.places.land.Goals.{then-place-lt0-via-then-place-lt0, then-place-lt0-via-else-place-lt0+then-place-lt0-2}

pub returns-then-place-lt0 : goal.returns-then-place-lt0
returns-then-place-lt0 c =
    let p = c.args.place in
    elim c.then-place-lt0.branch [
      | then-place-lt0-via-then-place-lt0 w ↦ above c.args.grid p.y p.x (negative p.y (omega arith) w.if-place-lt0.true)
      | then-place-lt0-via-else-place-lt0+then-place-lt0-2 w ↦ beside c.args.grid p.y p.x (negative p.x (omega arith) w.if-place-lt0-2.true)
    ]

pub returns : goal.returns
unfolding land_of
returns c =
    let p = c.args.place in
    c.border_at.ensures ∙ ap₂ (land_of c.args.grid) (sym (cast_is p.y (omega arith) c.if-place-lt0.false)) (sym (cast_is p.x (omega arith) c.if-place-lt0-2.false))
