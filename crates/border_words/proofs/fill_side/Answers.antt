-- `border_words::fill_side` meets its contract: the words of the rows so far are made. Assumes nothing.
use Rattle.std.proofs.Common.{◌*◌, ◌+◌, ◌≤◌, arith, length}
use native.Mathlib.Nat.{mul-le-mul, suc-mul, le_refl}
use Rattle.border_words.specs.Filled.{SideWord, Run}
use Rattle.border_words.proofs.FillLaws.{row_turn, cut_word}
use Rattle.border_words.proofs.fill_side.Goals as goal

pub loop-y-init : goal.loop-y-init
loop-y-init c = λ z h. absurd (omega arith)

pub loop-y-preserved : goal.loop-y-preserved
loop-y-preserved c =
    let a = c.args in
    let r : Run (c.loop-y.y * a.len) a.len a.states.now =
    record { narrow = c.requires.narrow; states_long = omega (arith, (let b : (c.loop-y.y + 1) * a.len ≤ length a.words.now * a.len = mul-le-mul (omega arith) (le_refl a.len) in b), suc-mul c.loop-y.y a.len, c.requires.states_long) } in
    row_turn (λ z. SideWord (z * a.len) a.len a.states.now a.state) c.loop-y.words c.loop-y.y _ (omega (arith, c.loop-y-test.true, c.loop-y.auto.words)) c.loop-y.invariant (cut_word r _ _ c.side_word.ensures)

pub returns-clause-rows : goal.returns-clause-rows
returns-clause-rows c = λ y h. c.loop-y.invariant y (omega (arith, h, c.loop-y-test.false))
