-- `lines::pen::digits` meets its contract: it recurses as the definition does, on the places. Assumes nothing.
use Rattle.std.proofs.Common.{refl, arith}
use Rattle.lines.proofs.DecimalLaws.{digits_none}
use Rattle.lines.proofs.LineLaws.{one_digit, more_digits, last_digit}
use Rattle.lines.proofs.pen.+digits.Goals as goal

pub returns-then-places-eq0 : goal.returns-then-places-eq0
returns-then-places-eq0 t c =
    let a = c.args in rw (digits_none a.places a.n c.if-places-eq0.true) (record { value = omega arith; buffer_after = refl })

pub bounds-buffer-at : goal.bounds-buffer-at
bounds-buffer-at t c =
    let a = c.args in omega (arith, c.requires, (one_digit a.places a.n a.at a.buffer.now c.if-places-eq0.false c.if-n-lt10.true).0)

pub returns-then-n-lt10 : goal.returns-then-n-lt10
returns-then-n-lt10 t c =
    let a = c.args in
    let w = one_digit a.places a.n a.at a.buffer.now c.if-places-eq0.false c.if-n-lt10.true in
    record { value = w.0; buffer_after = w.1 }

pub digits-last-requires : goal.digits-last-requires
digits-last-requires t c =
    let a = c.args in (
      omega arith,
      omega (arith, c.requires, more_digits a.places a.n a.at a.buffer.now c.if-places-eq0.false c.if-n-lt10.false),
    )

pub bounds-buffer-last : goal.bounds-buffer-last
bounds-buffer-last t c =
    let a = c.args in
    omega (
      arith,
      c.requires,
      more_digits a.places a.n a.at a.buffer.now c.if-places-eq0.false c.if-n-lt10.false,
      c.digits-last.ensures.value,
      c.digits-last.auto.buffer,
    )

pub overflow_add-result-2 : goal.overflow_add-result-2
overflow_add-result-2 t c =
    let a = c.args in
    omega (
      arith,
      c.requires,
      more_digits a.places a.n a.at a.buffer.now c.if-places-eq0.false c.if-n-lt10.false,
      c.digits-last.ensures.value,
      c.digits-last.auto.buffer,
    )

pub returns : goal.returns
returns t c =
    let a = c.args in
    let w =
    last_digit a.places a.n a.at a.buffer.now c.if-places-eq0.false c.if-n-lt10.false c.digits-last.ensures.value c.digits-last.ensures.buffer_after
    in
    record { value = w.0; buffer_after = w.1 }
