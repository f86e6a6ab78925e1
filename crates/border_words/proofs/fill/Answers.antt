-- `border_words::fill` meets its contract. Assumes nothing.
use native.Mathlib.Omega.{arith}
use Rattle.border_words.proofs.AllLaws.{under_filled, right_filled, both_kinds}
use Rattle.border_words.proofs.fill.Goals as goal

pub returns : goal.returns
returns c =
    let f = c.args.borders.fits in
    let u = under_filled f 2 1 _ c.args.words.now c.fill_side.new.words _ c.fill_side.ensures.long (omega arith) (omega arith) c.split_at.ensures.back c.fill_side.ensures.rows in
    let r = right_filled f 2 33 _ _ c.fill_side-2.new.words _ c.fill_side-2.ensures.long (omega arith) (omega (arith, u.long)) c.split_at.ensures.front c.fill_side-2.ensures.rows in
    let u' = under_filled f 1 67 _ _ c.fill_side-3.new.words _ c.fill_side-3.ensures.long (omega arith) (omega (arith, u.long, r.long)) c.split_at.ensures.back c.fill_side-3.ensures.rows in
    let r' = right_filled f 1 99 _ _ c.fill_side-4.new.words _ c.fill_side-4.ensures.long (omega arith) (omega (arith, u.long, r.long, u'.long)) c.split_at.ensures.front c.fill_side-4.ensures.rows in
    both_kinds f c.requires.words_long c.requires.unfilled u r u' r'
