-- `ledger::book_holds` meets its contract: no more names than borders, the first one's mark, and the walk over names and states. Assumes nothing.
use mathlib.Core.Path.{◌≡◌, sym, ap, ◌∙◌}
use borrow.Author.Tests.{lt-leb, le-leb}
use Rattle.lists.proofs.Cases.{not_both}
use Rattle.ledger.specs.Books.{book_holds, borders_in, first_starts}
use Rattle.ledger.specs.Marks.{fit_all}
use Rattle.ledger.proofs.Loops.{fits_front}
use Rattle.ledger.proofs.NameLaws.{first_none, first_some}
use Rattle.ledger.proofs.MarkLaws.{holds_by_marks}
use Rattle.ledger.proofs.book_holds.Goals as goal
use Rattle.ledger.proofs.book_holds.Goals.{then-len-eq0, else-len-eq0, then-starts, else-starts, Joined-len-eq0}

pub returns-then-n-len : goal.returns-then-n-len
unfolding book_holds
returns-then-n-len c = simp (lt-leb _ _ c.if-n-len.true)

first : (c : Joined-len-eq0) → c.if-len-eq0.starts ≡ first_starts c.args.names.now c.args.len
first c =
    elim c.if-len-eq0.branch [
      | then-len-eq0 w ↦ w.starts-is ∙ first_none c.args.names.now c.args.len w.if-len-eq0.true
      | else-len-eq0 w ↦ w.starts-is ∙ first_some c.args.names.now c.args.len w.if-len-eq0.false
    ]

pub returns-then-mark_names : goal.returns-then-mark_names
unfolding book_holds
returns-then-mark_names c =
    let a = c.args in
    let at = (goal.at.returns-then-mark_names c).Joined-len-eq0 in
    let law = holds_by_marks a.n a.states.now a.marks.now (borders_in a.names.now a.len) c.requires.marks_long c.requires.marks_given in
    elim c.if-starts.branch [
      | then-starts w ↦
          let new = sym w.value-is ∙ c.if-mark_names.true in
          simp (le-leb _ _ c.if-n-len.false, sym (first at) ∙ w.if-starts.true, law, sym w.mark_names.ensures.answer ∙ new)
          (c.all_fit.ensures ∙ fits_front a.n a.states.now c.if-starts.marks c.requires.states_long ∙ ap (fit_all a.n a.states.now) (w.marks-is ∙ w.mark_names.ensures.marks new))
      | else-starts w ↦ absurd (not_both c.if-starts.value c.if-mark_names.true (w.value-is ∙ w.if-starts.false))
    ]

pub returns-else-mark_names : goal.returns-else-mark_names
unfolding book_holds
returns-else-mark_names c =
    let a = c.args in
    let at = (goal.at.returns-else-mark_names c).Joined-len-eq0 in
    let law = holds_by_marks a.n a.states.now a.marks.now (borders_in a.names.now a.len) c.requires.marks_long c.requires.marks_given in
    elim c.if-starts.branch [
      | then-starts w ↦
          let old = sym w.mark_names.ensures.answer ∙ sym w.value-is ∙ c.if-mark_names.false in
          c.if-mark_names.false ∙ simp (le-leb _ _ c.if-n-len.false, sym (first at) ∙ w.if-starts.true, law, old)
      | else-starts w ↦ c.if-mark_names.false ∙ simp (le-leb _ _ c.if-n-len.false, sym (first at) ∙ w.if-starts.false)
    ]
