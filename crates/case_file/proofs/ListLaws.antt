-- The lists of the file at a byte: numbers and calls behind their counts. Assumes nothing.
use Prim.Native.Nat.{ℕ, zero, suc, ◌+◌, ◌*◌, ◌-◌, ◌≤◌, ◌<◌}
use mathlib.Core.Path.{◌≡◌, refl, sym, ap, ◌∙◌}
use mathlib.Core.Logic.{◌⊎◌, inl, inr, ⊎_elim, ◌≢◌}
use mathlib.Core.List.{List, [], ◌∷◌}
use mathlib.Core.Option.{Option, none, some, some-injective, none-ne-some, some-ne-none}
use native.Mathlib.Omega.{arith}
use lib.Dec.{eqb}
use lib.ListN.{length, get_or, drop, length-drop}
use Rattle.lists.specs.Choice.{through}
use Rattle.lists.proofs.Cases.{le_or_lt, eq_or_ne}
use Rattle.lists.proofs.ChoiceLaws.{through_some}
use Rattle.case_file.specs.declared.Call.{Call}
use Rattle.case_file.specs.declared.Call.TheVariants.{Undo, Decide, Ask}
use Rattle.std.specs.Prelude.{Some, None}
use Rattle.case_file.specs.Sound.{numbers_of, many_of, call_of, calls_of, call_list_of}
use Rattle.case_file.specs.Layout.{word_at, numbers_at, span_of, size_of, step_at, behind_at, counted_at}
use Rattle.case_file.proofs.ReadLaws.{word_at_lem, word_out, many_at, many_out, numbers_length, call_out, call_undo, call_ask, call_other, call_cut, call_decide}

module _ (bs : List ℕ) (at : ℕ) where
  pub numbers_none : length bs < at + 2 → numbers_of (drop at bs) ≡ none
  unfolding numbers_of through
  numbers_none h = rw (word_out bs at (omega arith))

  numbers_word : at + 2 ≤ length bs → numbers_of (drop at bs) ≡ many_of (word_at bs at) (drop (at + 2) bs)
  unfolding numbers_of through
  numbers_word h = rw (word_at_lem bs at (omega arith))

  pub numbers_cut : at + 2 ≤ length bs → length bs < at + 2 + 2 * word_at bs at → numbers_of (drop at bs) ≡ none
  numbers_cut h l = numbers_word h ∙ many_out bs (at + 2) (word_at bs at) l h

  pub numbers_some : at + 2 + 2 * word_at bs at ≤ length bs
      → numbers_of (drop at bs) ≡ some (numbers_at bs (at + 2) (word_at bs at), drop (at + 2 + 2 * word_at bs at) bs)
  numbers_some h = numbers_word (omega arith) ∙ many_at bs (at + 2) (word_at bs at) h

  pub numbers_fits : (n : ℕ) → n ≡ word_at bs at → at + 2 + 2 * n ≤ length bs → Some (span_of (at + 2) n, at + 2 + 2 * n) ≡ counted_at bs at (numbers_of (drop at bs))
  numbers_fits n e h =
      let w = word_at bs at in
      let k : at + 2 + 2 * w ≤ length bs = rw e at h in
      let l : length bs - (length bs - (at + 2 + 2 * w)) ≡ at + 2 + 2 * w = omega arith in
      simp (e, numbers_some k, numbers_length bs (at + 2) w k, length-drop, l)

  -- a call at a byte is none, or one that ends within the file where its size says
  abbrev pub Whole : Type 0
  Whole = (c : Call) × (call_of (drop at bs) ≡ some (c, drop (at + size_of c) bs)) × (at + size_of c ≤ length bs)

  pub call_cases : (call_of (drop at bs) ≡ none) ⊎ Whole
  call_cases =
      let k = get_or bs at 0 in
      ⊎_elim
      (λ (h : length bs ≤ at). inl (call_out bs at h))
      (λ (h : at < length bs).
      ⊎_elim
      (λ (e : k ≡ 0). inr (Undo, call_undo bs at h e, omega arith))
      (λ (z : k ≢ 0).
      ⊎_elim
      (λ (e : k ≡ 3). inr (Ask, call_ask bs at h e, omega arith))
      (λ (t : k ≢ 3).
      ⊎_elim
      (λ (l : k ≤ 3).
      ⊎_elim
      (λ (m : at + 3 ≤ length bs). inr (Decide (word_at bs (at + 1)) (eqb k 2), call_decide bs at m z t l, m))
      (λ (m : length bs < at + 3). inl (call_cut bs at m h z t l))
      (le_or_lt (at + 3) (length bs)))
      (λ (l : 3 < k). inl (call_other bs at h l))
      (le_or_lt k 3))
      (eq_or_ne k 3))
      (eq_or_ne k 0))
      (le_or_lt (length bs) at)

  pub step_call : (c : Call) (next : ℕ) → Some (c, next) ≡ step_at at (call_of (drop at bs)) → (call_of (drop at bs) ≡ some (c, drop next bs)) × (next ≤ length bs)
  step_call c next q =
      ⊎_elim
      (λ (e : call_of (drop at bs) ≡ none). let f : Some (c, next) ≡ None = simp e at q in let z : ◌≡◌ {A = ℕ} 0 1 = cc in absurd (omega arith))
      (λ (o : Whole).
      let f : Some (c, next) ≡ Some (o.0, at + size_of o.0) = simp o.1 at q in
      let g : ◌≡◌ {A = Call × ℕ} (c, next) (o.0, at + size_of o.0) = cc in
      let d : c ≡ o.0 = ap (λ (x : Call × ℕ). x.0) g in
      let n : next ≡ at + size_of o.0 = ap (λ (x : Call × ℕ). x.1) g in
      rw (d, n) (o.1, o.2))
      call_cases

  pub step_unsound : None ≡ step_at at (call_of (drop at bs)) → call_of (drop at bs) ≡ none
  step_unsound q =
      ⊎_elim
      (λ e. e)
      (λ (o : Whole). let f : None ≡ Some (o.0, at + size_of o.0) = simp o.1 at q in let z : ◌≡◌ {A = ℕ} 0 1 = cc in absurd (omega arith))
      call_cases

  -- the byte behind a call is behind one that is sound
  behind_call : (next : ℕ) → Some next ≡ behind_at at (call_of (drop at bs)) → (c : Call) × (call_of (drop at bs) ≡ some (c, drop next bs)) × (next ≤ length bs)
  behind_call next q =
      ⊎_elim
      (λ (e : call_of (drop at bs) ≡ none). let f : Some next ≡ None = simp e at q in let z : ◌≡◌ {A = ℕ} 0 1 = cc in absurd (omega arith))
      (λ (o : Whole).
      let f : Some next ≡ Some (at + size_of o.0) = simp o.1 at q in
      let n : next ≡ at + size_of o.0 = cc in
      (o.0, rw n o.1, rw n o.2))
      call_cases

  pub behind_unsound : None ≡ behind_at at (call_of (drop at bs)) → call_of (drop at bs) ≡ none
  behind_unsound q =
      ⊎_elim
      (λ e. e)
      (λ (o : Whole). let f : None ≡ Some (at + size_of o.0) = simp o.1 at q in let z : ◌≡◌ {A = ℕ} 0 1 = cc in absurd (omega arith))
      call_cases

-- what a list of calls leaves behind it
abbrev behind_of : Option (List Call × List ℕ) → Option (List ℕ)
behind_of none = none
behind_of (some p) = some p.1

behind_through : (o : Option (List Call × List ℕ)) (c : Call)
    → behind_of (through o (λ cs. some (c ∷ cs.0, cs.1))) ≡ behind_of o
unfolding through
behind_through none c = refl
behind_through (some p) c = refl

calls_turn : (n : ℕ) (r s : List ℕ) (c : Call) → call_of r ≡ some (c, s) → behind_of (calls_of (suc n) r) ≡ behind_of (calls_of n s)
unfolding calls_of through
calls_turn n r s c e = rw e (behind_through (calls_of n s) c)

calls_stop : (n : ℕ) (r : List ℕ) → call_of r ≡ none → behind_of (calls_of (suc n) r) ≡ none
unfolding calls_of through
calls_stop n r e = rw e

behind_some : (o : Option (List Call × List ℕ)) (r : List ℕ) → behind_of o ≡ some r → (cs : List Call) × (o ≡ some (cs, r))
behind_some none r e = absurd (none-ne-some r e)
behind_some (some p) r e = (p.0, ap (λ (x : List ℕ). some (p.0, x)) (some-injective p.1 r e))

behind_none : (o : Option (List Call × List ℕ)) → behind_of o ≡ none → o ≡ none
behind_none none e = refl
behind_none (some p) e = absurd (some-ne-none p.1 e)

-- a list of calls is a call and the calls behind it
pub record Headed (n : ℕ) (r s : List ℕ) (cs : List Call) : Type 0 where
  pub call : Call
  pub after : List ℕ
  pub others : List Call
  pub reads : call_of r ≡ some (call, after)
  pub follow : calls_of n after ≡ some (others, s)
  pub whole : cs ≡ call ∷ others

pub headed : (n : ℕ) (r s : List ℕ) (cs : List Call) → calls_of (suc n) r ≡ some (cs, s) → Headed n r s cs
unfolding calls_of
headed n r s cs e =
    let a = through_some (call_of r) (λ c. through (calls_of n c.1) (λ cs. some (c.0 ∷ cs.0, cs.1))) (cs, s) e in
    let b = through_some (calls_of n a.0.1) (λ cs. some (a.0.0 ∷ cs.0, cs.1)) (cs, s) a.2 in
    let q = some-injective (a.0.0 ∷ b.0.0, b.0.1) (cs, s) b.2 in
    record {
      call = a.0.0;
      after = a.0.1;
      others = b.0.0;
      reads = a.1;
      follow = b.1 ∙ ap (λ (x : List Call × List ℕ). some (b.0.0, x.1)) q;
      whole = ap (λ (x : List Call × List ℕ). x.0) (sym q);
    }

pub calls_length_lem : (n : ℕ) (r s : List ℕ) (cs : List Call) → calls_of n r ≡ some (cs, s) → length cs ≡ n
unfolding calls_of
calls_length_lem zero r s cs e = ap (λ (x : List Call × List ℕ). length x.0) (sym (some-injective ([], r) (cs, s) e))
calls_length_lem (suc n) r s cs e =
    let o = headed n r s cs e in
    ap length o.whole ∙ ap suc (calls_length_lem n o.after s o.others o.follow)

-- The loop over the calls: what the calls that are left leave behind them is what all of them do.
pub record Walking (bs : List ℕ) (start count next k : ℕ) : Type 0 where
  pub inside : next ≤ length bs
  pub left : behind_of (calls_of (count - k) (drop next bs)) ≡ behind_of (calls_of count (drop start bs))

module _ {bs : List ℕ} {start count next k : ℕ} (f : Walking bs start count next k) where
  walking_on : k < count → (c : Call) (behind : ℕ) → (call_of (drop next bs) ≡ some (c, drop behind bs)) × (behind ≤ length bs) → Walking bs start count behind (k + 1)
  walking_on h c behind o =
      let e : count - k ≡ suc (count - (k + 1)) = omega arith in
      record {
        inside = o.1;
        left = sym (calls_turn (count - (k + 1)) (drop next bs) (drop behind bs) c o.0) ∙ rw e at f.left;
      }

  -- a turn that reads a call
  pub walking_next : k < count → (c : Call) (behind : ℕ) → Some (c, behind) ≡ step_at next (call_of (drop next bs)) → Walking bs start count behind (k + 1)
  walking_next h c behind q = walking_on h c behind (step_call bs next c behind q)

  -- a turn that finds where one ends
  pub walking_behind : k < count → (behind : ℕ) → Some behind ≡ behind_at next (call_of (drop next bs)) → Walking bs start count behind (k + 1)
  walking_behind h behind q = let o = behind_call bs next behind q in walking_on h o.0 behind (o.1, o.2)

  pub walking_stop : k < count → call_of (drop next bs) ≡ none → calls_of count (drop start bs) ≡ none
  walking_stop h q =
      let e : count - k ≡ suc (count - (k + 1)) = omega arith in
      behind_none (calls_of count (drop start bs)) (sym (rw e at f.left) ∙ calls_stop (count - (k + 1)) (drop next bs) q)

  pub walking_end : count ≤ k → (cs : List Call) × (calls_of count (drop start bs) ≡ some (cs, drop next bs))
  unfolding calls_of
  walking_end h =
      let e : count - k ≡ 0 = omega arith in
      behind_some (calls_of count (drop start bs)) (drop next bs) (sym (rw e at f.left))

module _ (bs : List ℕ) (at : ℕ) where
  pub calls_none : length bs < at + 2 → call_list_of (drop at bs) ≡ none
  unfolding call_list_of through
  calls_none h = rw (word_out bs at (omega arith))

  pub calls_word : at + 2 ≤ length bs → call_list_of (drop at bs) ≡ calls_of (word_at bs at) (drop (at + 2) bs)
  unfolding call_list_of through
  calls_word h = rw (word_at_lem bs at (omega arith))

  pub calls_cut : (n : ℕ) → n ≡ word_at bs at → at + 2 ≤ length bs → calls_of n (drop (at + 2) bs) ≡ none → call_list_of (drop at bs) ≡ none
  calls_cut n e h q = calls_word h ∙ rw e at q

  pub calls_fits : (n next : ℕ) → n ≡ word_at bs at → at + 2 ≤ length bs → next ≤ length bs
      → (cs : List Call) × (calls_of n (drop (at + 2) bs) ≡ some (cs, drop next bs))
      → Some (span_of (at + 2) n, next) ≡ counted_at bs at (call_list_of (drop at bs))
  calls_fits n next e h k o =
      let l : length bs - (length bs - next) ≡ next = omega arith in
      let c : call_list_of (drop at bs) ≡ some (o.0, drop next bs) = calls_word h ∙ rw e at o.1 in
      simp (c, calls_length_lem n (drop (at + 2) bs) (drop next bs) o.0 o.1, length-drop, l)
