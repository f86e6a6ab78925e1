-- From the lists to the whole file: what a counted list that was found says of the definition, and one law for each way out of `parts`. Assumes nothing.
use Prim.Native.Nat.{ℕ, zero, suc, ◌+◌, ◌*◌, ◌-◌, ◌≤◌, ◌<◌}
use mathlib.Core.Path.{◌≡◌, refl, sym, ap, ◌∙◌}
use mathlib.Core.Logic.{◌⊎◌, inl, inr, ⊎_elim, ◌≢◌}
use mathlib.Core.Bool.{true, false}
use mathlib.Core.List.{List}
use mathlib.Core.Option.{Option, none, some, some-injective, none-ne-some}
use native.Mathlib.Omega.{arith}
use borrow.Author.Tests.{eq-eqb, ne_eqb, le-leb, lt-leb}
use lib.ListN.{length, get_or, drop, length-drop, drop_of_length-le}
use lib.Dec.{eqb, leb}
use lib.Seq.{drop-cons}
use Rattle.lists.specs.Choice.{pick, both, give, through}
use Rattle.lists.proofs.Cases.{le_or_lt}
use Rattle.case_file.specs.declared.Call.{Call}
use Rattle.case_file.specs.declared.Span.{Span}
use Rattle.std.specs.Prelude.{Some, None}
use Rattle.case_file.specs.Sound.{numbers_of, calls_of, call_list_of, is_end, lists_of, rest_of, decode_of}
use Rattle.case_file.specs.Layout.{word_at, span_of, size_of, counted_at, parts_of}
use Rattle.case_file.proofs.ReadLaws.{byte_at, byte_out, word_at_lem, word_out, numbers_length}
use Rattle.case_file.proofs.ListLaws.{numbers_none, numbers_cut, numbers_some, Whole, call_cases, headed}

-- a list that was read from a byte on leaves the bytes from another on
abbrev Within : {A : Type 0} → List ℕ → Option (List A × List ℕ) → Type 0
Within {A} bs o = (p : List A × List ℕ) → o ≡ some p → (m : ℕ) × (m ≤ length bs) × (p.1 ≡ drop m bs)

left_of : (bs r : List ℕ) (m : ℕ) → m ≤ length bs → r ≡ drop m bs → length bs - length r ≡ m
left_of bs r m h e = rw e (simp length-drop (omega arith))

-- the list that a span stands for
pub record Found {A : Type 0} (bs : List ℕ) (at : ℕ) (o : Option (List A × List ℕ)) (s : Span) (next : ℕ) : Type 0 where
  pub items : List A
  pub reads : o ≡ some (items, drop next bs)
  pub span : s ≡ span_of (at + 2) (length items)
  pub inside : next ≤ length bs

module _ {A : Type 0} (bs : List ℕ) (at : ℕ) where
  found : (o : Option (List A × List ℕ)) (s : Span) (next : ℕ) → Within bs o → Some (s, next) ≡ counted_at bs at o → Found bs at o s next
  found none s next h q = let z : ◌≡◌ {A = ℕ} 0 1 = cc in absurd (omega arith)
  found (some p) s next h q =
      let w = h p refl in
      let g : ◌≡◌ {A = Span × ℕ} (s, next) (span_of (at + 2) (length p.0), length bs - length p.1) = cc in
      let n : next ≡ length bs - length p.1 = ap (λ (x : Span × ℕ). x.1) g in
      let m : next ≡ w.0 = n ∙ left_of bs p.1 w.0 w.1 w.2 in
      record {
        items = p.0;
        reads = ap (λ (r : List ℕ). some (p.0, r)) (rw m w.2);
        span = ap (λ (x : Span × ℕ). x.0) g;
        inside = omega (arith, m, w.1);
      }

  pub missing : (o : Option (List A × List ℕ)) → None ≡ counted_at bs at o → o ≡ none
  missing none q = refl
  missing (some p) q = let z : ◌≡◌ {A = ℕ} 0 1 = cc in absurd (omega arith)

-- every list that is read from within the file leaves off within it
pub numbers_cases : (bs : List ℕ) (at : ℕ) → (at + 2 + 2 * word_at bs at ≤ length bs) ⊎ (numbers_of (drop at bs) ≡ none)
numbers_cases bs at =
    let w = word_at bs at in
    ⊎_elim
    (λ (h : at + 2 + 2 * w ≤ length bs). inl h)
    (λ (h : length bs < at + 2 + 2 * w).
    inr
    (⊎_elim (λ (k : at + 2 ≤ length bs). numbers_cut bs at k h) (λ (k : length bs < at + 2). numbers_none bs at k) (le_or_lt (at + 2) (length bs))))
    (le_or_lt (at + 2 + 2 * w) (length bs))

numbers_within : (bs : List ℕ) (at : ℕ) → Within bs (numbers_of (drop at bs))
numbers_within bs at p q =
    ⊎_elim
    (λ h. (at + 2 + 2 * word_at bs at, h, ap (λ (x : List ℕ × List ℕ). x.1) (some-injective p _ (sym q ∙ numbers_some bs at h))))
    (λ e. absurd (none-ne-some p (sym e ∙ q)))
    (numbers_cases bs at)

pub calls_within : (bs : List ℕ) (n at : ℕ) → at ≤ length bs → Within bs (calls_of n (drop at bs))
unfolding calls_of
calls_within bs zero at h p q = (at, h, ap (λ (x : List Call × List ℕ). x.1) (sym (some-injective _ p q)))
calls_within bs (suc n) at h p q =
    let o = headed n (drop at bs) p.1 p.0 q in
    ⊎_elim
    (λ e. absurd (none-ne-some _ (sym e ∙ o.reads)))
    (λ (w : Whole bs at).
    let a : o.after ≡ drop (at + size_of w.0) bs = ap (λ (x : Call × List ℕ). x.1) (some-injective _ _ (sym o.reads ∙ w.1)) in
    calls_within bs n (at + size_of w.0) w.2 (o.others, p.1) (rw a at o.follow))
    (call_cases bs at)

list_within : (bs : List ℕ) (at : ℕ) → Within bs (call_list_of (drop at bs))
unfolding call_list_of through
list_within bs at p q =
    ⊎_elim
    (λ (h : at + 2 ≤ length bs). calls_within bs (word_at bs at) (at + 2) h p (rw (word_at_lem bs at (omega arith)) at q))
    (λ (h : length bs < at + 2). absurd (none-ne-some p (rw (word_out bs at (omega arith)) at q)))
    (le_or_lt (at + 2) (length bs))

-- numbers, and calls, that were found at a byte are those that the definition reads there
pub numbers_found : (bs : List ℕ) (at : ℕ) {s : Span} {next : ℕ} → Some (s, next) ≡ counted_at bs at (numbers_of (drop at bs)) → Found bs at (numbers_of (drop at bs)) s next
numbers_found bs at {s} {next} q = found bs at (numbers_of (drop at bs)) s next (numbers_within bs at) q

pub calls_found : (bs : List ℕ) (at : ℕ) {s : Span} {next : ℕ} → Some (s, next) ≡ counted_at bs at (call_list_of (drop at bs)) → Found bs at (call_list_of (drop at bs)) s next
calls_found bs at {s} {next} q = found bs at (call_list_of (drop at bs)) s next (list_within bs at) q

-- the numbers end where their count says
pub numbers_end : (bs : List ℕ) (at : ℕ) {s : Span} {next : ℕ} (f : Found bs at (numbers_of (drop at bs)) s next) → next ≡ at + 2 + 2 * length f.items
numbers_end bs at {s} {next} f =
    let w = word_at bs at in
    ⊎_elim
    (λ (h : at + 2 + 2 * w ≤ length bs).
    let q = some-injective _ _ (sym f.reads ∙ numbers_some bs at h) in
    let i : length f.items ≡ w = ap (λ (x : List ℕ × List ℕ). length x.0) q ∙ numbers_length bs (at + 2) w h in
    let d : length bs - next ≡ length bs - (at + 2 + 2 * w) = simp length-drop at (ap (λ (x : List ℕ × List ℕ). length x.1) q) in
    omega (arith, f.inside))
    (λ e. absurd (none-ne-some _ (sym e ∙ f.reads)))
    (numbers_cases bs at)

module _ (height width : ℕ) where
  lists_no_walls : (r : List ℕ) → numbers_of r ≡ none → lists_of height width r ≡ none
  unfolding lists_of through
  lists_no_walls r e = rw e

  lists_no_clues : (r s ws : List ℕ) → numbers_of r ≡ some (ws, s) → numbers_of s ≡ none → lists_of height width r ≡ none
  unfolding lists_of through
  lists_no_clues r s ws e f = simp (e, f)

  lists_no_calls : (r s t ws cs : List ℕ) → numbers_of r ≡ some (ws, s) → numbers_of s ≡ some (cs, t) → call_list_of t ≡ none → lists_of height width r ≡ none
  unfolding lists_of through
  lists_no_calls r s t ws cs e f g = simp (e, f, g)

  lists_whole : (r s t u ws cs : List ℕ) (ks : List Call) → numbers_of r ≡ some (ws, s) → numbers_of s ≡ some (cs, t) → call_list_of t ≡ some (ks, u)
      → lists_of height width r ≡ give (is_end u) (record { height = height; width = width; walls = ws; clues = cs; calls = ks })
  unfolding lists_of through
  lists_whole r s t u ws cs ks e f g = simp (e, f, g)

end_not : (bs : List ℕ) (at : ℕ) → at < length bs → is_end (drop at bs) ≡ false
end_not bs at h = rw (drop-cons bs at 0 h)

end_is : (bs : List ℕ) (at : ℕ) → length bs ≤ at → is_end (drop at bs) ≡ true
end_is bs at h = rw (drop_of_length-le bs h)

rest_short : (bs : List ℕ) → length bs < 5 → rest_of (drop 3 bs) ≡ none
unfolding rest_of through
rest_short bs h =
    ⊎_elim
    (λ (k : length bs ≤ 3). simp (byte_out bs 3 k))
    (λ (k : 3 < length bs). simp (byte_at bs 3 k, byte_out bs 4 (omega arith)))
    (le_or_lt (length bs) 3)

rest_lists : (bs : List ℕ) → 5 ≤ length bs → rest_of (drop 3 bs) ≡ lists_of (get_or bs 3 0) (get_or bs 4 0) (drop 5 bs)
unfolding rest_of through
rest_lists bs h = simp (byte_at bs 3 (omega arith), byte_at bs 4 (omega arith))

-- The ways out of `parts`: by the version and the length,
module _ (bs : List ℕ) where
  pub front_short : length bs < 3 → None ≡ parts_of (decode_of bs)
  unfolding decode_of through
  front_short h =
      ⊎_elim
      (λ (k : length bs ≤ 0). simp (byte_out bs 0 k))
      (λ (k : 0 < length bs). simp (byte_at bs 0 k, word_out bs 1 (omega arith)))
      (le_or_lt (length bs) 0)

  front : 3 ≤ length bs
      → decode_of bs ≡ pick (both (eqb (get_or bs 0 0) 1) (both (eqb (word_at bs 1) (length bs - 3)) (leb (word_at bs 1) 60000))) (rest_of (drop 3 bs)) none
  unfolding decode_of through
  front h = simp (byte_at bs 0 (omega arith), word_at_lem bs 1 (omega arith), length-drop)

  module _ (h : 3 ≤ length bs) where
    pub front_version : get_or bs 0 0 ≢ 1 → None ≡ parts_of (decode_of bs)
    front_version v = simp (front h, ne_eqb _ _ v)

    module _ (v : get_or bs 0 0 ≡ 1) {long : ℕ} (e : long ≡ word_at bs 1) where
      pub front_length : (long ≢ length bs - 3) ⊎ ((long ≡ length bs - 3) × (60000 < long)) → None ≡ parts_of (decode_of bs)
      front_length =
          rw e
          (⊎_elim (λ l. simp (front h, eq-eqb _ _ v, ne_eqb _ _ l)) (λ k. simp (front h, eq-eqb _ _ v, eq-eqb _ _ k.0, lt-leb _ _ k.1)))

      pub front_good : long ≡ length bs - 3 → long ≤ 60000 → decode_of bs ≡ rest_of (drop 3 bs)
      front_good = rw e (λ l k. simp (front h, eq-eqb _ _ v, eq-eqb _ _ l, le-leb _ _ k))

-- and by the lists, behind a front that is good.
module _ (bs : List ℕ) (good : decode_of bs ≡ rest_of (drop 3 bs)) where
  pub no_walls : numbers_of (drop 5 bs) ≡ none → None ≡ parts_of (decode_of bs)
  no_walls e =
      ⊎_elim
      (λ (h : 5 ≤ length bs). simp (good, rest_lists bs h, lists_no_walls (get_or bs 3 0) (get_or bs 4 0) (drop 5 bs) e))
      (λ (h : length bs < 5). simp (good, rest_short bs h))
      (le_or_lt 5 (length bs))

  module _ {walls : Span} {n : ℕ} (f : Found bs 5 (numbers_of (drop 5 bs)) walls n) where
    lists : decode_of bs ≡ lists_of (get_or bs 3 0) (get_or bs 4 0) (drop 5 bs)
    lists = good ∙ rest_lists bs (omega (arith, f.inside, numbers_end bs 5 f))

    pub no_clues_lem : numbers_of (drop n bs) ≡ none → None ≡ parts_of (decode_of bs)
    no_clues_lem e = simp (lists, lists_no_clues (get_or bs 3 0) (get_or bs 4 0) (drop 5 bs) (drop n bs) f.items f.reads e)

    module _ {clues : Span} {m : ℕ} (g : Found bs n (numbers_of (drop n bs)) clues m) where
      pub no_calls : call_list_of (drop m bs) ≡ none → None ≡ parts_of (decode_of bs)
      no_calls e = simp (lists, lists_no_calls (get_or bs 3 0) (get_or bs 4 0) (drop 5 bs) (drop n bs) (drop m bs) f.items g.items f.reads g.reads e)

      module _ {calls : Span} {end : ℕ} (k : Found bs m (call_list_of (drop m bs)) calls end) where
        whole : decode_of bs
            ≡ give (is_end (drop end bs)) (record { height = get_or bs 3 0; width = get_or bs 4 0; walls = f.items; clues = g.items; calls = k.items })
        whole =
            lists
            ∙ lists_whole (get_or bs 3 0) (get_or bs 4 0) (drop 5 bs) (drop n bs) (drop m bs) (drop end bs) f.items g.items k.items f.reads g.reads k.reads

        pub more_left : end < length bs → None ≡ parts_of (decode_of bs)
        unfolding give
        more_left l = simp (whole, end_not bs end l)

        pub all_read : length bs ≤ end
            → Some (record { height = get_or bs 3 0; width = get_or bs 4 0; walls = walls; clues = clues; calls = calls }) ≡ parts_of (decode_of bs)
        unfolding give
        all_read l =
            let a : n + 2 ≡ 9 + 2 * length f.items = omega (arith, numbers_end bs 5 f) in
            let b : m + 2 ≡ 11 + 2 * length f.items + 2 * length g.items = omega (arith, numbers_end bs 5 f, numbers_end bs n g) in
            simp (whole, end_is bs end l, f.span, g.span, k.span, a, b)
