-- What a caller learns from a sound file's layout: the lists at its places are the case's, and the cursor steps through its calls. Assumes nothing.
use Prim.Native.Nat.{ℕ, suc, ◌+◌, ◌*◌, ◌≤◌, ◌<◌}
use mathlib.Core.Path.{◌≡◌, refl, sym, ap, ◌∙◌}
use mathlib.Core.Logic.{◌⊎◌, inl, inr, ⊎_elim}
use mathlib.Core.List.{List, [], ◌∷◌}
use mathlib.Core.Option.{Option, none, some, some-injective, none-ne-some}
use native.Mathlib.Omega.{arith}
use lib.ListN.{length, drop}
use Rattle.lists.proofs.Cases.{le_or_lt}
use Rattle.case_file.specs.declared.Call.{Call}
use Rattle.case_file.specs.declared.Layout.{Layout}
use Rattle.std.specs.Prelude.{Some, Ok, Err}
use Rattle.answers.specs.declared.Refusal.{Refusal}
use Rattle.answers.specs.declared.Refusal.TheVariants.{UnsoundFile}
use Rattle.case_file.specs.Sound.{Case, numbers_of, call_of, calls_of, call_list_of, decode_of}
use Rattle.case_file.specs.Layout.{word_at, numbers_at, size_of, step_at, layout_of, file_of}
use Rattle.case_file.proofs.ReadLaws.{numbers_length}
use Rattle.case_file.proofs.ListLaws.{numbers_some, calls_length_lem, calls_none, calls_word, Whole, call_cases, Headed, headed}
use Rattle.case_file.proofs.FileLaws.{numbers_cases}
use Rattle.case_file.proofs.BackLaws.{Parts, parts}

-- an accepted file is sound, and its layout is the case's
pub accepted : (bs : List ℕ) (l : Layout) → Ok l ≡ file_of (decode_of bs) → (f : Case) × (decode_of bs ≡ some f) × (l ≡ layout_of f)
accepted bs l q = go (decode_of bs) refl
  where
    go : (o : Option Case) → decode_of bs ≡ o → (f : Case) × (decode_of bs ≡ some f) × (l ≡ layout_of f)
    go none e = let z : Ok l ≡ Err UnsoundFile = rw e at q in let y : ◌≡◌ {A = ℕ} 0 1 = cc in absurd (omega arith)
    go (some f) e = let z : Ok l ≡ Ok (layout_of f) = rw e at q in (f, e, cc)

-- a refused file is not sound
pub refused : (bs : List ℕ) (r : Refusal) → Err r ≡ file_of (decode_of bs) → decode_of bs ≡ none
refused bs r q = go (decode_of bs) refl
  where
    go : (o : Option Case) → decode_of bs ≡ o → decode_of bs ≡ none
    go none e = e
    go (some f) e = let z : Err r ≡ Ok (layout_of f) = rw e at q in let y : ◌≡◌ {A = ℕ} 0 1 = cc in absurd (omega arith)

numbers_known : (bs : List ℕ) (at : ℕ) (xs s : List ℕ) → numbers_of (drop at bs) ≡ some (xs, s)
    → (s ≡ drop (at + 2 + 2 * length xs) bs) × (numbers_at bs (at + 2) (length xs) ≡ xs)
numbers_known bs at xs s e =
    let w = word_at bs at in
    ⊎_elim
    (λ (h : at + 2 + 2 * w ≤ length bs).
    let q = some-injective (numbers_at bs (at + 2) w, drop (at + 2 + 2 * w) bs) (xs, s) (sym (numbers_some bs at h) ∙ e) in
    let l : w ≡ length xs = sym (numbers_length bs (at + 2) w h) ∙ ap (λ (p : List ℕ × List ℕ). length p.0) q in
    (sym (rw l at (ap (λ (p : List ℕ × List ℕ). p.1) q)), rw l at (ap (λ (p : List ℕ × List ℕ). p.0) q)))
    (λ n. absurd (none-ne-some (xs, s) (sym n ∙ e)))
    (numbers_cases bs at)

calls_known : (bs : List ℕ) (at : ℕ) (cs : List Call) (s : List ℕ) → call_list_of (drop at bs) ≡ some (cs, s) → calls_of (length cs) (drop (at + 2) bs) ≡ some (cs, s)
calls_known bs at cs s e =
    ⊎_elim
    (λ (h : at + 2 ≤ length bs).
    let q = sym (calls_word bs at h) ∙ e in
    rw (calls_length_lem (word_at bs at) (drop (at + 2) bs) s cs q) q)
    (λ (h : length bs < at + 2). absurd (none-ne-some (cs, s) (sym (calls_none bs at h) ∙ e)))
    (le_or_lt (at + 2) (length bs))

module _ {f : Case} {bs : List ℕ} (o : Parts f bs) where
  walls_parts : (o.others ≡ drop (7 + 2 * length f.walls) bs) × (numbers_at bs 7 (length f.walls) ≡ f.walls)
  walls_parts = numbers_known bs 5 f.walls o.others (ap (λ (r : List ℕ). numbers_of (drop 5 r)) o.bytes ∙ o.walls)

  clues_parts : (o.last ≡ drop (9 + 2 * length f.walls + 2 * length f.clues) bs)
      × (numbers_at bs (9 + 2 * length f.walls) (length f.clues) ≡ f.clues)
  clues_parts =
      let at = 7 + 2 * length f.walls in
      let q = numbers_known bs at f.clues o.last (ap numbers_of (sym walls_parts.0) ∙ o.clues) in
      let e : at + 2 ≡ 9 + 2 * length f.walls = omega arith in
      rw e at q

  calls_parts : calls_of (length f.calls) (drop (11 + 2 * length f.walls + 2 * length f.clues) bs) ≡ some (f.calls, [])
  calls_parts =
      let at = 9 + 2 * length f.walls + 2 * length f.clues in
      let q = calls_known bs at f.calls [] (ap call_list_of (sym clues_parts.0) ∙ o.calls) in
      let e : at + 2 ≡ 11 + 2 * length f.walls + 2 * length f.clues = omega arith in
      rw e at q

module _ (f : Case) (bs : List ℕ) (e : decode_of bs ≡ some f) where
  -- the numbers at the layout's places are the walls and the clues
  pub walls_there : numbers_at bs (layout_of f).walls.at (layout_of f).walls.count ≡ f.walls
  walls_there = (walls_parts (parts f bs e)).1

  pub clues_there : numbers_at bs (layout_of f).clues.at (layout_of f).clues.count ≡ f.clues
  clues_there = (clues_parts (parts f bs e)).1

  -- and the calls from the layout's place on are the case's, to the end
  pub calls_there : calls_of (layout_of f).calls.count (drop (layout_of f).calls.at bs) ≡ some (f.calls, [])
  calls_there = calls_parts (parts f bs e)

-- one step of the cursor: the next call of the list, and the calls behind it
pub record Stepped (n : ℕ) (bs : List ℕ) (at : ℕ) (r : List ℕ) (cs : List Call) : Type 0 where
  pub call : Call
  pub others : List Call
  pub step : step_at at (call_of (drop at bs)) ≡ Some (call, at + size_of call)
  pub whole : cs ≡ call ∷ others
  pub follow : calls_of n (drop (at + size_of call) bs) ≡ some (others, r)

pub stepped : (n : ℕ) (bs : List ℕ) (at : ℕ) (r : List ℕ) (cs : List Call) → calls_of (suc n) (drop at bs) ≡ some (cs, r) → Stepped n bs at r cs
stepped n bs at r cs e = go (headed n (drop at bs) r cs e) (call_cases bs at)
  where
    go : Headed n (drop at bs) r cs → (call_of (drop at bs) ≡ none) ⊎ Whole bs at → Stepped n bs at r cs
    go h (inl z) = absurd (none-ne-some (h.call, h.after) (sym z ∙ h.reads))
    go h (inr w) =
        let q = some-injective (h.call, h.after) (w.0, drop (at + size_of w.0) bs) (sym h.reads ∙ w.1) in
        let c : h.call ≡ w.0 = ap (λ (p : Call × List ℕ). p.0) q in
        let a : h.after ≡ drop (at + size_of w.0) bs = ap (λ (p : Call × List ℕ). p.1) q in
        record {
          call = w.0;
          others = h.others;
          step = rw w.1;
          whole = h.whole ∙ ap (λ (x : Call). x ∷ h.others) c;
          follow = sym (ap (calls_of n) a) ∙ h.follow;
        }
