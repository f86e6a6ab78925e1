-- The calls that are drawn: one by its kind, the borders that they name, and how many bytes they have. Assumes nothing.
use Prim.Native.Nat.{ℕ, zero, suc, ◌+◌, ◌*◌, ◌%◌, ◌≤◌, ◌<◌}
use mathlib.Core.Path.{◌≡◌, refl, ap, ◌∙◌}
use mathlib.Core.Logic.{◌≢◌, ⊎_elim}
use mathlib.Core.Bool.{Bool, true, false}
use native.Mathlib.Nat.{mod-lt}
use native.Mathlib.Omega.{arith}
use borrow.Author.Tests.{ne_eqb}
use lib.Dec.{eqb}
use lib.ListN.{length, length-append}
use Rattle.lists.specs.Lists.{gather, In}
use Rattle.lists.proofs.Cases.{eq_or_ne}
use Rattle.case_file.specs.declared.Call.{Call}
use Rattle.case_file.specs.declared.Call.TheVariants.{Undo, Decide, Ask}
use Rattle.case_file.specs.Encode.{call}
use Rattle.generator.specs.Generator.{next_state, drawn, decide_from, call_from, draw_from, calls_from, BorderBelow}
use Rattle.generator.specs.Writing.{calls_length}

-- A CALL BY ITS KIND
decides : (borders s k : ℕ) → s % 4 ≡ k → k < 4 → k ≢ 0 → k ≢ 3 → decide_from borders (eqb k 2) s ≡ call_from borders s
unfolding call_from
decides borders s zero e l n m = absurd (n refl)
decides borders s (suc zero) e l n m = rw e refl
decides borders s (suc (suc zero)) e l n m = rw e refl
decides borders s (suc (suc (suc zero))) e l n m = absurd (m refl)
decides borders s (suc (suc (suc (suc k)))) e l n m = absurd (omega arith)

module _ (borders s : ℕ) where
  undoes : s % 4 ≡ 0 → drawn Undo s ≡ call_from borders s
  unfolding call_from
  undoes k = rw k refl

  asks : s % 4 ≡ 3 → drawn Ask s ≡ call_from borders s
  unfolding call_from
  asks k = rw k refl

  no_border : (wall : Bool) → borders ≡ 0 → drawn Ask s ≡ decide_from borders wall s
  unfolding decide_from
  no_border wall z = rw z refl

  names : (wall : Bool) → borders ≢ 0 → drawn (Decide (next_state s % borders) wall) (next_state s) ≡ decide_from borders wall s
  unfolding decide_from
  names wall n = rw (ne_eqb borders 0 n) refl

-- the code's four ways, by the state s that replaced the old one, and the state t that replaced s
module _ (borders state s : ℕ) (e : s ≡ next_state state) where
  drawn_so : call_from borders s ≡ draw_from borders state
  unfolding draw_from
  drawn_so = ap (call_from borders) e

  pub undo_drawn : s % 4 ≡ 0 → drawn Undo s ≡ draw_from borders state
  undo_drawn k = undoes borders s k ∙ drawn_so

  pub ask_drawn : s % 4 ≡ 3 → drawn Ask s ≡ draw_from borders state
  ask_drawn k = asks borders s k ∙ drawn_so

  module _ (n : s % 4 ≢ 0) (m : s % 4 ≢ 3) where
    decide_drawn : decide_from borders (eqb (s % 4) 2) s ≡ draw_from borders state
    decide_drawn = decides borders s (s % 4) refl (mod-lt s (omega arith)) n m ∙ drawn_so

    pub none_drawn : borders ≡ 0 → drawn Ask s ≡ draw_from borders state
    none_drawn z = no_border borders s (eqb (s % 4) 2) z ∙ decide_drawn

    pub border_drawn : (t : ℕ) → t ≡ next_state s → borders ≢ 0 → drawn (Decide (t % borders) (eqb (s % 4) 2)) t ≡ draw_from borders state
    border_drawn t f z = ap (λ (x : ℕ). drawn (Decide (x % borders) (eqb (s % 4) 2)) x) f ∙ names borders s (eqb (s % 4) 2) z ∙ decide_drawn

-- THE BORDERS that calls name
decide_exists : (borders s : ℕ) (wall : Bool) → BorderBelow borders (decide_from borders wall s).call
unfolding decide_from
decide_exists borders s wall =
    ⊎_elim (λ (e : borders ≡ 0). rw e tt) (λ (n : borders ≢ 0). rw (ne_eqb borders 0 n) (mod-lt (next_state s) (omega arith))) (eq_or_ne borders 0)

exists_by : (borders s k : ℕ) → s % 4 ≡ k → k < 4 → BorderBelow borders (call_from borders s).call
unfolding call_from
exists_by borders s zero e l = rw e tt
exists_by borders s (suc zero) e l = rw e (decide_exists borders s false)
exists_by borders s (suc (suc zero)) e l = rw e (decide_exists borders s true)
exists_by borders s (suc (suc (suc zero))) e l = rw e tt
exists_by borders s (suc (suc (suc (suc k)))) e l = absurd (omega arith)

pub draw_exists : (borders state : ℕ) → BorderBelow borders (draw_from borders state).call
unfolding draw_from
draw_exists borders state = exists_by borders (next_state state) (next_state state % 4) refl (mod-lt (next_state state) (omega arith))

-- every border named exists
pub all_exist_lem : (borders n state : ℕ) (c : Call) → In c (calls_from borders n state) → BorderBelow borders c
unfolding calls_from
all_exist_lem borders zero state c i = absurd i
all_exist_lem borders (suc n) state c i =
    ⊎_elim (λ (e : c ≡ (draw_from borders state).call). rw e (draw_exists borders state))
    (λ (j : In c (calls_from borders n (draw_from borders state).state)). all_exist_lem borders n (draw_from borders state).state c j) i

-- of more borders, it is below their number too
pub below_more : (n m : ℕ) (c : Call) → n ≤ m → BorderBelow n c → BorderBelow m c
below_more n m Undo h b = tt
below_more n m (Decide e wall) h b = omega arith
below_more n m Ask h b = tt

-- HOW MANY: as many as are drawn, each of one or three bytes
pub calls_count : (borders n state : ℕ) → length (calls_from borders n state) ≡ n
unfolding calls_from
calls_count borders zero state = refl
calls_count borders (suc n) state = ap suc (calls_count borders n (draw_from borders state).state)

pub call_most : (c : Call) → length (call c) ≤ 3
call_most Undo = omega arith
call_most (Decide e wall) = omega arith
call_most Ask = omega arith

pub call_least : (c : Call) → 1 ≤ length (call c)
call_least Undo = omega arith
call_least (Decide e wall) = omega arith
call_least Ask = omega arith

module _ (borders : ℕ) where
  pub length_next : (n state : ℕ) → calls_length borders (suc n) state ≡ length (call (draw_from borders state).call) + calls_length borders n (draw_from borders state).state
  unfolding calls_from gather
  length_next n state = length-append (call (draw_from borders state).call) (gather call (calls_from borders n (draw_from borders state).state))

  pub length_none : (state : ℕ) → calls_length borders 0 state ≡ 0
  unfolding calls_from gather
  length_none state = refl

  pub length_most : (n state : ℕ) → calls_length borders n state ≤ 3 * n
  length_most zero state = omega (arith, length_none state)
  length_most (suc n) state =
      let d = draw_from borders state in
      omega (arith, length_next n state, call_most d.call, length_most n d.state)

  pub length_least : (n state : ℕ) → n ≤ calls_length borders n state
  length_least zero state = omega (arith, length_none state)
  length_least (suc n) state =
      let d = draw_from borders state in
      omega (arith, length_next n state, call_least d.call, length_least n d.state)

-- THE STATE: what each replacement keeps, each call keeps
module _ (P : ℕ → Type 0) (next : (s : ℕ) → P s → P (next_state s)) where
  decide_keeps : (borders s : ℕ) (wall : Bool) → P s → P (decide_from borders wall s).state
  unfolding decide_from
  decide_keeps borders s wall p =
      ⊎_elim (λ (e : borders ≡ 0). rw e p) (λ (n : borders ≢ 0). rw (ne_eqb borders 0 n) (next s p)) (eq_or_ne borders 0)

  call_keeps : (borders s k : ℕ) → s % 4 ≡ k → k < 4 → P s → P (call_from borders s).state
  unfolding call_from
  call_keeps borders s zero e l p = rw e p
  call_keeps borders s (suc zero) e l p = rw e (decide_keeps borders s false p)
  call_keeps borders s (suc (suc zero)) e l p = rw e (decide_keeps borders s true p)
  call_keeps borders s (suc (suc (suc zero))) e l p = rw e p
  call_keeps borders s (suc (suc (suc (suc k)))) e l p = absurd (omega arith)

  pub draw_keeps : (borders state : ℕ) → P state → P (draw_from borders state).state
  unfolding draw_from
  draw_keeps borders state p = let s = next_state state in call_keeps borders s (s % 4) refl (mod-lt s (omega arith)) (next state p)

-- on a board without borders each call is a byte
one_byte : (c : Call) → BorderBelow 0 c → length (call c) ≡ 1
one_byte Undo b = refl
one_byte (Decide e wall) b = absurd (omega arith)
one_byte Ask b = refl

pub length_single : (n state : ℕ) → calls_length 0 n state ≡ n
length_single zero state = length_none 0 state
length_single (suc n) state =
    let d = draw_from 0 state in
    omega (arith, length_next 0 n state, one_byte d.call (draw_exists 0 state), length_single n d.state)
