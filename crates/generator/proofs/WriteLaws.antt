-- The loops over the calls that are left: one law a turn. Assumes nothing.
use Prim.Native.Nat.{ℕ, suc, ◌+◌, ◌-◌, ◌*◌, ◌≤◌, ◌<◌}
use mathlib.Core.Path.{◌≡◌, refl, sym, ap, ◌∙◌}
use mathlib.Core.List.{List, [], ◌++◌}
use native.Mathlib.Omega.{arith}
use lib.ListN.{length}
use lib.Seq.{sets, length-sets}
use Rattle.lists.specs.Lists.{gather}
use Rattle.lists.proofs.SetsLaws.{sets_append}
use Rattle.case_file.specs.Encode.{call}
use Rattle.generator.specs.Generator.{Drawn, draw_from, calls_from, BorderBelow}
use Rattle.generator.specs.Writing.{calls_length}
use Rattle.generator.proofs.DrawLaws.{draw_exists, below_more, length_next, length_none, length_most}

calls_next : (borders n state : ℕ) → gather call (calls_from borders (suc n) state) ≡ call (draw_from borders state).call ++ gather call (calls_from borders n (draw_from borders state).state)
unfolding calls_from gather
calls_next borders n state = refl

calls_none : (borders state : ℕ) → gather call (calls_from borders 0 state) ≡ []
unfolding calls_from gather
calls_none borders state = refl

-- a turn writes one of those that are left
one_less : {count done : ℕ} → done < count → count - done ≡ suc (count - (done + 1))
one_less h = omega arith

-- COUNTING the bytes: those counted and those of the calls that are left are all
pub record Counting (borders count seed drawn_from state done len : ℕ) : Type 0 where
  pub same : drawn_from ≡ borders
  pub all : len + calls_length borders (count - done) state ≡ calls_length borders count seed

module _ {borders count seed drawn_from state done len : ℕ} (f : Counting borders count seed drawn_from state done len) where
  pub counting_next : (d : Drawn) {b r : ℕ} → done < count → d ≡ draw_from drawn_from state → b ≡ drawn_from → r ≡ length (call d.call)
      → Counting borders count seed b d.state (done + 1) (len + r)
  counting_next d h e s l =
      let n = count - (done + 1) in
      let q : len + calls_length borders (suc n) state ≡ calls_length borders count seed = rw (one_less h) at f.all in
      record { same = s ∙ f.same; all = rw (l, e, f.same) (omega (arith, q, length_next borders n state)) }

  -- no count is above three bytes a call
  pub counted_most : (d : Drawn) {r : ℕ} → done < count → d ≡ draw_from drawn_from state → r ≡ length (call d.call) → len + r ≤ 3 * count
  counted_most d h e l = omega (arith, (counting_next d h e refl l).all, length_most borders count seed)

  pub counting_end : count ≤ done → len ≡ calls_length borders count seed
  counting_end h =
      let z : count - done ≡ 0 = omega arith in
      let q : len + calls_length borders 0 state ≡ calls_length borders count seed = rw z at f.all in
      omega (arith, q, length_none borders state)

-- WRITING them: those that are left, written behind, give all of them written behind the head
pub record Written (borders count seed : ℕ) (file₀ file : List ℕ) (drawn_from state done at : ℕ) : Type 0 where
  pub same : drawn_from ≡ borders
  pub few : borders ≤ 65536
  pub long : length file ≡ length file₀
  pub room : at + calls_length borders (count - done) state ≤ length file₀
  pub rest : sets file at (gather call (calls_from borders (count - done) state)) ≡ sets file₀ 13 (gather call (calls_from borders count seed))

module _ {borders count seed : ℕ} {file₀ file : List ℕ} {drawn_from state done at : ℕ} (f : Written borders count seed file₀ file drawn_from state done at) where
  pub call_room : (d : Drawn) → done < count → d ≡ draw_from drawn_from state → BorderBelow 65536 d.call × (at + length (call d.call) ≤ length file)
  call_room d h e =
      let n = count - (done + 1) in
      let q : at + calls_length borders (suc n) state ≤ length file₀ = rw (one_less h) at f.room in
      rw (e, f.same) (below_more borders 65536 (draw_from borders state).call f.few (draw_exists borders state), omega (arith, q, length_next borders n state, f.long))

  pub written_next : (d : Drawn) {b at' : ℕ} {file' : List ℕ} → done < count → d ≡ draw_from drawn_from state → b ≡ drawn_from → at' ≡ at + length (call d.call)
      → file' ≡ sets file at (call d.call) → Written borders count seed file₀ file' b d.state (done + 1) at'
  written_next d h e b p w =
      let n = count - (done + 1) in
      let r : at + calls_length borders (suc n) state ≤ length file₀ = rw (one_less h) at f.room in
      let s : sets file at (gather call (calls_from borders (suc n) state)) ≡ sets file₀ 13 (gather call (calls_from borders count seed)) = rw (one_less h) at f.rest in
      let c = draw_from borders state in
      record {
        same = b ∙ f.same;
        few = f.few;
        long = ap length w ∙ length-sets file at (call d.call) ∙ f.long;
        room = rw (p, e, f.same) (omega (arith, r, length_next borders n state));
        rest =
            rw (w, p, e, f.same)
            (sym (sets_append (call c.call) (gather call (calls_from borders n c.state)) file at) ∙ ap (sets file at) (sym (calls_next borders n state)) ∙ s);
      }

  pub written_end : count ≤ done → file ≡ sets file₀ 13 (gather call (calls_from borders count seed))
  written_end h =
      let z : count - done ≡ 0 = omega arith in
      let q : sets file at (gather call (calls_from borders 0 state)) ≡ sets file₀ 13 (gather call (calls_from borders count seed)) = rw z at f.rest in
      sym (ap (sets file at) (calls_none borders state)) ∙ q
