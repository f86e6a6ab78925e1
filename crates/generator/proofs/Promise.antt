-- The promise (specs/Promise): of every file that the call writes, and of every call. Assumes nothing.
use Prim.Native.Nat.{ℕ, zero, suc, ◌+◌, ◌*◌, ◌^◌, ◌≤◌, ◌<◌}
use mathlib.Core.Path.{◌≡◌, refl, sym, ap, ◌∙◌}
use mathlib.Core.Logic.{◌≢◌}
use mathlib.Core.Bool.{Bool, true, false}
use mathlib.Core.List.{List, [], ◌∷◌}
use mathlib.Core.Option.{some}
use native.Mathlib.Omega.{arith}
use borrow.Author.Tests.{leb-true}
use lib.Dec.{eqb, leb}
use lib.ListN.{length, take, drop}
use lib.Seq.{sets, sets-eq, drop-append_seam}
use Rattle.limits.specs.Limits.{no_clue}
use Rattle.lists.specs.Choice.{pick}
use Rattle.lists.proofs.ChoiceLaws.{both_true}
use Rattle.lists.proofs.SetsLaws.{front}
use Rattle.answers.specs.Answers.{Outcome, refused, listed, listed_of, written}
use Rattle.answers.specs.Listed as answer
use Rattle.grid.specs.declared.Grid.{Grid}
use Rattle.grid.specs.Grid.{grid, sizes_ok, border_count}
use Rattle.puzzle.specs.declared.Made.{Made}
use Rattle.puzzle.specs.declared.kind.Kind.TheVariants.{Translates}
use Rattle.demand_3.proofs.Demand3.{demand_3}
use Rattle.case_file.specs.Sound.{decode_of}
use Rattle.case_file.specs.Encode.{rest, encode}
use Rattle.case_file.proofs.WriteLaws.{read_written}
use Rattle.case_run.specs.CaseRun.{opened, opened_of}
use Rattle.case_run.proofs.OneByOne.{file_calls}
use Rattle.generator.specs.Generator.{draw_from, calls_from, case_of, fits, generated}
use Rattle.generator.specs.Promise.{state_from, open_puzzle, Promised}
use Rattle.generator.proofs.StateLaws.{next_fits, next_not_0}
use Rattle.generator.proofs.DrawLaws.{all_exist_lem, calls_count, length_most, length_least, length_single, draw_keeps}
use Rattle.generator.proofs.RunLaws.{making, all_replied}
use Rattle.generator.proofs.FileLaws.{rest_long, file_long, file_accepted}

-- AN ACCEPTED CALL: no question refuses it
chosen : (a b c : Bool) (l : List ℕ) (k : ℕ) → answer.List k ≡ listed_of (pick a (pick b (refused 13) (pick c (listed l) (refused 6))) (refused 1))
    → (a ≡ true) × (b ≡ false) × (c ≡ true) × (k ≡ length l)
chosen true false true l k e = (refl, refl, refl, cc)
chosen true false false l k e = let z : ◌≡◌ {A = ℕ} 0 1 = cc in absurd (omega arith)
chosen true true c l k e = let z : ◌≡◌ {A = ℕ} 0 1 = cc in absurd (omega arith)
chosen false b c l k e = let z : ◌≡◌ {A = ℕ} 0 1 = cc in absurd (omega arith)

stays : (a b c : Bool) (l : List ℕ) (q : ℕ) (buffer : List ℕ) → let o = pick a (pick b (refused 13) (pick c (listed l) (refused 6))) (refused 1) in answer.Refused q ≡ listed_of o → written o buffer ≡ buffer
stays true false true l q buffer e = let z : ◌≡◌ {A = ℕ} 0 1 = cc in absurd (omega arith)
stays true false false l q buffer e = refl
stays true true c l q buffer e = refl
stays false b c l q buffer e = refl

-- THE FILE, where it is not too long
module _ (seed h w n : ℕ) (ok : sizes_ok (grid h w) ≡ true) (short : length (rest (case_of seed (grid h w) n)) ≤ 60000) where
  abbrev g : Grid
  g = grid h w

  sound_file : decode_of (encode (case_of seed g n)) ≡ some (case_of seed g n)
  sound_file = read_written (case_of seed g n) short

  count_is : length (calls_from (border_count g) n seed) ≡ n
  count_is = calls_count (border_count g) n seed

  promised : Promised seed h w n (encode (case_of seed g n))
  promised =
      record {
        sound = sound_file;
        as_many = count_is;
        exist = all_exist_lem (border_count g) n seed;
        made = ap opened_of sound_file ∙ rw (making h w ok) (ap (λ (k : ℕ). opened 0 (open_puzzle h w) 13 k) count_is);
        replied = all_replied h w ok (calls_from (border_count g) n seed) (all_exist_lem (border_count g) n seed);
        asks = demand_3 Translates h w [] (no_clue ∷ []) (ap (λ (m : Made). m.code) (making h w ok));
        runs = rw count_is at (file_calls (encode (case_of seed g n)) (case_of seed g n) sound_file);
        least = omega (arith, file_long seed g n, length_least (border_count g) n seed);
        most = omega (arith, file_long seed g n, length_most (border_count g) n seed);
        longest = omega (arith, file_long seed g n, rest_long seed g n);
      }

-- EVERY CALL
abbrev file_of : ℕ → ℕ → ℕ → ℕ → List ℕ
file_of seed h w n = encode (case_of seed (grid h w) n)

module _ (seed h w n : ℕ) (buffer : List ℕ) where
  abbrev outcome : Outcome
  outcome = generated seed h w n (length buffer)

  -- what the call leaves in the buffer
  abbrev after : List ℕ
  after = written outcome buffer

  abbrev file : List ℕ
  file = file_of seed h w n

  -- what an accepted call tells: no question refused it, and the file is in its place
  record Accepted (k : ℕ) : Type 0 where
    sizes : sizes_ok (grid h w) ≡ true
    short : length (rest (case_of seed (grid h w) n)) ≤ 60000
    long : k ≡ length file
    front_is : take k after ≡ file
    behind_is : drop k after ≡ drop k buffer

  accepted : (k : ℕ) → answer.List k ≡ listed_of outcome → Accepted k
  accepted k e =
      let c = case_of seed (grid h w) n in
      let q = chosen (sizes_ok (grid h w)) (eqb seed 0) (fits c (length buffer)) file k e in
      let f = both_true (leb (length (rest c)) 60000) (leb (length file) (length buffer)) q.2 in
      let room : length file ≤ length buffer = leb-true (length file) (length buffer) f.1 in
      let is : after ≡ sets buffer 0 file = rw (q.0, q.1, q.2) refl in
      let d : 0 + length file ≡ length file = omega arith in
      record {
        sizes = q.0;
        short = leb-true (length (rest c)) 60000 f.0;
        long = q.3;
        front_is = rw (q.3, is) (front buffer file room);
        behind_is = rw (q.3, is, sets-eq file buffer 0 (omega arith), d) (drop-append_seam file (drop (length file) buffer));
      }

  -- the file at the buffer's front is as promised, and the bytes behind it stay
  pub every_file : (k : ℕ) → answer.List k ≡ listed_of outcome → Promised seed h w n (take k after) × (drop k after ≡ drop k buffer)
  every_file k e = let a = accepted k e in (rw a.front_is (promised seed h w n a.sizes a.short), a.behind_is)

  -- a refusal changes no byte
  pub refused_stays : (q : ℕ) → answer.Refused q ≡ listed_of outcome → after ≡ buffer
  refused_stays q e = stays (sizes_ok (grid h w)) (eqb seed 0) (fits (case_of seed (grid h w) n) (length buffer)) file q buffer e

-- ONE SEED, ONE FILE: whatever the buffers held, and however long they are
pub same_again : (seed h w n : ℕ) (buffer buffer' : List ℕ) (k k' : ℕ) → answer.List k ≡ listed_of (outcome seed h w n buffer) → answer.List k' ≡ listed_of (outcome seed h w n buffer')
    → (k ≡ k') × (take k (after seed h w n buffer) ≡ take k' (after seed h w n buffer'))
same_again seed h w n buffer buffer' k k' e e' =
    let a = accepted seed h w n buffer k e in
    let b = accepted seed h w n buffer' k' e' in
    (a.long ∙ sym b.long, a.front_is ∙ sym b.front_is)

-- LENGTHS
-- as many calls as fit whatever their kinds are never refused
pub never_short : (seed h w n : ℕ) (buffer : List ℕ) → sizes_ok (grid h w) ≡ true → seed ≢ 0 → n ≤ 19996 → 13 + 3 * n ≤ length buffer
    → answer.List (length (file_of seed h w n)) ≡ listed_of (outcome seed h w n buffer)
never_short seed h w n buffer ok z m l =
    let g = grid h w in
    let long = length_most (border_count g) n seed in
    ap (λ (o : Outcome). listed_of o) (sym (file_accepted seed h w n (length buffer) ok z (omega (arith, long)) (omega (arith, long))))

-- at 1 by 1 each call takes a byte
pub one_cell : (seed n : ℕ) (buffer : List ℕ) → seed ≢ 0 → n ≤ 59990 → 13 + n ≤ length buffer → answer.List (13 + n) ≡ listed_of (outcome seed 1 1 n buffer)
one_cell seed n buffer z m l =
    let single = length_single n seed in
    ap answer.List (sym (file_long seed (grid 1 1) n ∙ ap (λ (k : ℕ). 13 + k) single))
    ∙ ap (λ (o : Outcome). listed_of o) (sym (file_accepted seed 1 1 n (length buffer) refl z (omega (arith, single)) (omega (arith, single))))

-- THE STATE is never 0
pub never_0 : (borders n seed : ℕ) → seed < 2 ^ 32 → seed ≢ 0 → (state_from borders n seed < 2 ^ 32) × (state_from borders n seed ≢ 0)
unfolding state_from
never_0 borders zero seed h z = (h, z)
never_0 borders (suc n) seed h z =
    let k = draw_keeps (λ (s : ℕ). (s < 2 ^ 32) × (s ≢ 0)) (λ s p. (next_fits s p.0, next_not_0 s p.0 p.1)) borders seed (h, z) in
    never_0 borders n (draw_from borders seed).state k.0 k.1
