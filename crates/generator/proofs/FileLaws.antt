-- The file: its head and its calls, its length, and what the questions come to. Assumes nothing.
use Prim.Native.Nat.{ℕ, ◌+◌, ◌/◌, ◌%◌, ◌≤◌, ◌<◌}
use mathlib.Core.Path.{◌≡◌, refl, sym, ap, ◌∙◌}
use mathlib.Core.Logic.{◌≢◌}
use mathlib.Core.Bool.{true, false}
use mathlib.Core.List.{List, ◌∷◌, ◌++◌}
use native.Mathlib.Omega.{arith}
use borrow.Author.Tests.{ne_eqb, le-leb, lt-leb}
use lib.Dec.{leb}
use lib.ListN.{length}
use lib.Seq.{sets}
use Rattle.lists.specs.Lists.{gather}
use Rattle.lists.proofs.SetsLaws.{sets_append}
use Rattle.answers.specs.Answers.{Outcome, refused, listed, written}
use Rattle.answers.specs.Refusals.{Lists}
use Rattle.std.specs.Prelude.{Result, Ok, Err}
use Rattle.answers.specs.declared.Refusal.{Refusal}
use Rattle.answers.specs.declared.Refusal.TheVariants.{Size, ShortBuffer}
use Rattle.grid.specs.declared.Grid.{Grid}
use Rattle.grid.specs.Grid.{grid, sizes_ok, border_count}
use Rattle.case_file.specs.Sound.{Case}
use Rattle.case_file.specs.Encode.{call, counted, rest, encode}
use Rattle.generator.specs.Generator.{calls_from, case_of, fits, generated}
use Rattle.generator.specs.Writing.{calls_length, head}
use Rattle.generator.proofs.DrawLaws.{calls_count, length_least}

module _ (seed : ℕ) (g : Grid) (n : ℕ) where
  abbrev bytes : ℕ
  bytes = calls_length (border_count g) n seed

  -- what stands behind the length: ten bytes and the calls
  pub rest_long : length (rest (case_of seed g n)) ≡ 10 + bytes
  unfolding rest counted gather
  rest_long = omega arith

  rest_parts : rest (case_of seed g n)
      ≡ g.height ∷ g.width ∷ 0 ∷ 0 ∷ 0 ∷ 1 ∷ 255 ∷ 255 ∷ n / 256 ∷ n % 256 ∷ gather call (calls_from (border_count g) n seed)
  unfolding rest counted gather
  rest_parts =
      ap (λ (k : ℕ). g.height ∷ g.width ∷ 0 ∷ 0 ∷ 0 ∷ 1 ∷ 255 ∷ 255 ∷ k / 256 ∷ k % 256 ∷ gather call (calls_from (border_count g) n seed))
      (calls_count (border_count g) n seed)

  -- the file is its head and its calls
  pub file_parts : encode (case_of seed g n) ≡ head g n bytes ++ gather call (calls_from (border_count g) n seed)
  unfolding encode
  file_parts = ap (λ (k : ℕ). 1 ∷ k / 256 ∷ k % 256 ∷ rest (case_of seed g n)) rest_long ∙ ap (λ (r : List ℕ). 1 ∷ (10 + bytes) / 256 ∷ (10 + bytes) % 256 ∷ r) rest_parts

  pub file_long : length (encode (case_of seed g n)) ≡ 13 + bytes
  file_long = ap length file_parts ∙ omega arith

  -- written one behind the other
  pub file_stored : (buffer : List ℕ) → sets (sets buffer 0 (head g n bytes)) 13 (gather call (calls_from (border_count g) n seed)) ≡ sets buffer 0 (encode (case_of seed g n))
  file_stored buffer =
      sym (ap (sets buffer 0) file_parts ∙ sets_append (head g n bytes) (gather call (calls_from (border_count g) n seed)) buffer 0)

-- a file that fits is written
pub file_accepted : (seed h w n places : ℕ) → sizes_ok (grid h w) ≡ true → seed ≢ 0 → calls_length (border_count (grid h w)) n seed ≤ 59990
    → 13 + calls_length (border_count (grid h w)) n seed ≤ places → generated seed h w n places ≡ listed (encode (case_of seed (grid h w) n))
file_accepted seed h w n places ok z m l =
    let c = case_of seed (grid h w) n in
    rw (
      ok,
      ne_eqb seed 0 z,
      le-leb (length (rest c)) 60000 (omega (arith, rest_long seed (grid h w) n)),
      le-leb (length (encode c)) places (omega (arith, file_long seed (grid h w) n)),
    )
    refl

-- THE QUESTIONS: what is answered, and left in the buffer
module _ (seed h w n : ℕ) (buffer : List ℕ) where
  abbrev outcome : Outcome
  outcome = generated seed h w n (length buffer)

  abbrev Told : Result ℕ Refusal → List ℕ → Type 0
  Told r buffer' = Lists outcome r × (buffer' ≡ written outcome buffer)

  told : (o : Outcome) (r : Result ℕ Refusal) → Lists o r → outcome ≡ o → Told r (written o buffer)
  told o r q e = rw e (q, refl)

  pub sizes_told : sizes_ok (grid h w) ≡ false → Told (Err Size) buffer
  sizes_told e = told (refused 1) (Err Size) refl (rw e refl)

  module _ (ok : sizes_ok (grid h w) ≡ true) where
    module _ (z : seed ≢ 0) where
      abbrev drawn_case : Case
      drawn_case = case_of seed (grid h w) n

      by_length : fits drawn_case (length buffer) ≡ false → Told (Err ShortBuffer) buffer
      by_length e = told (refused 6) (Err ShortBuffer) refl (rw (ok, ne_eqb seed 0 z, e) refl)

      too_long : 60000 < length (rest drawn_case) → Told (Err ShortBuffer) buffer
      too_long l = by_length (rw (lt-leb (length (rest drawn_case)) 60000 l) refl)

      -- more calls than a file has bytes for them
      pub count_told : 59990 < n → Told (Err ShortBuffer) buffer
      count_told l = too_long (omega (arith, rest_long seed (grid h w) n, length_least (border_count (grid h w)) n seed))

      -- the calls' bytes, as they were counted
      module _ (borders bytes : ℕ) (e : borders ≡ border_count (grid h w)) (f : bytes ≡ calls_length borders n seed) where
        counted_so : bytes ≡ calls_length (border_count (grid h w)) n seed
        counted_so = f ∙ ap (λ (b : ℕ). calls_length b n seed) e

        pub length_told : 59990 < bytes → Told (Err ShortBuffer) buffer
        length_told l = too_long (omega (arith, rest_long seed (grid h w) n, counted_so))

        short : bytes ≤ 59990 → leb (length (rest drawn_case)) 60000 ≡ true
        short m = le-leb (length (rest drawn_case)) 60000 (omega (arith, rest_long seed (grid h w) n, counted_so))

        pub places_told : bytes ≤ 59990 → length buffer < 13 + bytes → Told (Err ShortBuffer) buffer
        places_told m l =
            by_length (rw (short m, lt-leb (length (encode drawn_case)) (length buffer) (omega (arith, file_long seed (grid h w) n, counted_so))) refl)

        -- the file, its head written first
        pub file_told : (buffer' : List ℕ) → bytes ≤ 59990 → 13 + bytes ≤ length buffer
            → buffer' ≡ sets (sets buffer 0 (head (grid h w) n bytes)) 13 (gather call (calls_from borders n seed)) → Told (Ok (13 + bytes)) buffer'
        file_told buffer' m l q =
            let long : 13 + bytes ≡ length (encode drawn_case) = omega (arith, file_long seed (grid h w) n, counted_so) in
            let k : Lists (listed (encode drawn_case)) (Ok (13 + bytes)) = rw long refl in
            let t = told (listed (encode drawn_case)) (Ok (13 + bytes)) k (file_accepted seed h w n (length buffer) ok z (omega (arith, counted_so)) (omega (arith, counted_so))) in
            (t.0, q ∙ rw (counted_so, e) (file_stored seed (grid h w) n buffer) ∙ t.1)
