-- All words of a board's borders: one kind, Walls or Connected borders, and then both. Assumes nothing.
use Prim.Native.Nat.{ℕ, ◌+◌, ◌-◌, ◌*◌, ◌≤◌, ◌<◌}
use mathlib.Core.Path.{◌≡◌, refl, ◌∙◌}
use mathlib.Core.Logic.{⊎_elim}
use mathlib.Core.Bool.{Bool, true, false}
use mathlib.Core.List.{List}
use native.Mathlib.Nat.{sub-zero, mul-le-mul, suc-mul, le_refl}
use native.Mathlib.Omega.{arith}
use borrow.Rule.Slice.PartMut.{put_mid, mid_of}
use lib.ListN.{get_or, length, take, drop}
use Rattle.lists.specs.Choice.{pick}
use Rattle.lists.proofs.Cases.{le_or_lt}
use Rattle.grid.specs.declared.Direction.{Direction}
use Rattle.grid.specs.declared.Direction.TheVariants.{Up, Down, Left, Right}
use Rattle.grid.specs.declared.Grid.{Grid}
use Rattle.grid.specs.Grid.{Limits}
use Rattle.borders.specs.Border.{stands}
use Rattle.borders.specs.Fits.{Fits}
use Rattle.words.specs.Words.{bit}
use Rattle.words.specs.Layout.{base_of, back_of, side_at}
use Rattle.border_words.specs.Sides.{BorderWords}
use Rattle.border_words.specs.Filled.{SideWord, Filled, Unfilled}
use Rattle.border_words.proofs.FillLaws.{part_filled, behind_word, front_word}
use Rattle.border_words.proofs.SideLaws.{right_says, left_says, down_says, up_says, down_none, up_none}

-- the words of the borders under the cells, and of those right of them, for borders in state k
abbrev pub Under : Grid → List ℕ → ℕ → ℕ → List ℕ → List ℕ → Type 0
Under g states k at words words' = Filled (λ y. SideWord (g.height * (g.width - 1) + y * g.width) g.width states k) (g.height - 1) at words words'

abbrev pub Right-of : Grid → List ℕ → ℕ → ℕ → List ℕ → List ℕ → Type 0
Right-of g states k at words words' = Filled (λ y. SideWord (y * (g.width - 1)) (g.width - 1) states k) g.height at words words'

-- parts of the table that were filled with rows of the states behind the borders right of cells, or of those borders
module _ {g : Grid} {states : List ℕ} (f : Fits g states) (k at n : ℕ) (words vs : List ℕ) (part : List ℕ) (long : length vs ≡ length (mid_of at n words)) where
  pub under_filled : n ≡ g.height - 1 → at + (g.height - 1) ≤ length words → part ≡ drop (g.height * (g.width - 1)) states
      → ((y : ℕ) → y < length (mid_of at n words) → SideWord (y * g.width) g.width part k (get_or vs y 0)) → Under g states k at words (put_mid at n words vs)
  under_filled e room p w =
      part_filled (λ y. SideWord (g.height * (g.width - 1) + y * g.width) g.width states k) (g.height - 1) at n words vs e room long
      (λ y h q. behind_word (g.height * (g.width - 1)) (y * g.width) g.width states k (get_or vs y 0) (rw p at (w y q)))

  pub right_filled : n ≡ g.height → at + g.height ≤ length words → part ≡ take (g.height * (g.width - 1)) states
      → ((y : ℕ) → y < length (mid_of at n words) → SideWord (y * (g.width - 1)) (g.width - 1) part k (get_or vs y 0)) → Right-of g states k at words (put_mid at n words vs)
  right_filled e room p w =
      part_filled (λ y. SideWord (y * (g.width - 1)) (g.width - 1) states k) g.height at n words vs e room long
      (λ y h q.
      front_word (g.height * (g.width - 1)) (y * (g.width - 1)) (g.width - 1) states k (get_or vs y 0)
      (omega (arith, (let b : (y + 1) * (g.width - 1) ≤ g.height * (g.width - 1) = mul-le-mul (omega arith) (le_refl (g.width - 1)) in b), suc-mul y (g.width - 1))) (rw p at (w y q)))

-- both, where the table was blank from place `at` on; nothing has changed there since
module _ (g : Grid) (limits : Limits g) (states : List ℕ) (k at : ℕ) (words₀ words₁ words₂ words : List ℕ) (clear : (z : ℕ) → at ≤ z → ◌≡◌ {A = ℕ} (get_or words₀ z 0) 0)
    (under : Under g states k (at + 1) words₀ words₁) (beside : Right-of g states k (at + 33) words₁ words₂) (kept : (z : ℕ) → z < at + 66 → get_or words z 0 ≡ get_or words₂ z 0) where
  -- the words up to those right of the cells are as they were before these were made
  early : (z : ℕ) → z < at + 33 → get_or words z 0 ≡ get_or words₁ z 0
  early z h = kept z (omega arith) ∙ beside.before z h

  right_word : (y : ℕ) → y < g.height → SideWord (y * (g.width - 1)) (g.width - 1) states k (get_or words (at + 33 + y) 0)
  right_word y h = rw (kept (at + 33 + y) (omega arith)) (beside.made y h)

  down_word : (z y : ℕ) → z ≡ at + 1 + y → y < g.height - 1 → SideWord (g.height * (g.width - 1) + y * g.width) g.width states k (get_or words z 0)
  down_word z y e h = rw (early z (omega arith), e) (under.made y h)

  kind_says : (d : Direction) (y x : ℕ) → y < g.height → x < g.width → bit (get_or words (at + base_of d + y) 0) (32 + x - back_of d) ≡ stands g states k d (y * g.width + x)
  kind_says Right y x h l = rw (sub-zero (32 + x)) (right_says g states k (get_or words (at + 33 + y) 0) y x l (right_word y h))
  kind_says Left y x h l = left_says g states k (get_or words (at + 33 + y) 0) y x l (right_word y h)
  kind_says Down y x h l =
      let z = at + 1 + y in
      rw (sub-zero (32 + x))
      (⊎_elim
      (λ (m : g.height ≤ y + 1).
      down_none g states k (get_or words z 0) y x l m (early z (omega arith) ∙ under.behind z (omega arith) ∙ clear z (omega arith)))
      (λ (m : y + 1 < g.height). down_says g states k (get_or words z 0) y x l m (down_word z y refl (omega arith)))
      (le_or_lt g.height (y + 1)))
  kind_says Up y x h l =
      let z = at + 0 + y in
      rw (sub-zero (32 + x))
      (⊎_elim
      (λ (m : 1 ≤ y). up_says g states k (get_or words z 0) y x l m (down_word z (y - 1) (omega arith) (omega arith)))
      (λ (m : y < 1). up_none g states k (get_or words z 0) y x l m (early z (omega arith) ∙ under.before z (omega arith) ∙ clear z (omega arith)))
      (le_or_lt 1 y))

-- Walls from place 0 on, and then Connected borders from place 66 on
pub both_kinds : {g : Grid} {states words₀ words₁ words₂ words₃ words₄ : List ℕ} → Fits g states → 132 ≤ length words₀ → Unfilled words₀ → Under g states 2 1 words₀ words₁
    → Right-of g states 2 33 words₁ words₂ → Under g states 1 67 words₂ words₃ → Right-of g states 1 99 words₃ words₄ → BorderWords g states words₄
both_kinds {g} {states} {words₀} {words₁} {words₂} {words₃} {words₄} f room clear u r u' r' = record { long = omega arith; says = says }
  where
    says : (walls : Bool) (d : Direction) (y x : ℕ) → y < g.height → x < g.width → bit (get_or words₄ (side_at walls d + y) 0) (32 + x - back_of d) ≡ stands g states (pick walls 2 1) d (y * g.width + x)
    says true = kind_says g f.limits states 2 0 words₀ words₁ words₂ words₄ (λ z h. clear z) u r (λ z h. r'.before z (omega arith) ∙ u'.before z (omega arith))
    says false = kind_says g f.limits states 1 66 words₂ words₃ words₄ words₄ (λ z h. r.behind z (omega arith) ∙ u.behind z (omega arith) ∙ clear z) u' r' (λ z h. refl)
