-- What is true of lists that questions 3, 7, 8 and 9 accept. Assumes nothing.
use Prim.Native.Nat.{ℕ, ◌+◌, ◌≤◌, ◌<◌}
use mathlib.Core.Path.{◌≡◌, refl}
use mathlib.Core.Logic.{inl, inr, ⊎_elim}
use mathlib.Core.Bool.{Bool, true, false}
use mathlib.Core.List.{List, [], ◌∷◌}
use native.Mathlib.Omega.{arith}
use borrow.Author.Tests.{eqb-true, leb-true, ltb-true, not-true}
use lib.Dec.{eqb, ltb, leb}
use lib.ListN.{length}
use Rattle.limits.specs.Limits.{no_clue}
use Rattle.lists.specs.Choice.{pick}
use Rattle.lists.specs.Lists.{range, In}
use Rattle.lists.proofs.Cases.{not_both}
use Rattle.lists.proofs.ChoiceLaws.{both_true, either_true}
use Rattle.lists.proofs.ListLaws.{all_true, range_in}
use Rattle.grid.specs.declared.Grid.{Grid}
use Rattle.grid.specs.Grid.{border_count}
use Rattle.rooms.specs.Rooms.{room_count, room_cells, clued, clue_of}
use Rattle.clues.specs.Clues.{exist, rises, one_each, fits_room, clues_fit, lists_code}

-- a rising list of numbers below n, from x on
rises_from : (n x : ℕ) (l : List ℕ) → rises (x ∷ l) ≡ true → ((e : ℕ) → In e (x ∷ l) → e < n) → x + length (x ∷ l) ≤ n
unfolding rises
rises_from n x [] q h = omega (arith, h x (inl refl))
rises_from n x (y ∷ l) q h =
    let k = both_true (ltb x y) (rises (y ∷ l)) q in
    omega (arith, ltb-true x y k.0, rises_from n y l k.1 (λ e m. h e (inr m)))

pub rises_length : (n : ℕ) (l : List ℕ) → rises l ≡ true → ((e : ℕ) → In e l → e < n) → length l ≤ n
rises_length n [] q h = omega arith
rises_length n (x ∷ l) q h = omega (arith, rises_from n x l q h)

-- lists that questions 3, 7, 8 and 9 accept
pub record Fit (g : Grid) (given clues : List ℕ) : Type 0 where
  pub inside : (e : ℕ) → In e given → e < border_count g
  pub rising : rises given ≡ true
  pub one_each : length clues ≡ room_count g given
  pub small : (r : ℕ) → r < room_count g given → clued clues r ≡ true → clue_of clues r ≤ length (room_cells g given r)

module _ (g : Grid) (given clues : List ℕ) where
  clue_small : clues_fit g given clues ≡ true → (r : ℕ) → r < room_count g given → clued clues r ≡ true → clue_of clues r ≤ length (room_cells g given r)
  unfolding clues_fit
  clue_small q r l c =
      ⊎_elim
      (λ k. absurd (not_both (eqb (clue_of clues r) no_clue) k (not-true _ c)))
      (λ k. leb-true _ _ k)
      (either_true (eqb (clue_of clues r) no_clue) (leb (clue_of clues r) (length (room_cells g given r))) (all_true (fits_room g given clues) (range (room_count g given)) q r (range_in _ r l)))

  pub lists_fit : lists_code g given clues ≡ 0 → Fit g given clues
  unfolding lists_code
  lists_fit = go (exist g given) refl (rises given) refl (one_each g given clues) refl (clues_fit g given clues) refl
    where
      go : (a : Bool) → exist g given ≡ a → (b : Bool) → rises given ≡ b → (c : Bool) → one_each g given clues ≡ c → (d : Bool) → clues_fit g given clues ≡ d
          → ◌≡◌ {A = ℕ} (pick a (pick b (pick c (pick d 0 9) 8) 7) 3) 0 → Fit g given clues
      go true p true q true r true s z =
          record {
            inside = λ e m. ltb-true e (border_count g) (all_true (λ x. ltb x (border_count g)) given p e m);
            rising = q;
            one_each = eqb-true _ _ r;
            small = clue_small s;
          }
      go true p true q true r false s z = absurd (omega arith)
      go true p true q false r d s z = absurd (omega arith)
      go true p false q c r d s z = absurd (omega arith)
      go false p b q c r d s z = absurd (omega arith)
