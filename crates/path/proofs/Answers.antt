-- From the arrays that a search leaves to the answer. Assumes nothing.
use Prim.Native.Nat.{ℕ, ◌*◌, ◌≤◌, ◌<◌}
use mathlib.Core.Path.{◌≡◌, refl, ap, sym, ◌∙◌}
use mathlib.Core.Logic.{⊎_elim}
use mathlib.Core.Bool.{true, false}
use mathlib.Core.List.{List, [], ◌∷◌}
use mathlib.Core.Option.{Option, none, some, none-ne-some}
use native.Mathlib.Omega.{arith}
use borrow.Author.Tests.{lt-ltb, le-leb}
use lib.ListN.{get_or, length, replicate, length-replicate, get_or-replicate, get_or-eq_default}
use lib.Seq.{sets}
use Rattle.limits.specs.Limits.{most_cells}
use Rattle.lists.proofs.Cases.{le_or_lt}
use Rattle.grid.specs.declared.Grid.{Grid}
use Rattle.grid.specs.Grid.{cells, Cell}
use Rattle.grid.proofs.Geometry.{cells_le}
use Rattle.board.specs.declared.Board.{Board}
use Rattle.board.specs.Board.{size_of, board_code}
use Rattle.std.specs.Prelude.{Result, Ok, Err, not, is_some, None, Option as Maybe}
use Rattle.std.specs.Result.{result_unwrap_or}
use Rattle.answers.specs.declared.Refusal.{Refusal}
use Rattle.answers.specs.Refusals.{number_of, Lists as Answered}
use Rattle.borders.specs.Fits.{Fits}
use Rattle.path.specs.Path.{Lists, search, path_of}
use Rattle.path.specs.declared.FoundBy.{FoundBy}
use Rattle.path.specs.Trace.{Notes, Traced, Asks, Fresh, Back, Walks}
use Rattle.path.specs.Answer.{joined, path_outcome}
use Rattle.answers.specs.Answers.{Outcome, refused, listed, list_of, written}
use Rattle.answers.proofs.RefusalLaws.{listed_ok, listed_err, refused_ok}
use Rattle.path.proofs.Found.{new_none, old_some}
use Rattle.path.proofs.PathLaws.{ended, leads_nowhere, path_short}

-- what a search asks
pub asks : {g : Grid} {states : List ℕ} {start target : ℕ} → Fits g states → Cell g start × Cell g target → Asks g states start target
asks f k = record { limits = f.limits; states_long = f.borders; start_cell = k.0; target_cell = k.1 }

-- THE SEARCH'S ARRAYS

pub fresh : Fresh (replicate most_cells None) (replicate most_cells 0)
fresh =
    record {
      found_long = length-replicate {A = Maybe FoundBy} most_cells None;
      queue_long = length-replicate {A = ℕ} most_cells 0;
      new = λ x h. get_or-replicate {A = Maybe FoundBy} most_cells x None None h;
    }

module _ {g : Grid} {states : List ℕ} {start target : ℕ} (a : Asks g states start target) {f : Notes} (t : Traced g (search g states start target) f) where
  xs : Lists
  xs = search g states start target

  found_cell : (x : ℕ) (p : List ℕ) → get_or xs x none ≡ some p → Cell g x
  unfolding xs
  found_cell x p w =
      ⊎_elim
      (λ (h : length xs ≤ x). absurd (none-ne-some p (sym (get_or-eq_default xs none h) ∙ w)))
      (λ (h : x < length xs). omega (arith, t.size))
      (le_or_lt (length xs) x)

  -- the arrays lead back by the lists
  traced_back : (x : ℕ) (p : List ℕ) → get_or xs x none ≡ some p → Back start f x p
  unfolding xs
  traced_back x [] w = leads_nowhere g start ((ended g states start target a.start_cell).way x [] w).0 refl
  traced_back x (b ∷ p) w =
      let o = t.back x b p w in (
        λ (i : x ≡ start).
            let z : some [] ≡ some (b ∷ p) = sym (ended g states start target a.start_cell).begun ∙ ap (λ n. get_or xs n none) (sym i) ∙ w in
            let q : ◌≡◌ {A = ℕ} 0 1 = cc in
            omega arith,
        omega (arith, found_cell x (b ∷ p) w, cells_le g a.limits),
        (o.0, o.1, traced_back o.0 p o.2),
      )

  pub not_found : is_some (get_or f target None) ≡ false → path_of g states start target ≡ none
  unfolding path_of
  not_found z = new_none _ (t.new target a.target_cell ∙ ap not z)

  module _ (z : is_some (get_or f target None) ≡ true) where
    pub found : (p : List ℕ) × (path_of g states start target ≡ some p)
    unfolding path_of
    found = old_some _ (t.new target a.target_cell ∙ ap not z)

    pub found_back : Back start f target found.0
    unfolding path_of xs
    found_back = traced_back target found.0 found.1

    pub walks : (buffer : List ℕ) → cells g ≤ length buffer → Walks start target f buffer
    walks buffer h =
        record {
          found_long = t.found_long;
          begins = omega (arith, a.start_cell, cells_le g a.limits);
          p = found.0;
          back = found_back;
          fits = omega (arith, path_short g states start target a.start_cell found.0 found.1);
        }

-- THE ANSWER

-- this answer, with this in the buffer, is what comes of o
abbrev pub Gives : Outcome → List ℕ → Result ℕ Refusal → List ℕ → Type 0
Gives o buffer r buffer' = Answered o r × (buffer' ≡ written o buffer)

pub gives_number : (o : Outcome) (e : Refusal) (buffer : List ℕ) → o ≡ refused (number_of e) → Gives o buffer (Err e) buffer
gives_number o e buffer q = rw q (refl, refl)

pub gives_list : (o : Outcome) (p : List ℕ) (n : ℕ) (buffer buffer' : List ℕ) → o ≡ listed p → (n ≡ length p) × (buffer' ≡ sets buffer 0 p) → Gives o buffer (Ok n) buffer'
gives_list o p n buffer buffer' q k = rw (q, k.0) (refl, k.1)

-- the same as a list and its length, of which there is none where nothing was found
pub length_told : (o : Option (List ℕ)) (r : Result ℕ Refusal) (buffer buffer' : List ℕ) → Gives (joined o) buffer r buffer' → (result_unwrap_or r 0 ≡ length (list_of o)) × (buffer' ≡ sets buffer 0 (list_of o))
length_told none (Ok n) buffer buffer' k = absurd (refused_ok 10 n k.0)
length_told none (Err e) buffer buffer' k = (refl, k.1)
length_told (some p) (Ok n) buffer buffer' k = (listed_ok p n k.0, k.1)
length_told (some p) (Err e) buffer buffer' k = absurd (listed_err p e k.0)

-- A CALL that no question before the search refuses

module _ (b : Board) (start target room code : ℕ) (q : code ≡ board_code b) where
  module _ (z : code ≡ 0) where
    module _ (s : start < cells (size_of b)) where
      module _ (t : target < cells (size_of b)) where
        pub answered : 9 * cells (size_of b) ≤ room → path_outcome b start target room ≡ joined (path_of (size_of b) b.book.states start target)
        unfolding path_outcome
        answered h = rw (← q, z, lt-ltb start (cells (size_of b)) s, lt-ltb target (cells (size_of b)) t, le-leb (9 * cells (size_of b)) room h)
