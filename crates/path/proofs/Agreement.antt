-- A path depends on the board's borders alone: every cell that looks is one of the board's. Assumes nothing.
use Prim.Native.Nat.{ℕ, zero, suc}
use mathlib.Core.Path.{◌≡◌, refl, ap, ◌∙◌}
use mathlib.Core.Logic.{inl}
use mathlib.Core.List.{List, [], ◌∷◌}
use mathlib.Core.Option.{none, some}
use lib.Dec.{eqb}
use lib.ListN.{get_or, set, replicate}
use Rattle.lists.specs.Choice.{both, pick}
use Rattle.grid.specs.declared.Direction.{Direction}
use Rattle.grid.specs.declared.Grid.{Grid}
use Rattle.grid.specs.Grid.{cells, Cell, next, border}
use Rattle.borders.specs.Entry.{connected_entry}
use Rattle.grid.specs.Orders.{around}
use Rattle.borders.proofs.Agreement.{Agree, stands_reads}
use Rattle.answers.specs.Answers.{list_of}
use Rattle.path.specs.Path.{Lists, Search, is_new, mark, finds, look, looks, look_all, look_round, search_from, search, path_of, path_list}
use Rattle.path.proofs.Search.{Searching, taken, starts}

module _ (g : Grid) (a b : List ℕ) (agree : Agree g a b) where
  looks_agree : (c : ℕ) → Cell g c → (p : List ℕ) (ds : List Direction) (s : Search) → looks g a c p ds s ≡ looks g b c p ds s
  unfolding looks look finds
  looks_agree c cell p [] s = refl
  looks_agree c cell p (d ∷ ds) s =
      let look_agrees : look g a c p d s ≡ look g b c p d s =
      ap (λ t. pick (both t (is_new (get_or s.found (next g d c) none))) (mark (next g d c) (connected_entry (border g d c) ∷ p) s) s) (stands_reads g a b agree d c cell 1) in
      ap (looks g a c p ds) look_agrees ∙ looks_agree c cell p ds (look g b c p d s)

  round_agrees : (c : ℕ) → Cell g c → (s : Search) → look_round g a c s ≡ look_round g b c s
  unfolding look_round look_all
  round_agrees c cell s = looks_agree c cell (list_of (get_or s.found c none)) around s

  search_agrees : (start target fuel : ℕ) (queue : List ℕ) (xs : Lists) → Searching g a start (λ x. ⊥) fuel queue xs → search_from g a target fuel queue xs ≡ search_from g b target fuel queue xs
  unfolding search_from
  search_agrees start target zero queue xs k = refl
  search_agrees start target (suc fuel) [] xs k = refl
  search_agrees start target (suc fuel) (c ∷ queue) xs k =
      ap (pick (eqb c target) xs)
      (search_agrees start target fuel _ _ (taken g a start c fuel queue xs k)
      ∙ ap (λ (r : Search). search_from g b target fuel r.queue r.found) (round_agrees c (k.queued c (inl refl)).0 (record { queue = queue; found = xs })))

  pub path_agrees : (start target : ℕ) → Cell g start → path_of g a start target ≡ path_of g b start target
  unfolding path_of search
  path_agrees start target cell =
      ap (λ (xs : Lists). get_or xs target none) (search_agrees start target (cells g) (start ∷ []) (set (replicate (cells g) none) start (some [])) (starts g a start cell))

  pub list_agrees : (start target : ℕ) → Cell g start → path_list g a start target ≡ path_list g b start target
  unfolding path_list
  list_agrees start target cell = ap list_of (path_agrees start target cell)
