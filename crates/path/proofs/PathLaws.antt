-- The laws of paths. The search finds the target exactly if Connected borders join it to the start. The list is then a chain of borders from
-- target back to start, each standing Connected; it is shorter than the cells are many, and empty exactly for one cell; and on every board
-- on which its borders are Connected it joins its two ends. Assumes nothing.
use Prim.Native.Nat.{ℕ, ◌<◌}
use mathlib.Core.Path.{◌≡◌, refl, ap, sym, ◌∙◌}
use mathlib.Core.Logic.{inl, inr, ⊎_elim, ◌↔◌}
use mathlib.Core.List.{List, [], ◌∷◌}
use mathlib.Core.Option.{none, some, some-injective, none-ne-some}
use native.Mathlib.Omega.{arith}
use lib.ListN.{get_or, length, set, replicate}
use Rattle.lists.proofs.ChoiceLaws.{none_or_some}
use Rattle.frame.specs.Frame.{here, on, SameUnit}
use Rattle.grid.specs.declared.Grid.{Grid}
use Rattle.grid.specs.Grid.{cells, Cell}
use Rattle.grid.specs.Steps.{Neighbours}
use Rattle.borders.specs.Entry.{connected_entry, Standing}
use Rattle.borders.specs.Border.{state_of}
use Rattle.borders.proofs.EntryLaws.{stands_connected}
use Rattle.answers.specs.Answers.{list_of}
use Rattle.path.specs.Path.{search, path_of, path_list}
use Rattle.path.proofs.Leads.{Leads, arrived, over}
use Rattle.path.proofs.Search.{Ended, starts, search_ends, reaches}

module _ (g : Grid) (start : ℕ) where
  -- a list's chain joins its two ends wherever its borders are Connected
  pub leads_joins : {c : ℕ} {p : List ℕ} → Leads g start c p → (s : ℕ → ℕ) → Standing s p → SameUnit (Neighbours g) s start c
  leads_joins arrived s k = here
  leads_joins (over {e = e} n w) s k = on (leads_joins w s (λ l m. k l (inr m))) (e, n, stands_connected s e (k (connected_entry e) (inl refl)))

  pub leads_nowhere : {c : ℕ} {p : List ℕ} → Leads g start c p → length p ≡ 0 → c ≡ start
  leads_nowhere arrived q = refl
  leads_nowhere (over n w) q = absurd (omega arith)

module _ (g : Grid) (states : List ℕ) (start target : ℕ) (cell : Cell g start) where
  pub ended : Ended g states start target (search g states start target)
  unfolding search
  ended = search_ends g states start target (cells g) (start ∷ []) (set (replicate (cells g) none) start (some [])) (starts g states start cell)

  module _ (p : List ℕ) (q : path_of g states start target ≡ some p) where
    -- the list leads from the target back to the start (SPEC 4.3)
    pub path_leads : Leads g start target p
    unfolding path_of
    path_leads = (ended.way target p q).0

    pub path_stands : Standing (state_of states) p
    unfolding path_of
    path_stands = (ended.way target p q).1

    pub path_short : length p < cells g
    unfolding path_of
    path_short = ended.short target p q

    pub path_empty : (p ≡ []) ↔ (start ≡ target)
    unfolding path_of
    path_empty = (
      λ e. sym (leads_nowhere g start path_leads (ap length e)),
      λ e. some-injective p [] (sym q ∙ ap (λ n. get_or (search g states start target) n none) (sym e) ∙ ended.begun),
    )

    pub path_joined : SameUnit (Neighbours g) (state_of states) start target
    path_joined = leads_joins g start path_leads (state_of states) path_stands

  pub path_found : SameUnit (Neighbours g) (state_of states) start target → (p : List ℕ) × (path_of g states start target ≡ some p)
  unfolding path_of
  path_found j = ⊎_elim (λ z. z) (λ z. reaches g states start (search g states start target) z ([], ended.begun) j) ended.ends

  -- cells that are not joined (SPEC 3.10): nothing is found
  pub path_none : (path_of g states start target ≡ none) ↔ (SameUnit (Neighbours g) (state_of states) start target → ⊥)
  path_none = (
    λ q j. let o = path_found j in none-ne-some o.0 (sym q ∙ o.1),
    λ z. ⊎_elim (λ q. q) (λ (o : (p : List ℕ) × (path_of g states start target ≡ some p)). absurd (z (path_joined o.0 o.1))) (none_or_some (path_of g states start target)),
  )

  -- the list of joined cells is the one found
  pub path_list_lem : SameUnit (Neighbours g) (state_of states) start target → path_of g states start target ≡ some (path_list g states start target)
  unfolding path_list
  path_list_lem j = let o = path_found j in o.1 ∙ ap some (sym (ap list_of o.1))

-- lists of cells that are not joined are empty, so this one needs no premise
pub path_list_short : (g : Grid) (states : List ℕ) (start target : ℕ) → Cell g start → length (path_list g states start target) < cells g
unfolding path_list
path_list_short g states start target cell =
    ⊎_elim
    (λ (z : path_of g states start target ≡ none). omega (arith, ap length (ap list_of z)))
    (λ (o : (p : List ℕ) × (path_of g states start target ≡ some p)). omega (arith, ap length (ap list_of o.1), path_short g states start target cell o.0 o.1))
    (none_or_some (path_of g states start target))
