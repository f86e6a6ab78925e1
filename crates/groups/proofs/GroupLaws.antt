-- Group numbers tell units, and potential units, apart: two cells have one number exactly if they are joined, and each number below the count is used. Assumes nothing.
use Prim.Native.Nat.{ℕ, ◌≤◌, ◌<◌}
use mathlib.Core.Path.{◌≡◌, refl, sym, ◌∙◌}
use mathlib.Core.Logic.{◌≢◌, ⊎_elim}
use mathlib.Core.Bool.{Bool, true, false, true≢false}
use mathlib.Core.List.{List, [], ◌∷◌}
use native.Mathlib.Omega.{arith}
use borrow.Author.Tests.{eqb-true, eq-eqb}
use lib.Dec.{eqb}
use lib.ListN.{get_or}
use Rattle.lists.specs.Choice.{both}
use Rattle.lists.specs.Lists.{In, range, gather}
use Rattle.lists.proofs.Cases.{eq_or_ne}
use Rattle.lists.proofs.ChoiceLaws.{both_true, true_both, either_true, left_either, right_either}
use Rattle.lists.proofs.ListLaws.{in_when, when_in, in_keep, keep_in, in_gather, gather_in, range_in, in_range}
use Rattle.frame.specs.Frame.{Chain, here, on, Link, SameUnit, SamePotential}
use Rattle.frame.proofs.Chains.{chain_then, chain_map, link_back}
use Rattle.grid.specs.declared.Direction.TheVariants.{Down, Right}
use Rattle.grid.specs.declared.Grid.{Grid}
use Rattle.grid.specs.Grid.{cells, Cell, goes_on, next, border}
use Rattle.grid.specs.Steps.{Neighbours}
use Rattle.grid.proofs.Geometry.{goes_step, step_goes, step_next, neighbours_back, border_lt}
use Rattle.borders.specs.Border.{state_of, StatesOk}
use Rattle.borders.proofs.Directions.{Ahead, down_or_right}
use Rattle.parts.specs.Parts.{edge, Has, Joined, same, over, back, then, begun, part, Within, parts}
use Rattle.parts.proofs.PartLaws.{edge_ends, joined_part, part_joined, part_lt, part_used}
use Rattle.parts.proofs.PartLists.{begun_at, parts_at, within}
use Rattle.groups.specs.Groups.{passes, edge_at, edges_over, edges, group_ids, group_count, cells_in, cells_of}

-- `ids` numbers the classes of J, which are `count` in all, from 0 on
pub record Labels (g : Grid) (ids : List ℕ) (count : ℕ) (J : ℕ → ℕ → Type 0) : Type 0 where
  pub apart : (c d : ℕ) → Cell g c → Cell g d → get_or ids c 0 ≡ get_or ids d 0 → J c d
  pub alike : (c d : ℕ) → Cell g c → Cell g d → J c d → get_or ids c 0 ≡ get_or ids d 0
  pub small : (c : ℕ) → Cell g c → get_or ids c 0 < count
  pub used : (k : ℕ) → k < count → (c : ℕ) × Cell g c × (get_or ids c 0 ≡ k)

-- the cells of a group are those with its number
module _ (g : Grid) (ids : List ℕ) (k c : ℕ) where
  pub in_cells : In c (cells_of g ids k) → Cell g c × (get_or ids c 0 ≡ k)
  unfolding cells_in
  in_cells m = let o = in_keep (λ c. eqb (get_or ids c 0) k) (range (cells g)) c m in (in_range (cells g) c o.0, eqb-true (get_or ids c 0) k o.1)

  pub cells_in_lem : Cell g c → get_or ids c 0 ≡ k → In c (cells_of g ids k)
  unfolding cells_in
  cells_in_lem l q = keep_in (λ c. eqb (get_or ids c 0) k) (range (cells g)) c (range_in (cells g) c l) (eq-eqb (get_or ids c 0) k q)

-- a chain of links stays on the board
pub chain_cell : (g : Grid) (Q : ℕ → Type 0) {a b : ℕ} → Cell g a → Chain (Link (Neighbours g) Q) a b → Cell g b
chain_cell g Q l here = l
chain_cell g Q l (on j k) = k.1.1.cell'

-- THE EDGES of a test join what chains of passing borders join
module _ (g : Grid) (pass : ℕ → Bool) where
  abbrev pub Passing : ℕ → ℕ → Type 0
  Passing = Link (Neighbours g) (λ e. pass e ≡ true)

  link_at : (a b c d : ℕ) → c ≡ a → d ≡ b → Passing a b → Passing c d
  link_at a b c d p q l = rw (p, q) l

  pub has_link : (c c' : ℕ) → Has (edges_over g pass) c c' → Passing c c'
  unfolding edges_over edge_at
  has_link c c' m =
      let a = in_gather (λ c. gather (edge_at g pass c) (Down ∷ Right ∷ [])) (range (cells g)) (edge c c') m in
      let d = in_gather (edge_at g pass a.0) (Down ∷ Right ∷ []) (edge c c') a.2 in
      let o = in_when (both (goes_on g d.0 a.0) (pass (border g d.0 a.0))) (edge a.0 (next g d.0 a.0)) (edge c c') d.2 in
      let t = both_true (goes_on g d.0 a.0) (pass (border g d.0 a.0)) o.0 in
      let s = goes_step g d.0 a.0 (in_range (cells g) a.0 a.1) t.0 in
      let q = edge_ends o.1 in
      link_at a.0 (next g d.0 a.0) c c' q.0 q.1 (border g d.0 a.0, (d.0, s), t.1)

  pub ahead_has : (c c' e : ℕ) → Ahead g c c' e → pass e ≡ true → Has (edges_over g pass) c c'
  unfolding edges_over edge_at
  ahead_has c c' e a q =
      let d = a.0 in
      let s = a.2 in
      rw
      (step_next g d c c' e s)
      (gather_in (λ c. gather (edge_at g pass c) (Down ∷ Right ∷ [])) (range (cells g)) c _ (range_in (cells g) c s.cell)
      (gather_in (edge_at g pass c) (Down ∷ Right ∷ []) d _ a.1
      (when_in (both (goes_on g d c) (pass (border g d c))) _ (true_both (goes_on g d c) (pass (border g d c)) (step_goes g d c c' e s) (rw s.over at q)))))

  link_joined : (c c' : ℕ) → Passing c c' → Joined (edges_over g pass) c c'
  link_joined c c' l =
      ⊎_elim (λ a. over (ahead_has c c' l.0 a l.2)) (λ a. back (over (ahead_has c' c l.0 a l.2))) (down_or_right g c c' l.0 l.1)

  pub joined_chain : {c c' : ℕ} → Joined (edges_over g pass) c c' → Chain Passing c c'
  joined_chain (same {c} {d} q) = rw q here
  joined_chain (over {c} {d} m) = on here (has_link c d m)
  joined_chain (back j) = link_back (Neighbours g) (neighbours_back g) (λ e. pass e ≡ true) (joined_chain j)
  joined_chain (then j k) = chain_then (joined_chain j) (joined_chain k)

  pub chain_joined : {c c' : ℕ} → Chain Passing c c' → Joined (edges_over g pass) c c'
  chain_joined here = same refl
  chain_joined (on {b = x} {c = y} j l) = then (chain_joined j) (link_joined x y l)

  pub edges_within : Within (cells g) (edges_over g pass)
  edges_within = within (cells g) (edges_over g pass) (λ c d m. let l = has_link c d m in (l.1.1.cell, l.1.1.cell'))

  pub part_labels : Labels g (parts (cells g) (edges_over g pass)) (begun (edges_over g pass) (cells g)) (Chain Passing)
  part_labels =
      let E = edges_over g pass in
      let at : (c : ℕ) → Cell g c → get_or (parts (cells g) E) c 0 ≡ part E c = λ c l. parts_at (cells g) E c edges_within l in
      record {
        apart = λ c d k l q. joined_chain (part_joined E c d (sym (at c k) ∙ q ∙ at d l));
        alike = λ c d k l j. at c k ∙ joined_part (chain_joined j) ∙ sym (at d l);
        small = λ c l. rw (at c l) (part_lt E (cells g) c l);
        used = λ k l. let o = part_used E (cells g) k l in (o.0, o.1, at o.0 o.1 ∙ o.3);
      }

-- labels of one relation are labels of another that says the same
labels_map : (g : Grid) (ids : List ℕ) (count : ℕ) (J K : ℕ → ℕ → Type 0) → ((c d : ℕ) → J c d → K c d) → ((c d : ℕ) → K c d → J c d) → Labels g ids count J → Labels g ids count K
labels_map g ids count J K to from l =
    record {
      apart = λ c d p q e. to c d (l.apart c d p q e);
      alike = λ c d p q j. l.alike c d p q (from c d j);
      small = l.small;
      used = l.used;
    }

-- GROUPS
module _ (g : Grid) (states : List ℕ) (potential : Bool) (Q : ℕ → Type 0)
    (to : (a b e : ℕ) → Neighbours g a b e → passes potential (state_of states e) ≡ true → Q e)
    (from : (a b e : ℕ) → Neighbours g a b e → Q e → passes potential (state_of states e) ≡ true) where
  group_labels : Labels g (group_ids g states potential) (group_count g states potential) (Chain (Link (Neighbours g) Q))
  unfolding group_ids group_count
  group_labels =
      let P : ℕ → Type 0 = λ e. passes potential (state_of states e) ≡ true in
      labels_map g _ _ (Chain (Link (Neighbours g) P)) (Chain (Link (Neighbours g) Q))
      (λ c d j. chain_map (λ a b r. (r.0, r.1, to a b r.0 r.1 r.2)) j)
      (λ c d j. chain_map (λ a b r. (r.0, r.1, from a b r.0 r.1 r.2)) j)
      (rw (begun_at (cells g) (edges g states potential) (cells g) (edges_within g (λ e. passes potential (state_of states e))) (omega arith)) (part_labels g (λ e. passes potential (state_of states e))))

pub unit_passes : (s : ℕ) → passes false s ≡ true → s ≡ 1
unfolding passes
unit_passes s q = ⊎_elim (λ k. eqb-true s 1 k) (λ k. absurd (true≢false (sym k))) (either_true (eqb s 1) false q)

pub passes_unit : (s : ℕ) → s ≡ 1 → passes false s ≡ true
unfolding passes
passes_unit s q = left_either (eqb s 1) false (eq-eqb s 1 q)

pub potential_passes : (s : ℕ) → passes true s ≡ true → s ≢ 2
unfolding passes
potential_passes s q = ⊎_elim (λ k. omega (arith, eqb-true s 1 k)) (λ k. omega (arith, eqb-true s 0 k)) (either_true (eqb s 1) (eqb s 0) q)

pub passes_potential : (s : ℕ) → s ≤ 2 → s ≢ 2 → passes true s ≡ true
unfolding passes
passes_potential s l z =
    ⊎_elim
    (λ (k : s ≡ 1). left_either (eqb s 1) (eqb s 0) (eq-eqb s 1 k))
    (λ (k : s ≢ 1). right_either (eqb s 1) (eqb s 0) (eq-eqb s 0 (omega arith)))
    (eq_or_ne s 1)

-- units are joined over Connected borders (SPEC 2.2)
pub unit_labels : (g : Grid) (states : List ℕ) → Labels g (group_ids g states false) (group_count g states false) (SameUnit (Neighbours g) (state_of states))
unit_labels g states =
    group_labels g states false (λ e. state_of states e ≡ 1) (λ a b e n q. unit_passes (state_of states e) q) (λ a b e n q. passes_unit (state_of states e) q)

-- potential units (SPEC 4.1): where states run from 0 to 2, over all that is no Wall
pub potential_labels : (g : Grid) (states : List ℕ) → StatesOk g states
    → Labels g (group_ids g states true) (group_count g states true) (SamePotential (Neighbours g) (state_of states))
potential_labels g states ok =
    group_labels g states true (λ e. state_of states e ≢ 2)
    (λ a b e n q. potential_passes (state_of states e) q)
    (λ a b e n q. passes_potential (state_of states e) (ok e (border_lt g n.0 a b e n.1)) q)
