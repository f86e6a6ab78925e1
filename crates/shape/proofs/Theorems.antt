-- THE THEOREMS of the shape check. One law carries them: a fault's list stands on no clear board, where clear means no Wall inside a unit
-- and a good offset for each unit; for on a full board clear is right, and a board on which the check finds nothing is clear. Assumes nothing.
use Prim.Native.Nat.{ℕ, ◌+◌, ◌*◌, ◌≤◌}
use mathlib.Core.Path.{◌≡◌}
use mathlib.Core.Logic.{⊎_elim, ◌↔◌}
use mathlib.Core.Bool.{true, false}
use mathlib.Core.List.{List}
use mathlib.Core.Option.{none, some}
use native.Mathlib.Omega.{arith}
use lib.ListN.{get_or, length}
use Rattle.lists.specs.Lists.{In, range, first}
use Rattle.lists.proofs.ChoiceLaws.{or_else_none, or_else_some, none_or_some}
use Rattle.lists.proofs.ListLaws.{first_some, first_none, range_in, in_range}
use Rattle.frame.specs.Frame.{States, Full, NoInnerWall}
use Rattle.frame.proofs.Offset.{Good}
use Rattle.frame.proofs.Never.{good_move}
use Rattle.frame.proofs.Partners.{partner_good, good_partner}
use Rattle.grid.specs.declared.Grid.{Grid}
use Rattle.grid.specs.Grid.{cells, Cell}
use Rattle.grid.specs.Steps.{Neighbours}
use Rattle.grid.proofs.Geometry.{neighbours_back, border_lt}
use Rattle.images.specs.declared.Image.{Image}
use Rattle.images.specs.Images.{translates, all_images}
use Rattle.borders.specs.Entry.{Standing}
use Rattle.borders.specs.Border.{state_of, StatesOk}
use Rattle.groups.specs.Groups.{group_ids, group_count}
use Rattle.groups.proofs.GroupLaws.{unit_labels, potential_labels}
use Rattle.shape.specs.Shape.{offset, inner_wall, unit_fault, fault_in, shape_fault}
use Rattle.shape.specs.Laws.{FullBoard, Takes, RightShape}
use Rattle.shape.proofs.Moves.{placement}
use Rattle.shape.proofs.Placing.{place_moves, takes_start, rebase, unbase}
use Rattle.shape.proofs.Units.{unit_fault_stands, unit_never, unit_good}
use Rattle.shape.proofs.InnerWalls.{inner_none, inner_stands, inner_never}
use Rattle.shape.proofs.Lengths.{fault_most}

-- no Wall inside a unit, and a good offset for the unit of each cell
pub record Clear (ms : List Image) (g : Grid) (s : States) : Type 0 where
  pub no_inner_wall : NoInnerWall (Neighbours g) s
  pub offsets : (f : ℕ) → Cell g f → (m : Image) × In m ms × (t : ℕ) × Cell g t × Good (Neighbours g) s f (Takes m g f t)

module _ (ms : List Image) (g : Grid) (s : States) (full : FullBoard g s) where
  full_borders : Full (Neighbours g) s
  full_borders a b e n = full e (border_lt g n.0 a b e n.1)

  right_clear : RightShape ms g s → Clear ms g s
  right_clear r =
      record {
        no_inner_wall = r.no_inner_wall;
        offsets = λ f l.
            let t = r.partners f l in
            let T : ℕ → ℕ → Type 0 = Takes t.0 g f t.2 in
            let placed = placement g (offset t.0 g f t.2) T (place_moves t.0 g f t.2) in
            let start = takes_start t.0 g f t.2 l t.3 in
            (t.0, t.1, t.2, t.3, partner_good (Neighbours g) (neighbours_back g) s full_borders T placed f t.2 start r.no_inner_wall t.4);
      }

  clear_right : Clear ms g s → RightShape ms g s
  clear_right r =
      record {
        no_inner_wall = r.no_inner_wall;
        partners = λ f l.
            let t = r.offsets f l in
            let T : ℕ → ℕ → Type 0 = Takes t.0 g f t.2 in
            let placed = placement g (offset t.0 g f t.2) T (place_moves t.0 g f t.2) in
            let start = takes_start t.0 g f t.2 l t.3 in
            (t.0, t.1, t.2, t.3, good_partner (Neighbours g) (neighbours_back g) s full_borders T placed f t.2 start t.4);
      }

-- where the check finds nothing the board is clear
pub none_clear : (ms : List Image) (g : Grid) (states : List ℕ) → StatesOk g states → shape_fault ms g states ≡ none → Clear ms g (state_of states)
unfolding shape_fault fault_in
none_clear ms g states ok q =
    let units = group_ids g states false in
    let potentials = group_ids g states true in
    let m = group_count g states false in
    let n = group_count g states true in
    let lu = unit_labels g states in
    let o = or_else_none (inner_wall g states units) (first (unit_fault ms g states units potentials n) (range m)) q in
    record {
      no_inner_wall = inner_none g states units m lu o.0;
      offsets = λ f l.
          let k = get_or units f 0 in
          let u =
          unit_good ms g states units potentials m n lu (potential_labels g states ok) k (lu.small f l)
          (first_none (unit_fault ms g states units potentials n) (range m) o.1 k (range_in m k (lu.small f l))) in
          let j = lu.apart u.0 f u.1 l u.2 in
          let x = u.7.tried.falls f j in (
            u.3,
            u.4,
            x.0,
            x.1.to,
            good_move (Neighbours g) (neighbours_back g) (state_of states) u.0 f (Takes u.3 g u.0 u.5) (Takes u.3 g f x.0) j
                (rebase u.3 g u.0 u.5 f x.0 x.1) (unbase u.3 g u.0 u.5 f x.0 x.1) u.7,
          );
    }

module _ (ms : List Image) (g : Grid) (states : List ℕ) (ok : StatesOk g states) (L : List ℕ) (fault : shape_fault ms g states ≡ some L) where
  abbrev units : List ℕ
  units = group_ids g states false

  abbrev potentials : List ℕ
  potentials = group_ids g states true

  abbrev m : ℕ
  m = group_count g states false

  abbrev n : ℕ
  n = group_count g states true

  -- (1) each listed entry stands as listed
  pub listed : Standing (state_of states) L
  unfolding shape_fault fault_in
  listed =
      ⊎_elim
      (λ k. inner_stands g states units m (unit_labels g states) L k)
      (λ k. let i = first_some (unit_fault ms g states units potentials n) (range m) L k in unit_fault_stands ms g states units potentials n i.0 L i.2)
      (or_else_some (inner_wall g states units) (first (unit_fault ms g states units potentials n) (range m)) L fault)

  -- THE LAW: the list stands on no clear board
  pub never_clear : (s : States) → Standing s L → Clear ms g s → ⊥
  unfolding shape_fault fault_in
  never_clear s stood clear =
      ⊎_elim
      (λ k. inner_never g states units m (unit_labels g states) L k s stood clear.no_inner_wall)
      (λ k.
      let i = first_some (unit_fault ms g states units potentials n) (range m) L k in
      let u = unit_never ms g states units potentials m n (unit_labels g states) (potential_labels g states ok) i.0 (in_range m i.0 i.1) L i.2 s stood in
      let t = clear.offsets u.0 u.1 in
      u.2 t.0 t.1 t.2 t.3 t.4)
      (or_else_some (inner_wall g states units) (first (unit_fault ms g states units potentials n) (range m)) L fault)

  -- (2) every full board of that size on which the listed entries stand as listed breaks the laws
  pub excludes : (s : States) → FullBoard g s → Standing s L → RightShape ms g s → ⊥
  excludes s full stood right = never_clear s stood (right_clear ms g s full right)

  -- (3) on every board of that size on which they stand, whatever else stands there, the check answers a fault
  pub again : (states' : List ℕ) → StatesOk g states' → Standing (state_of states') L → (M : List ℕ) × (shape_fault ms g states' ≡ some M)
  again states' ok' stood =
      ⊎_elim (λ (q : shape_fault ms g states' ≡ none). absurd (never_clear (state_of states') stood (none_clear ms g states' ok' q))) (λ q. q) (none_or_some (shape_fault ms g states'))

  -- (5) the list has at most 8·h·w entries, and h·w more for each image
  pub at_most : length L ≤ (length ms + 8) * cells g
  unfolding shape_fault
  at_most = fault_most ms g states units potentials m n L fault

-- that is, for translates, and for all images
pub at_most_translates : (g : Grid) (states : List ℕ) → StatesOk g states → (L : List ℕ) → shape_fault translates g states ≡ some L → length L ≤ 9 * cells g
at_most_translates g states ok L fault = at_most translates g states ok L fault

pub at_most_images : (g : Grid) (states : List ℕ) → StatesOk g states → (L : List ℕ) → shape_fault all_images g states ≡ some L → length L ≤ 16 * cells g
unfolding range
at_most_images g states ok L fault = at_most all_images g states ok L fault

-- (4) on a full board the check is clear exactly if the laws hold
pub full : (ms : List Image) (g : Grid) (states : List ℕ) → FullBoard g (state_of states) → (shape_fault ms g states ≡ none) ↔ RightShape ms g (state_of states)
full ms g states whole =
    let ok : StatesOk g states = λ e l. ⊎_elim (λ (q : state_of states e ≡ 1). omega arith) (λ (q : state_of states e ≡ 2). omega arith) (whole e l) in (
      λ q. clear_right ms g (state_of states) whole (none_clear ms g states ok q),
      λ right.
          ⊎_elim
          (λ q. q)
          (λ (o : (L : List ℕ) × (shape_fault ms g states ≡ some L)).
          absurd (excludes ms g states ok o.0 o.1 (state_of states) whole (listed ms g states ok o.0 o.1) right))
          (none_or_some (shape_fault ms g states)),
    )
