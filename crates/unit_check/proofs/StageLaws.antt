-- The stage: the first unit that fits nowhere is the first with a fault, and what finding and writing are handed. Assumes nothing.
use Prim.Native.Nat.{ℕ, zero, suc, ◌+◌, ◌-◌, ◌≤◌, ◌<◌}
use mathlib.Core.Path.{◌≡◌, refl, sym, ◌∙◌}
use mathlib.Core.List.{List, ◌++◌}
use mathlib.Core.Option.{Option, none, some}
use native.Mathlib.Omega.{arith}
use native.Mathlib.Nat.{sub-zero}
use native.Mathlib.Numerals.{add-one}
use lib.ListN.{length, replicate}
use Rattle.std.specs.Prelude as std
use Rattle.lists.specs.Choice.{give, or_else}
use Rattle.lists.specs.Lists.{count_from, range, first}
use Rattle.lists.proofs.ListLaws.{count_from_step, count_from_end, zeros_at}
use Rattle.answers.specs.Answers.{Finds}
use Rattle.grid.specs.declared.Grid.{Grid}
use Rattle.grid.specs.Grid.{Limits}
use Rattle.groups.specs.Lent.{InTurn}
use Rattle.boundary.specs.Appended.{Appended}
use Rattle.images.specs.declared.Image.{Image}
use Rattle.shape.specs.Shape.{UnitInfo, unit_of, failures, boundaries, unit_fault}
use Rattle.offsets.specs.declared.table.CellInfo.{CellInfo}
use Rattle.offsets.specs.Table.{Table, units_in, potentials_in}
use Rattle.adjacency.specs.Adjacency.{Unmarked}
use Rattle.unit_check.specs.Find.{unit_cells, fits_in, FirstUnfit}
use Rattle.unit_check.specs.Write.{list_at}
use Rattle.unit_check.specs.Units.{first_list}
use Rattle.unit_check.proofs.FindLaws.{unit_is}

-- THE FIRST UNIT THAT FITS NOWHERE

skip_one : (f : ℕ → Option (List ℕ)) (n k : ℕ) → k < n → f k ≡ none → first f (count_from k (n - k)) ≡ first f (range n) → first f (count_from (k + 1) (n - (k + 1))) ≡ first f (range n)
unfolding first or_else
skip_one f n k l e p = rw (count_from_step n k l, e) at p

skip : (f : ℕ → Option (List ℕ)) (n k : ℕ) → k ≤ n → ((i : ℕ) → i < k → f i ≡ none) → first f (count_from k (n - k)) ≡ first f (range n)
unfolding range
skip f n zero h e = rw (sub-zero n)
skip f n (suc k) h e =
    rw (← add-one k) (skip_one f n k (omega arith) (e k (omega arith)) (skip f n k (omega arith) (λ i l. e i (omega arith))))

module _ (ms : List Image) (g : Grid) (states : List ℕ) (table : List CellInfo) (n k : ℕ) (w : FirstUnfit (fits_in ms g states table) n k) (count : ℕ) where
  abbrev fault : ℕ → Option (List ℕ)
  fault = unit_fault ms g states (units_in g table) (potentials_in g table) count

  passed : (i : ℕ) → i < k → fault i ≡ none
  unfolding unit_fault give
  passed i l = rw (w.before i l)

  stage_none : n ≤ k → first fault (range n) ≡ none
  unfolding first
  stage_none h = sym (skip fault n k w.within passed) ∙ rw (count_from_end n k h)

  abbrev u : UnitInfo
  u = unit_of g (units_in g table) (potentials_in g table) k

  abbrev list : List ℕ
  list = failures ms g states (units_in g table) (potentials_in g table) u ++ boundaries g states (units_in g table) (potentials_in g table) count u

  this : k < n → fault k ≡ some list
  unfolding unit_fault give
  this h = rw (w.there h)

  stage_some : k < n → first fault (range n) ≡ some list
  unfolding first or_else
  stage_some h = sym (skip fault n k w.within passed) ∙ rw (count_from_step n k h, this h)

module _ (ms : List Image) (g : Grid) (states : List ℕ) (table : List CellInfo) {n : ℕ} (count : ℕ) where
  pub finds_nothing : FirstUnfit (fits_in ms g states table) n n → (b : List ℕ) → Finds (first_list ms g states table count n) b b std.None
  finds_nothing q b =
      let z : first_list ms g states table count n ≡ none = stage_none ms g states table n n q count (omega arith) in
      rw z record { answer = refl; stored = refl }

  pub finds_list : Limits g → Table g table → {starts flat : List ℕ} → InTurn g (units_in g table) n starts flat → {k : ℕ} → k < n → FirstUnfit (fits_in ms g states table) n k → {b b' : List ℕ} {r : ℕ}
      → Appended b 0 (list_at ms g states table count (unit_cells g table k)) b' r → Finds (first_list ms g states table count n) b b' (std.Some r)
  finds_list limits t turns {k} h q {r = r} v =
      let L : List ℕ = list ms g states table n k q count in
      let z : first_list ms g states table count n ≡ some L = stage_some ms g states table n k q count h in
      let e : list_at ms g states table count (unit_cells g table k) ≡ L = rw (unit_is limits t turns h) in
      let v' = rw e at v in
      let j : r ≡ length L = omega (arith, v'.place) in
      rw z record { answer = rw j; stored = v'.stored }

-- ARRAYS OF ZEROS

pub none_marked : (n : ℕ) → Unmarked (replicate n 0)
none_marked = zeros_at
