-- What a stage holds, said of the board's table: its groups in turn, and of one of its units the marks, the trial, whether it fits and its list.
-- Assumes nothing.
use Prim.Native.Nat.{ℕ, ◌+◌, ◌*◌, ◌≤◌, ◌<◌}
use mathlib.Core.Path.{◌≡◌, sym, ◌∙◌}
use mathlib.Core.Logic.{∥∥₁_elim}
use mathlib.Core.Bool.{Bool, true, false}
use mathlib.Core.List.{List}
use lib.Dec.{eqb}
use lib.ListN.{length}
use Rattle.std.proofs.Props.{props}
use Rattle.lists.specs.Choice.{both}
use Rattle.lists.specs.Lists.{In}
use Rattle.grid.specs.declared.Grid.{Grid}
use Rattle.grid.specs.Grid.{Limits, cells}
use Rattle.groups.specs.Lent.{InTurn}
use Rattle.boundary.specs.declared.Entries.{Entries}
use Rattle.boundary.specs.Writes.{Writes}
use Rattle.boundary.specs.Boundary.{unit_boundary}
use Rattle.images.specs.declared.Image.{Image}
use Rattle.images.specs.Images.{translate}
use Rattle.shape.specs.Shape.{head_or0}
use Rattle.offsets.specs.declared.table.CellInfo.{CellInfo}
use Rattle.offsets.specs.Table.{unit_in, units_in, potentials_in}
use Rattle.offsets.specs.Trial.{fits_as, fits_at, Unit, Placed}
use Rattle.adjacency.specs.Adjacency.{Adjacency, Marking, MarksOf, Unmarked}
use Rattle.unit_check.specs.declared.stage.Stage.{Stage}
use Rattle.unit_check.specs.Find.{unit_cells, own_of, fits_in, translate_fits, tries_all, MarkedFor}
use Rattle.unit_check.specs.Write.{failures_at, list_at, near_boundaries}
use Rattle.unit_check.proofs.FindLaws.{units_turn, potentials_turn, own_marking, unit_marked, unit_unmarked, its_unit, its_placed, fits_is, translate_is, translate_in, translate_alone, number}
use Rattle.unit_check.proofs.WriteLaws.{Writing, landings_room, unit_room, near_room, all_written}

module _ (s : Stage) where
  abbrev grid : Grid
  grid = s.chart.borders.grid

  abbrev states : List ℕ
  states = s.chart.borders.states.now

  abbrev table : List CellInfo
  table = s.chart.table.now

  abbrev images : List Image
  images = s.images.now

  abbrev count : ℕ
  count = length s.potentials.starts.now

  pub units_held : InTurn grid (units_in grid table) (length s.units.starts.now) s.units.starts.now s.units.flat.now
  units_held = units_turn s.finding s.units.turns

  pub potentials_held : InTurn grid (potentials_in grid table) count s.potentials.starts.now s.potentials.flat.now
  potentials_held = potentials_turn s.finding s.potentials.turns

  -- unit k
  module _ {k : ℕ} (h : k < length s.units.starts.now) where
    abbrev limits : Limits grid
    limits = s.chart.borders.fits.limits

    -- its own potential unit has a list
    module _ {own : ℕ} (e : own ≡ own_of grid table k) where
      pub marking_held : (marks : List ℕ) → count ≤ length marks → Marking own s.near.starts.now s.near.list.now marks
      marking_held = own_marking limits s.chart.table_of units_held h potentials_held s.finding.lists e

      pub marked_held : {marks : List ℕ}
          → ((g : Grid) (states pids : List ℕ) (count : ℕ) → Adjacency g states pids count s.near.starts.now s.near.list.now → own < count → MarksOf g states pids own marks)
          → MarkedFor grid states table k marks
      marked_held = unit_marked limits s.chart.table_of units_held h potentials_held s.finding.lists e

      pub unmarked_held : {marks : List ℕ} (marks' : List ℕ) → MarkedFor grid states table k marks
          → ((g : Grid) (states pids : List ℕ) (count : ℕ) → Adjacency g states pids count s.near.starts.now s.near.list.now → own < count → MarksOf g states pids own marks → Unmarked marks')
          → Unmarked marks'
      unmarked_held = unit_unmarked limits s.chart.table_of units_held h potentials_held s.finding.lists e

    pub unit_held : Unit grid table (unit_cells grid table k)
    unit_held = its_unit limits s.chart.table_of units_held h

    pub placed_held : {marks : List ℕ} → MarkedFor grid states table k marks → count ≤ length marks → Placed grid states table marks (unit_cells grid table k)
    placed_held m = its_placed limits s.chart.table_of units_held h s.chart.borders.fits.borders m potentials_held

    -- whether it fits, as a trial of its cells tells
    pub fits_held : {r b : Bool} → r ≡ fits_at images grid states table (unit_cells grid table k) → r ≡ b → fits_in images grid states table k ≡ b
    fits_held v q = sym (fits_is limits s.chart.table_of units_held h images states) ∙ sym v ∙ q

    pub translate_held : {r b : Bool} → r ≡ fits_as grid states table (unit_cells grid table k) translate → r ≡ b → translate_fits grid states table k ≡ b
    translate_held v q = sym (translate_is limits s.chart.table_of units_held h states) ∙ sym v ∙ q

    -- one that fits as a translate fits
    pub soon_held : {r : Bool} → r ≡ fits_as grid states table (unit_cells grid table k) translate → r ≡ true → fits_in images grid states table k ≡ true
    soon_held v q = ∥∥₁_elim s.translates (hlevel props) (λ (m : In translate images). translate_in images m grid states table k (translate_held v q))

    -- where translates are tried alone, one that does not fit so fits nowhere
    pub alone_held : {r : Bool} → r ≡ both (eqb (length images) 1) (tries_all grid) → r ≡ true → (tries_all grid ≡ true → translate_fits grid states table k ≡ false) → fits_in images grid states table k ≡ false
    alone_held v q e = ∥∥₁_elim s.translates (hlevel props) (λ (m : In translate images). translate_alone images m grid states table k (sym v ∙ q) e)

    -- its list is written
    module _ {marks : List ℕ} (marked : MarkedFor grid states table k marks) (long : count ≤ length marks) {room : ℕ} (enough : (length images + 8) * cells grid ≤ room) where
      writing : Writing images grid states s.units.ids.now s.potentials.ids.now count table marks (unit_cells grid table k) room
      writing =
          record {
            placed = placed_held marked long;
            units = s.finding.units;
            potentials = s.finding.potentials;
            ids_long = (rw s.finding.units_of at s.units.turns).ids_long;
            marks_long = long;
            enough = enough;
          }

      pub landings_fit : {len : ℕ} → len ≡ 0 → len + length (failures_at images grid states table (unit_cells grid table k)) ≤ room
      landings_fit = landings_room writing

      its_number : unit_in table (head_or0 (unit_cells grid table k)) ≡ k
      its_number = number limits s.chart.table_of units_held h

      -- once its failed landings are
      module _ {p₀ p₁ : Entries} (empty : p₀.len ≡ 0) (room_is : length p₀.buffer.now ≡ room) (landed : Writes (failures_at images grid states table (unit_cells grid table k)) p₀ p₁) where
        pub unit_fits : p₁.len + length (unit_boundary grid states s.units.ids.now k) ≤ length p₁.buffer.now
        unit_fits = unit_room writing empty room_is landed its_number

        module _ {p₂ : Entries} (bounded : Writes (unit_boundary grid states s.units.ids.now k) p₁ p₂) where
          pub near_fits : p₂.len + length (near_boundaries grid states s.potentials.ids.now marks count) ≤ length p₂.buffer.now
          near_fits = near_room writing empty room_is landed its_number bounded

          pub unit_written : {p₃ : Entries} → Writes (near_boundaries grid states s.potentials.ids.now marks count) p₂ p₃ → Writes (list_at images grid states table count (unit_cells grid table k)) p₀ p₃
          unit_written = all_written writing empty room_is landed its_number bounded
