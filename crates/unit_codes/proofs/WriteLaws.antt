-- Codes that are written in turn: of one border, of a cell's borders, and of all cells' borders. Assumes nothing.
use Prim.Native.Nat.{ℕ, ◌+◌, ◌*◌, ◌≤◌, ◌<◌}
use mathlib.Core.Path.{◌≡◌, refl, ap, sym, ◌∙◌}
use mathlib.Core.Bool.{Bool, true, false}
use mathlib.Core.List.{List, [], ◌∷◌}
use native.Mathlib.Omega.{arith}
use lib.ListN.{get_or, length, set, length-append}
use Rattle.lists.specs.Choice.{pick, when}
use Rattle.lists.specs.Lists.{gather}
use Rattle.grid.specs.declared.Direction.{Direction}
use Rattle.grid.specs.Orders.{around, forward}
use Rattle.grid.specs.declared.Grid.{Grid}
use Rattle.boundary.specs.Appended.{Appended}
use Rattle.boundary.specs.declared.Entries.{Entries}
use Rattle.boundary.specs.Writes.{Writes}
use Rattle.boundary.proofs.AppendLaws.{writes_none, writes_then, writes_long}
use Rattle.boundary.proofs.Lengths.{when_most, gather_most}
use Rattle.images.specs.declared.Image.{Image}
use Rattle.images.specs.Images.{direction_in}
use Rattle.shape.specs.Shape.{head_or0}
use Rattle.offsets.specs.declared.table.CellInfo.{CellInfo}
use Rattle.offsets.specs.Table.{blank, unit_in, units_in}
use Rattle.offsets.specs.Landings.{kept_of, directions_of}
use Rattle.unit_codes.specs.Codes.{cell_code, border_code, codes_at, code_at, codes_of, part_codes, cell_codes, border_codes}

-- one number at a place
put : {b : List ℕ} {at v w : ℕ} → v ≡ w → Appended b at (w ∷ []) (set b at v) (at + 1)
put e = record { place = refl; stored = rw e }

-- A CELL: its code is written
pub cell_put : (m : Image) (g : Grid) (f : ℕ) {c d v : ℕ} → c ≡ d → v ≡ cell_code m g f c → {b : List ℕ} {at : ℕ} → Appended b at (cell_code m g f d ∷ []) (set b at v) (at + 1)
cell_put m g f c-is e = put (e ∙ rw c-is)

-- all cells', in turn
pub cells_in_turn : (m : Image) (g : Grid) (f : ℕ) (cs : List ℕ) → gather (λ c. cell_code m g f c ∷ []) cs ≡ cell_codes m g f cs
unfolding cell_codes
cells_in_turn m g f cs = refl

pub cells_most : (m : Image) (g : Grid) (f : ℕ) (cs : List ℕ) → length (cell_codes m g f cs) ≤ length cs
unfolding cell_codes
cells_most m g f cs = omega (arith, gather_most (λ c. cell_code m g f c ∷ []) 1 (λ c. omega arith) cs)

-- A BORDER: k says whether it must land well, by the unit's number, which is that of its first cell
module _ (m : Image) (g : Grid) (states : List ℕ) (table : List CellInfo) (cs : List ℕ) (f : ℕ) (inner : Bool) (c : ℕ) (d : Direction) {first : CellInfo} {k : Bool}
    (first_is : first ≡ get_or table (head_or0 cs) blank) (k-is : k ≡ kept_of g states (units_in g table) inner first.unit c d) where
  kept_is : kept_of g states (units_in g table) inner (unit_in table (head_or0 cs)) c d ≡ k
  kept_is = sym (k-is ∙ ap (λ (i : CellInfo). kept_of g states (units_in g table) inner i.unit c d) first_is)

  pub not_noted : k ≡ false → {p : Entries} → Writes (code_at m g states table cs f inner c d) p p
  unfolding when
  not_noted e = writes_none (rw (kept_is ∙ e))

  module _ (e : k ≡ true) where
    code_is : code_at m g states table cs f inner c d ≡ border_code m g f inner c (direction_in m d) ∷ []
    unfolding when
    code_is = rw (kept_is ∙ e)

    pub note_room : {at n : ℕ} → at + length (code_at m g states table cs f inner c d) ≤ n → at < n
    note_room p = omega (arith, p, ap length code_is)

    pub noted : {v : ℕ} → v ≡ border_code m g f inner c (direction_in m d) → {p q : Entries} → Writes (v ∷ []) p q → Writes (code_at m g states table cs f inner c d) p q
    noted e w = rw (code_is, ← e) w

module _ (m : Image) (g : Grid) (states : List ℕ) (table : List CellInfo) (cs : List ℕ) (f : ℕ) where
  -- all of a cell's borders, in turn
  pub codes_in_turn : (inner : Bool) (c : ℕ) → gather (code_at m g states table cs f inner c) (directions_of inner) ≡ codes_of m g states table cs f inner c
  unfolding codes_at
  codes_in_turn inner c = refl

  -- INNER BORDERS, THEN WALLS AND EDGES: at most two and four for each cell
  ones_most : (t : Direction → Bool) (x : Direction → ℕ) (ds : List Direction) → length (gather (λ d. when (t d) (x d)) ds) ≤ length ds * 1
  ones_most t x = gather_most (λ d. when (t d) (x d)) 1 (λ d. when_most (t d) (x d))

  codes_most : (ids : List ℕ) (unit : ℕ) (inner : Bool) (c : ℕ) → length (codes_at m g states ids unit f inner c) ≤ pick inner 2 4
  unfolding codes_at
  codes_most ids unit true c = ones_most (kept_of g states ids true unit c) (λ d. border_code m g f true c (direction_in m d)) forward
  codes_most ids unit false c = ones_most (kept_of g states ids false unit c) (λ d. border_code m g f false c (direction_in m d)) around

  part_most : (inner : Bool) → length (part_codes m g states table cs f inner) ≤ length cs * pick inner 2 4
  part_most inner = gather_most _ (pick inner 2 4) (codes_most (units_in g table) (unit_in table (head_or0 cs)) inner) cs

  pub borders_most : length (border_codes m g states table f cs) ≤ 6 * length cs
  unfolding border_codes
  borders_most = omega (arith, part_most true, part_most false, length-append (part_codes m g states table cs f true) (part_codes m g states table cs f false))

  module _ (b : List ℕ) (room : 6 * length cs ≤ length b) where
    pub inner_asks : 0 + length (part_codes m g states table cs f true) ≤ length b
    inner_asks = omega (arith, part_most true)

    module _ {p q : Entries} (w : Writes (part_codes m g states table cs f true) p q) where
      pub outer_asks : p.buffer.now ≡ b → p.len ≡ 0 → q.len + length (part_codes m g states table cs f false) ≤ length q.buffer.now
      outer_asks same start = omega (arith, part_most true, part_most false, w.appended.place, writes_long w, ap length same)

      pub both_noted : {r : Entries} → Writes (part_codes m g states table cs f false) q r → Appended p.buffer.now p.len (border_codes m g states table f cs) r.buffer.now r.len
      unfolding border_codes
      both_noted v = (writes_then w v).appended
