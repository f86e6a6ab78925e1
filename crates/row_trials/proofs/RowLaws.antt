-- A row of offsets by words: the bits that are left, and what they say. Assumes nothing.
use Prim.Native.Nat.{ℕ, zero, suc, ◌+◌, ◌-◌, ◌/◌, ◌%◌, ◌^◌, ◌<◌, ◌≤◌}
use mathlib.Core.Path.{◌≡◌, sym, ap, ap₂, ◌∙◌}
use mathlib.Core.Logic.{⊎_elim}
use mathlib.Core.Bool.{Bool, true, false, not, true≢false}
use mathlib.Core.List.{List, [], ◌∷◌}
use native.Mathlib.Omega.{arith}
use native.Mathlib.Nat.{two-pow-succ}
use borrow.Author.Tests.{le-leb, lt-ltb, eqb-true, eqb-false, ltb-true, not-true}
use lib.Bits.{bit_and, bit_or}
use lib.Dec.{eqb, leb, ltb}
use Rattle.lists.specs.Choice.{both, either, when}
use Rattle.lists.specs.Lists.{In, all, any, range, gather}
use Rattle.lists.proofs.Cases.{true_or_false}
use Rattle.lists.proofs.ChoiceLaws.{both_true, same_truth}
use Rattle.lists.proofs.ListLaws.{any_true, true_any, range_in, in_range, in_append, in_gather, in_when}
use Rattle.grid.specs.declared.Grid.{Grid}
use Rattle.grid.specs.Grid.{Cell}
use Rattle.groups.proofs.GroupLaws.{in_cells}
use Rattle.images.specs.declared.Image.{Image}
use Rattle.images.specs.Images.{direction_in}
use Rattle.shape.specs.Shape.{head_or0}
use Rattle.offsets.specs.declared.table.CellInfo.{CellInfo}
use Rattle.offsets.specs.Table.{unit_in, units_in}
use Rattle.offsets.specs.Trial.{Placed}
use Rattle.offsets.specs.Landings.{kept_of, directions_of}
use Rattle.words.specs.Words.{bit, reads, Readable}
use Rattle.words.proofs.WordLaws.{bit_and_lem, bit_or_lem, bit_zero, within, left_out}
use Rattle.unit_codes.specs.Codes.{cell_code, border_code, codes_at, cell_codes, border_codes}
use Rattle.unit_codes.specs.declared.turned.Rows.{Rows}
use Rattle.unit_codes.specs.Spans.{image_row}
use Rattle.unit_codes.proofs.CodeLaws.{side_low}
use Rattle.unit_codes.proofs.SpanLaws.{has_in}
use Rattle.row_trials.specs.Coded.{CodedUnit}
use Rattle.row_trials.specs.Rows.{good_at, row_good, left_at, Found, NearRows}
use Rattle.row_trials.proofs.LandLaws.{cell_code_row, border_code_row}
use Rattle.row_trials.proofs.GoodLaws.{good_codes}

below_pow : (n : ℕ) → n < 2 ^ n
below_pow zero = omega arith
below_pow (suc n) = let h = below_pow n in omega (arith, two-pow-succ n)

-- THE BITS THAT ARE LEFT

module _ (on met : ℕ) (near inside words codes borders : List ℕ) (t : ℕ) (met_is : (x : ℕ) → bit met x ≡ any (reads near t x) codes) where
  abbrev test : ℕ → Bool
  test = left_at on near inside words codes borders t

  abbrev good : ℕ
  good = bit_and on met

  good_bit : (x : ℕ) → bit good x ≡ both (bit on x) (any (reads near t x) codes)
  good_bit x = bit_and_lem on met x ∙ ap (both (bit on x)) (met_is x)

  -- no bit at all
  pub none_left : good ≡ 0 → Found test false
  none_left e =
      record {
        some = λ q. absurd (true≢false (sym q));
        any = λ x q.
            absurd (true≢false (sym (both_true (both (bit on x) (any (reads near t x) codes)) _ q).0 ∙ sym (good_bit x) ∙ ap (λ (n : ℕ). bit n x) e ∙ bit_zero x));
      }

  module _ (over worse : ℕ) (over-is : (x : ℕ) → bit over x ≡ any (reads inside t x) codes) (worse-is : (x : ℕ) → bit worse x ≡ any (reads words t x) borders) where
    abbrev bad : ℕ
    bad = bit_or over worse

    left_is : (x : ℕ) → test x ≡ both (bit good x) (not (bit bad x))
    left_is x = sym (ap₂ (λ a b. both a (not b)) (good_bit x) (bit_or_lem over worse x ∙ ap₂ either (over-is x) (worse-is x)))

    -- a good bit that is not bad
    pub some_left : Found test (not (eqb (bit_and good bad) good))
    some_left =
        record {
          some = λ q.
              let l = left_out good good bad (below_pow good) (eqb-false (bit_and good bad) good (not-true (eqb (bit_and good bad) good) q)) in
              (l.place, left_is l.place ∙ ap₂ (λ a b. both a (not b)) l.has l.lacks);
          any = λ x q.
              let b = both_true (bit good x) (not (bit bad x)) (sym (left_is x) ∙ q) in
              ⊎_elim
              (λ (e : eqb (bit_and good bad) good ≡ true). absurd (true≢false (sym (within good bad x (eqb-true (bit_and good bad) good e) b.0) ∙ not-true (bit bad x) b.1)))
              (λ (e : eqb (bit_and good bad) good ≡ false). ap not e)
              (true_or_false (eqb (bit_and good bad) good));
        }

-- A ROW OF OFFSETS

module _ {m : Image} {g : Grid} {states : List ℕ} {table : List CellInfo} {marks cs : List ℕ} {rows : Rows} (p : Placed g states table marks cs)
    {codes borders : List ℕ} {full : ℕ} {words inside : List ℕ} {on : ℕ} (k : CodedUnit m g states table cs rows codes borders full words inside on)
    {near : List ℕ} {t : ℕ} (n : NearRows g states table cs t rows.tall near) where
  abbrev f : ℕ
  f = rows.top

  abbrev unit : ℕ
  unit = unit_in table (head_or0 cs)

  on_board_lem : (c : ℕ) → In c cs → Cell g c
  on_board_lem c i = (in_cells g (units_in g table) unit c (rw p.cells_are at i)).0

  first_in : In f cs
  first_in = has_in cs f k.span.top_in

  first_cell : Cell g f
  first_cell = on_board_lem f first_in

  -- the rows on which the cells fall
  fit : (c : ℕ) → In c cs → (image_row m g f ≤ image_row m g c) × (image_row m g c - image_row m g f + t < g.height)
  fit c i = ((k.span.within c i).0, omega (arith, (k.span.within c i).0, (k.span.within c i).1, n.high))

  small_row : t ≤ 1024
  small_row = omega (arith, n.high, p.limits.height_fits)

  cell_codes_lem : (e : ℕ) → In e codes → e / 64 + t < g.height
  unfolding cell_codes
  cell_codes_lem e i =
      let o = in_gather (λ c. cell_code m g f c ∷ []) cs e (rw k.cells_are at i) in
      let c = o.0 in
      let r = cell_code_row m g p.limits f c first_cell (on_board_lem c o.1) in
      one o.2 (let q : cell_code m g f c / 64 + t < g.height = omega (arith, r, (fit c o.1).1) in q)
    where
      one : {a b : ℕ} → In a (b ∷ []) → b / 64 + t < g.height → a / 64 + t < g.height
      one i h = ⊎_elim (λ q. rw q h) (λ q. absurd q) i

  pub reads_near : Readable near codes t
  reads_near = record { small = small_row; within = λ e i. omega (arith, cell_codes_lem e i, n.long) }

  pub reads_inside : Readable inside codes t
  reads_inside = record { small = small_row; within = λ e i. omega (arith, cell_codes_lem e i, k.inside_is.long) }

  border_codes_lem : (inner : Bool) (e : ℕ) → In e (gather (codes_at m g states (units_in g table) unit f inner) cs) → e / 64 + t < 132
  unfolding codes_at
  border_codes_lem inner e i =
      let o = in_gather (codes_at m g states (units_in g table) unit f inner) cs e i in
      let c = o.0 in
      let q = in_gather (λ d. when (kept_of g states (units_in g table) inner unit c d) (border_code m g f inner c (direction_in m d))) (directions_of inner) e o.2 in
      let d = q.0 in
      let w = in_when (kept_of g states (units_in g table) inner unit c d) (border_code m g f inner c (direction_in m d)) e q.2 in
      let r = border_code_row m g p.limits f c first_cell (on_board_lem c o.1) inner (direction_in m d) in
      let j : border_code m g f inner c (direction_in m d) / 64 + t < 132 = omega (arith, r, side_low inner (direction_in m d), (fit c o.1).1, p.limits.height_fits) in
      rw w.1 j

  pub reads_words : Readable words borders t
  unfolding border_codes
  reads_words =
      let of = codes_at m g states (units_in g table) unit f in
      record {
        small = small_row;
        within = λ e i.
            ⊎_elim (λ (q : In e (gather (of true) cs)). omega (arith, border_codes_lem true e q, k.words_are.long))
            (λ (q : In e (gather (of false) cs)). omega (arith, border_codes_lem false e q, k.words_are.long))
            (in_append e (gather (of true) cs) (gather (of false) cs) (rw k.borders_are at i));
      }

  abbrev left : ℕ → Bool
  left = left_at on near inside words codes borders t

  -- a bit that is left is one of the row's columns
  column : (x : ℕ) → left x ≡ true → x < g.width
  column x q =
      let a = (both_true (both (bit on x) (any (reads near t x) codes)) _ q).0 in
      let b = (both_true (bit on x) (any (reads near t x) codes) a).0 in
      let c = (both_true (bit full (x + 32)) (all (λ e. bit full (x + e % 64)) (cell_codes m g f cs)) (sym (k.on_is x) ∙ b)).0 in
      let d = (both_true (leb 32 (x + 32)) (ltb (x + 32) (32 + g.width)) (sym (k.whole (x + 32)) ∙ c)).1 in
      let l = ltb-true (x + 32) (32 + g.width) d in
      omega arith

  good_left : (x : ℕ) → x < g.width → good_at m g states table cs f t x ≡ left x
  good_left x h =
      good_codes m p f first_in full k.whole words near inside k.words_are k.inside_is t x h fit
      (λ c i. n.says (image_row m g c - image_row m g f + t) (omega arith) (omega (arith, (k.span.within c i).0, (k.span.within c i).1)))
      ∙ same_words
    where
      in_row : bit full (x + 32) ≡ true
      in_row = k.whole (x + 32) ∙ rw (le-leb 32 (x + 32) (omega arith), lt-ltb (x + 32) (32 + g.width) (omega arith))

      same_words : both (both (all (λ e. bit full (x + e % 64)) (cell_codes m g f cs)) (any (reads near t x) (cell_codes m g f cs))) (not (either (any (reads inside t x) (cell_codes m g f cs)) (any (reads words t x) (border_codes m g states table f cs)))) ≡ left x
      same_words =
          rw (k.cells_are, k.borders_are, k.on_is x, in_row)

  pub row_is : {r : Bool} → Found left r → r ≡ row_good m g states table cs f t
  unfolding row_good
  row_is {r} o = same_truth r (any (good_at m g states table cs f t) (range g.width)) to from
    where
      to : r ≡ true → any (good_at m g states table cs f t) (range g.width) ≡ true
      to q =
          let x = o.some q in
          let l = column x.0 x.1 in
          true_any (good_at m g states table cs f t) (range g.width) x.0 (range_in g.width x.0 l) (good_left x.0 l ∙ x.1)

      from : any (good_at m g states table cs f t) (range g.width) ≡ true → r ≡ true
      from q =
          let x = any_true (good_at m g states table cs f t) (range g.width) q in
          o.any x.0 (sym (good_left x.0 (in_range g.width x.0 x.1)) ∙ x.2)
