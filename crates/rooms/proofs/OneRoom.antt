-- Without given walls a board is one room: its cells are all joined. Assumes nothing.
use Prim.Native.Nat.{ℕ, zero, suc, ◌-◌, ◌*◌, ◌≤◌, ◌<◌}
use mathlib.Core.Path.{◌≡◌, refl, ap, sym, ◌∙◌}
use mathlib.Core.Logic.{inl, inr, ⊎_elim}
use mathlib.Core.Bool.{Bool, true, not}
use mathlib.Core.List.{List, [], ◌∷◌}
use native.Mathlib.Omega.{arith}
use native.Mathlib.Nat.{div-add-mod', mul-le-mul}
use borrow.Author.Tests.{eq-eqb, le-leb}
use lib.Dec.{eqb}
use lib.ListN.{length, get_or, set, replicate, length-replicate, get_or-replicate}
use lib.Seq.{sets, ext_get_or}
use Rattle.lists.specs.Choice.{when}
use Rattle.lists.specs.Lists.{In, any, count_from, range, keep}
use Rattle.lists.proofs.Cases.{le_or_lt}
use Rattle.lists.proofs.ListLaws.{in_range, range_length}
use Rattle.frame.specs.Frame.{Chain, here, on}
use Rattle.grid.specs.declared.Direction.{Direction}
use Rattle.grid.specs.declared.Direction.TheVariants.{Up, Left}
use Rattle.grid.specs.declared.Grid.{Grid}
use Rattle.grid.specs.Grid.{Limits, cells, Cell, row, col, goes_on, next, border}
use Rattle.grid.proofs.Geometry.{goes_step, step_back}
use Rattle.parts.proofs.PartLists.{parts_length}
use Rattle.groups.specs.Groups.{cells_in}
use Rattle.groups.specs.Turn.{sizes_of}
use Rattle.groups.proofs.GroupLaws.{Passing}
use Rattle.rooms.specs.Rooms.{is_given, room_edges, room_ids, room_count}
use Rattle.rooms.specs.Lent.{Roomed}
use Rattle.rooms.proofs.RoomLaws.{room_labels}

keep_all : (p : ℕ → Bool) (xs : List ℕ) → ((x : ℕ) → In x xs → p x ≡ true) → keep p xs ≡ xs
unfolding keep when
keep_all p [] h = refl
keep_all p (x ∷ xs) h = rw (h x (inl refl)) (ap (λ l. x ∷ l) (keep_all p xs (λ y m. h y (inr m))))

module _ (g : Grid) (limits : Limits g) where
  abbrev J : ℕ → ℕ → Type 0
  J = Chain (Passing g (λ e. not (is_given [] e)))

  -- a cell and the one left of it, or above
  back_joined : (d : Direction) (c : ℕ) → Cell g c → goes_on g d c ≡ true → J 0 (next g d c) → J 0 c
  unfolding is_given any
  back_joined d c l q j = on j (border g d c, (_, step_back g d c (next g d c) (border g d c) (goes_step g d c l q)), refl)

  -- each cell is joined to the first
  joined : (n c : ℕ) → c ≤ n → Cell g c → J 0 c
  unfolding goes_on next
  joined zero c h l = let q : c ≡ 0 = omega arith in rw q here
  joined (suc n) c h l =
      let w = limits.wide in
      ⊎_elim
      (λ (k : 1 ≤ col g c). back_joined Left c l (le-leb 1 (col g c) k) (joined n (c - 1) (omega arith) (omega arith)))
      (λ (k : col g c < 1).
      ⊎_elim
      (λ (j : 1 ≤ row g c). back_joined Up c l (le-leb 1 (row g c) j) (joined n (c - g.width) (omega arith) (omega arith)))
      (λ (j : row g c < 1). let z : row g c ≡ 0 = omega arith in let q : c ≡ 0 = omega (arith, div-add-mod' c g.width, ap (λ r. r * g.width) z) in rw q here)
      (le_or_lt 1 (row g c)))
      (le_or_lt 1 (col g c))

  pub first_cell : Cell g 0
  first_cell = omega (arith, mul-le-mul limits.tall limits.wide)

  all_alike : (c : ℕ) → Cell g c → get_or (room_ids g []) 0 0 ≡ get_or (room_ids g []) c 0
  all_alike c l = (room_labels g []).alike 0 c first_cell l (joined c c (omega arith) l)

  zero_first : get_or (room_ids g []) 0 0 ≡ 0
  zero_first =
      let o = (room_labels g []).used 0 (omega (arith, (room_labels g []).small 0 first_cell)) in all_alike o.0 o.1 ∙ o.2

  room_zero : (c : ℕ) → Cell g c → get_or (room_ids g []) c 0 ≡ 0
  room_zero c l = sym (all_alike c l) ∙ zero_first

  pub one_room : room_count g [] ≡ 1
  one_room =
      ⊎_elim
      (λ (h : room_count g [] ≤ 1). omega (arith, (room_labels g []).small 0 first_cell))
      (λ (h : 1 < room_count g []). let o = (room_labels g []).used 1 h in absurd (omega (arith, o.2, room_zero o.0 o.1)))
      (le_or_lt (room_count g []) 1)

  every_cell : cells_in (cells g) (room_ids g []) 0 ≡ range (cells g)
  unfolding cells_in
  every_cell = keep_all (λ c. eqb (get_or (room_ids g []) c 0) 0) (range (cells g)) (λ c m. eq-eqb _ 0 (room_zero c (in_range (cells g) c m)))

  ids_zero : room_ids g [] ≡ replicate (cells g) 0
  ids_zero =
      let n : length (room_ids g []) ≡ cells g = (unfold room_ids in parts_length (cells g) (room_edges g [])) in
      ext_get_or 0 (room_ids g []) (replicate (cells g) 0) (n ∙ sym (length-replicate (cells g) 0))
      (λ c h. let l : Cell g c = omega arith in room_zero c l ∙ sym (get_or-replicate (cells g) c 0 0 l))

  one_size : sizes_of (cells g) (room_ids g []) 1 ≡ cells g ∷ []
  unfolding sizes_of range count_from
  one_size = ap (λ (n : ℕ). n ∷ []) (ap length every_cell ∙ range_length (cells g))

  -- THE LAW
  pub one_roomed : (given ids sizes ids' : List ℕ) → length given ≡ 0 → ids' ≡ sets ids 0 (replicate (cells g) 0) → Roomed g given ids sizes ids' (set sizes 0 (cells g)) 1
  one_roomed [] ids sizes ids' z q = record { count_is = sym one_room; ids_are = rw ids_zero q; sizes_are = rw (one_room, one_size) }
  one_roomed (x ∷ given) ids sizes ids' z q = absurd (omega arith)
