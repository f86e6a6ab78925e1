-- A puzzle with given walls and a clued room, a full board that is right for it, and full boards that are not: the laws (SPEC 2) say something both ways.
-- 2 by 2, borders 2 and 3 given: a room above and a room below, and the one below is to hold one unit. Assumes nothing.
use Prim.Native.Nat.{ℕ, zero, suc}
use mathlib.Core.Path.{◌≡◌, refl, sym}
use mathlib.Core.Logic.{inl, inr}
use mathlib.Core.Bool.{true≢false}
use mathlib.Core.List.{List, [], ◌∷◌}
use mathlib.Core.Option.{some-ne-none}
use native.Mathlib.Omega.{arith}
use borrow.Author.Tests.{ne_eqb}
use lib.Dec.{lit≤}
use Rattle.limits.specs.Limits.{no_clue}
use Rattle.grid.specs.declared.Grid.{Grid}
use Rattle.grid.specs.Grid.{grid}
use Rattle.borders.specs.Border.{state_of}
use Rattle.images.specs.Images.{translates}
use Rattle.shape.specs.Laws.{FullBoard}
use Rattle.rooms.specs.Rooms.{is_given, room_ids, room_count}
use Rattle.rooms.specs.Units.{GivenWalls}
use Rattle.groups.specs.Groups.{cells_in}
use Rattle.puzzle.specs.declared.Check.TheVariants.{Room}
use Rattle.puzzle.specs.Fault.{fault_of}
use Rattle.demand_3.specs.Laws.{RightBoard}
use Rattle.demand_3.proofs.FaultLaws.{Small, fault_full}

abbrev size : Grid
size = grid 2 2

abbrev given : List ℕ
given = 2 ∷ 3 ∷ []

abbrev clues : List ℕ
clues = no_clue ∷ 1 ∷ []

-- the clue is no more than the room's two cells
small : Small size given clues
unfolding room_ids room_count cells_in
small zero l c = absurd (true≢false (sym c))
small (suc zero) l c = lit≤ tt
small (suc (suc r)) l c = absurd (omega arith)

-- a board on which both given walls are Wall has the given walls
walls : (states : List ℕ) → state_of states 2 ≡ 2 → state_of states 3 ≡ 2 → GivenWalls given (state_of states)
unfolding is_given
walls states a b zero q = absurd (true≢false (sym q))
walls states a b (suc zero) q = absurd (true≢false (sym q))
walls states a b (suc (suc zero)) q = a
walls states a b (suc (suc (suc zero))) q = b
walls states a b (suc (suc (suc (suc e)))) q = absurd (true≢false (sym (rw (ne_eqb (suc (suc (suc (suc e)))) 2 (λ k. omega arith), ne_eqb (suc (suc (suc (suc e)))) 3 (λ k. omega arith)) at q)))

-- RIGHT: one domino in each room
dominoes : FullBoard size (state_of (1 ∷ 1 ∷ 2 ∷ 2 ∷ []))
dominoes zero l = inl refl
dominoes (suc zero) l = inl refl
dominoes (suc (suc zero)) l = inr refl
dominoes (suc (suc (suc zero))) l = inr refl
dominoes (suc (suc (suc (suc e)))) l = absurd (omega arith)

dominoes_right : RightBoard translates size given clues (state_of (1 ∷ 1 ∷ 2 ∷ 2 ∷ []))
unfolding fault_of
dominoes_right = (fault_full translates size given clues small (1 ∷ 1 ∷ 2 ∷ 2 ∷ []) dominoes (walls (1 ∷ 1 ∷ 2 ∷ 2 ∷ []) refl refl)).0 refl

-- WRONG: single cells, which have partners, but the room below holds two
singles : FullBoard size (state_of (2 ∷ 2 ∷ 2 ∷ 2 ∷ []))
singles zero l = inr refl
singles (suc zero) l = inr refl
singles (suc (suc zero)) l = inr refl
singles (suc (suc (suc zero))) l = inr refl
singles (suc (suc (suc (suc e)))) l = absurd (omega arith)

singles_wrong : RightBoard translates size given clues (state_of (2 ∷ 2 ∷ 2 ∷ 2 ∷ [])) → ⊥
unfolding fault_of
singles_wrong r =
    some-ne-none (record { check = Room 1; list = 3 ∷ [] }) ((fault_full translates size given clues small (2 ∷ 2 ∷ 2 ∷ 2 ∷ []) singles (walls (2 ∷ 2 ∷ 2 ∷ 2 ∷ []) refl refl)).1 r)

-- WRONG: dominoes that stand upright, over the given walls
upright_wrong : RightBoard translates size given clues (state_of (2 ∷ 2 ∷ 1 ∷ 1 ∷ [])) → ⊥
unfolding is_given
upright_wrong r =
    let q : ◌≡◌ {A = ℕ} 1 2 = r.given_walls 2 refl in absurd (omega arith)
