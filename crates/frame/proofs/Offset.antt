-- Where a unit may be put, and what a list of borders says of it. `T a x` says that the offset puts cell a on cell x; f is a cell of the unit. Assumes nothing.
use Prim.Native.Nat.{ℕ}
use mathlib.Core.Path.{◌≡◌}
use mathlib.Core.Logic.{◌⊎◌, ◌≢◌}
use Rattle.frame.specs.Frame.{Relation, States, SameUnit, SamePotential, Adjacent}

-- All that is used of an offset: it puts a cell on one cell at most, neighbours on neighbours, and nothing else on neighbours.
pub record Placement (Nb : Relation) (T : ℕ → ℕ → Type 0) : Type 0 where
  pub one : (a x y : ℕ) → T a x → T a y → x ≡ y
  pub keeps : (a b x y e : ℕ) → T a x → T b y → Nb a b e → (e' : ℕ) × Nb x y e'
  pub comes : (a b x y e : ℕ) → T a x → T b y → Nb x y e → (e' : ℕ) × Nb a b e'

-- An offset that is not passed over (SPEC 4.8): each cell falls on the board and off the unit, and some cell in a potential unit adjacent to the unit's own.
pub record Tried (Nb : Relation) (s : States) (f : ℕ) (T : ℕ → ℕ → Type 0) : Type 0 where
  pub falls : (a : ℕ) → SameUnit Nb s f a → (x : ℕ) × T a x × (SameUnit Nb s f x → ⊥)
  pub meets : (a : ℕ) × (x : ℕ) × SameUnit Nb s f a × T a x × Adjacent Nb s f x

-- A good offset (SPEC 4.9): no inner border lands on a Wall, and no Wall or edge of the board on a Connected border.
pub record Good (Nb : Relation) (s : States) (f : ℕ) (T : ℕ → ℕ → Type 0) : Type 0 where
  pub tried : Tried Nb s f T
  pub joins : (a b x y e e' : ℕ) → SameUnit Nb s f a → SameUnit Nb s f b → Nb a b e → T a x → T b y → Nb x y e' → s e' ≢ 2
  pub parts : (a x y e' : ℕ) → SameUnit Nb s f a → T a x → Nb x y e' → s e' ≡ 1 → (b : ℕ) × (e : ℕ) × T b y × Nb a b e × (s e ≢ 2)

-- An inner border of the unit, on the board s, lands on e', a Wall of the board S.
pub record OnWall (Nb : Relation) (s S : States) (f : ℕ) (T : ℕ → ℕ → Type 0) : Type 0 where
  pub a : ℕ
  pub b : ℕ
  pub x : ℕ
  pub y : ℕ
  pub e : ℕ
  pub e' : ℕ
  pub in_a : SameUnit Nb s f a
  pub in_b : SameUnit Nb s f b
  pub inner : Nb a b e
  pub puts_a : T a x
  pub puts_b : T b y
  pub lands : Nb x y e'
  pub is_wall : S e' ≡ 2

-- A Wall or board edge of the unit, on the board s, lands on e', a Connected border of the board S: if it is a border, it is a Wall.
pub record OnConnected (Nb : Relation) (s S : States) (f : ℕ) (T : ℕ → ℕ → Type 0) : Type 0 where
  pub a : ℕ
  pub x : ℕ
  pub y : ℕ
  pub e' : ℕ
  pub in_a : SameUnit Nb s f a
  pub puts_a : T a x
  pub shut : (b e : ℕ) → T b y → Nb a b e → s e ≡ 2
  pub lands : Nb x y e'
  pub is_connected : S e' ≡ 1

abbrev pub Fails : Relation → States → States → ℕ → (ℕ → ℕ → Type 0) → Type 0
Fails Nb s S f T = OnWall Nb s S f T ⊎ OnConnected Nb s S f T

-- What the boundary lists of a unit on the board s say of each board S on which they stand: the unit's Connected borders and its
-- Walls stand there, and so do the Walls that part its potential unit, and each adjacent one, from another.
pub record Reason (Nb : Relation) (s S : States) (f : ℕ) : Type 0 where
  pub joins : (a b e : ℕ) → SameUnit Nb s f a → Nb a b e → s e ≡ 1 → S e ≡ 1
  pub walls : (a b e : ℕ) → SameUnit Nb s f a → Nb a b e → s e ≡ 2 → S e ≡ 2
  pub bounds : (g a b e : ℕ) → Adjacent Nb s f g → SamePotential Nb s g a → Nb a b e → s e ≡ 2 → SamePotential Nb s g b ⊎ (S e ≡ 2)
