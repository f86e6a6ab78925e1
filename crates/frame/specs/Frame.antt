-- Units, potential units and the laws of a full board, over any neighbour relation. Cells and borders are numbers; `Nb a b e` says that
-- border e lies between the cells a and b. A border is undecided (0), Connected (1) or Wall (2). Assumes nothing.
use Rattle.std.specs.Prelude.{ℕ, ◌≡◌, ◌⊎◌, ◌≢◌}

-- what border lies between which cells
abbrev pub Relation : Type 1
Relation = ℕ → ℕ → ℕ → Type 0

abbrev pub States : Type 0
States = ℕ → ℕ

-- a border lies between two cells, whichever is named first
abbrev pub Symmetric : Relation → Type 0
Symmetric Nb = (a b e : ℕ) → Nb a b e → Nb b a e

-- steps that R allows, one after the other
pub data Chain (R : ℕ → ℕ → Type 0) : ℕ → ℕ → Type 0 where
  here : {c : ℕ} → Chain R c c
  on : {a b c : ℕ} → Chain R a b → R b c → Chain R a c

-- a and b are neighbours over a border of which Q holds
abbrev pub Link : Relation → (ℕ → Type 0) → ℕ → ℕ → Type 0
Link Nb Q a b = (e : ℕ) × Nb a b e × Q e

-- a and b are in one unit (SPEC 2.2)
abbrev pub SameUnit : Relation → States → ℕ → ℕ → Type 0
SameUnit Nb s = Chain (Link Nb (λ e. s e ≡ 1))

-- a and b are in one potential unit (SPEC 4.1)
abbrev pub SamePotential : Relation → States → ℕ → ℕ → Type 0
SamePotential Nb s = Chain (Link Nb (λ e. s e ≢ 2))

-- a Wall parts the potential units of a and b
pub record Parted (Nb : Relation) (s : States) (a b : ℕ) : Type 0 where
  pub near : ℕ
  pub far : ℕ
  pub wall : ℕ
  pub near_in : SamePotential Nb s a near
  pub between : Nb near far wall
  pub is_wall : s wall ≡ 2
  pub far_in : SamePotential Nb s far b

-- the potential units of a and b are adjacent (SPEC 4.7)
abbrev pub Adjacent : Relation → States → ℕ → ℕ → Type 0
Adjacent Nb s a b = SamePotential Nb s a b ⊎ Parted Nb s a b

-- LAWS OF A FULL BOARD
-- no border is undecided (SPEC 2.1)
abbrev pub Full : Relation → States → Type 0
Full Nb s = (a b e : ℕ) → Nb a b e → (s e ≡ 1) ⊎ (s e ≡ 2)

-- the second law (SPEC 2.4)
abbrev pub NoInnerWall : Relation → States → Type 0
NoInnerWall Nb s = (a b e : ℕ) → Nb a b e → s e ≡ 2 → SameUnit Nb s a b → ⊥

-- The third law (SPEC 2.5) for the unit of f: that of t is a different unit, T puts f's on it cell by cell, and the two share a Wall. `T a x`: T puts a on x.
pub record Partner (Nb : Relation) (s : States) (T : ℕ → ℕ → Type 0) (f t : ℕ) : Type 0 where
  pub onto : (a : ℕ) → SameUnit Nb s f a → (x : ℕ) × T a x × SameUnit Nb s t x
  pub from : (x : ℕ) → SameUnit Nb s t x → (a : ℕ) × T a x × SameUnit Nb s f a
  pub different : SameUnit Nb s f t → ⊥
  pub shares : (a : ℕ) × (x : ℕ) × (e : ℕ) × SameUnit Nb s f a × SameUnit Nb s t x × Nb a x e × (s e ≡ 2)
