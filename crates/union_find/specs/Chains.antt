-- Chains of parents (SPEC 1.9 and 4.13). A list holds each vertex' parent at the vertex' place. Assumes nothing.
use Rattle.std.specs.Prelude.{ℕ, zero, suc, Bool, not, List, eqb, ltb, get_or, set}
use Rattle.lists.specs.Choice.{pick}
use Rattle.lists.specs.Lists.{range, all}

abbrev pub up : List ℕ → ℕ → ℕ
up p x = get_or p x 0

-- the vertex d steps above x, from parent to parent
unfoldable pub climb : ℕ → List ℕ → ℕ → ℕ
climb zero p x = x
climb (suc d) p x = climb d p (up p x)

-- a root is its own parent
abbrev pub is_root : List ℕ → ℕ → Bool
is_root p x = eqb (up p x) x

-- the parents exist (SPEC 3.2): each of the n vertices' parents is one of them
unfoldable pub parents_exist : ℕ → List ℕ → Bool
parents_exist n p = all (λ x. ltb (up p x) n) (range n)

-- every chain ends (SPEC 3.2): n steps up from each of the n vertices lead to a root
unfoldable pub chains_end : ℕ → List ℕ → Bool
chains_end n p = all (λ x. is_root p (climb n p x)) (range n)

-- the chain is shortened (SPEC 4.13): x and the vertices above it, d in all, name the vertex d steps above x
unfoldable pub shortened : ℕ → List ℕ → ℕ → List ℕ
shortened zero p x = p
shortened (suc d) p x = set (shortened d p (up p x)) x (climb (suc d) p x)

-- unite finds x's root, then y's (SPEC 4.13): y's chain is followed once x's is shortened
abbrev pub root_one : ℕ → List ℕ → ℕ → ℕ
root_one n p x = climb n p x

abbrev pub root_other : ℕ → List ℕ → ℕ → ℕ → ℕ
root_other n p x y = climb n (shortened n p x) y

abbrev pub both_shortened : ℕ → List ℕ → ℕ → ℕ → List ℕ
both_shortened n p x y = shortened n (shortened n p x) y

-- whether unite joins two parts: the roots differ
unfoldable pub united : ℕ → List ℕ → ℕ → ℕ → Bool
united n p x y = not (eqb (root_one n p x) (root_other n p x y))

-- x's root hangs under y's (SPEC 4.13)
unfoldable pub hung : ℕ → List ℕ → ℕ → ℕ → List ℕ
hung n p x y = pick (united n p x y) (set (both_shortened n p x y) (root_one n p x) (root_other n p x y)) (both_shortened n p x y)
