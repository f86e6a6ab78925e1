-- The first border that lands badly, taken one direction or one cell at a time. Assumes nothing.
use Prim.Native.Nat.{ℕ, ◌+◌, ◌≤◌, ◌<◌}
use mathlib.Core.Path.{◌≡◌, refl, ap, sym, ◌∙◌}
use mathlib.Core.List.{List}
use mathlib.Core.Option.{Option}
use lib.ListN.{get_or, length, drop}
use Rattle.std.specs.Prelude as std
use Rattle.lists.specs.Choice.{or_else}
use Rattle.lists.specs.Lists.{first}
use Rattle.lists.proofs.ListLaws.{first_turn, first_end}
use Rattle.offsets.specs.Told.{told}
use Rattle.offsets.proofs.ToldLaws.{told_some, told_none}

module _ {A : Type 0} (f : A → Option ℕ) (xs : List A) where
  -- the first i of them have nothing
  pub record Missed (i : ℕ) : Type 0 where
    pub rest : first f (drop i xs) ≡ first f xs

  pub missed_none : Missed 0
  missed_none = record { rest = refl }

  pub missed_all : {i : ℕ} → Missed i → length xs ≤ i → std.None ≡ told (first f xs)
  missed_all {i} m h = ap told (sym (first_end f xs i h) ∙ m.rest)

  module _ {i : ℕ} (m : Missed i) (h : i < length xs) (d : A) {r : std.Option ℕ} (answer : r ≡ told (f (get_or xs i d))) where
    next : or_else (f (get_or xs i d)) (first f (drop (i + 1) xs)) ≡ first f xs
    next = sym (first_turn f xs i d h) ∙ m.rest

    pub missed_hit : {e : ℕ} → r ≡ std.Some e → std.Some e ≡ told (first f xs)
    unfolding or_else
    missed_hit {e} k = ap told (rw (told_some (f (get_or xs i d)) e (sym answer ∙ k)) at next)

    pub missed_more : r ≡ std.None → Missed (i + 1)
    unfolding or_else
    missed_more k = record { rest = rw (told_none (f (get_or xs i d)) (sym answer ∙ k)) at next }
