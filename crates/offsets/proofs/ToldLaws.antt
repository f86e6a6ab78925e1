-- What an answer by std's `Option` says of ours. Assumes nothing.
use mathlib.Core.Path.{◌≡◌, refl, sym, ◌∙◌}
use mathlib.Core.Option.{Option, none, some}
use native.Mathlib.Omega.{arith}
use Prim.Native.Nat.{ℕ}
use Rattle.std.specs.Prelude as std
use Rattle.lists.specs.Choice.{or_else}
use Rattle.offsets.specs.Told.{told}

pub told_some : {A : Type 0} (o : Option A) (x : A) → told o ≡ std.Some x → o ≡ some x
told_some none x q = absurd (let z : ◌≡◌ {A = ℕ} 0 1 = cc in omega arith)
told_some (some y) x q = cc

pub told_none : {A : Type 0} (o : Option A) → told o ≡ std.None → o ≡ none
told_none none q = refl
told_none (some y) q = absurd (let z : ◌≡◌ {A = ℕ} 0 1 = cc in omega arith)

-- of two answers the first, or else the other; the last one has none behind it
module _ {A : Type 0} (o : Option A) {r : std.Option A} where
  pub told_hit : (rest : Option A) {x : A} → r ≡ told o → r ≡ std.Some x → std.Some x ≡ told (or_else o rest)
  unfolding or_else
  told_hit rest {x} e k = rw (told_some o x (sym e ∙ k))

  pub told_later : (rest : Option A) {q : std.Option A} → r ≡ told o → r ≡ std.None → q ≡ told rest → q ≡ told (or_else o rest)
  unfolding or_else
  told_later rest e k t = rw (told_none o (sym e ∙ k)) t

pub told_last : {A : Type 0} (o : Option A) {r : std.Option A} → r ≡ told o → r ≡ told (or_else o none)
unfolding or_else
told_last none e = e
told_last (some x) e = e
