-- What a stage finds, taken apart, and the first of several stages that finds a fault. Assumes nothing.
use Prim.Native.Nat.{ℕ, ◌+◌, ◌≤◌, ◌<◌}
use mathlib.Core.Path.{◌≡◌, refl, ap, sym, ◌∙◌}
use mathlib.Core.List.{List}
use mathlib.Core.Option.{Option, none, some}
use native.Mathlib.Omega.{arith}
use lib.ListN.{length, get_or, drop}
use lib.Seq.{length-sets}
use Rattle.std.specs.Prelude as std
use Rattle.lists.specs.Choice.{or_else}
use Rattle.lists.specs.Lists.{range, first}
use Rattle.lists.proofs.ListLaws.{range_length, range_at, first_turn, first_end}
use Rattle.answers.specs.Answers.{Finds}

pub finds_none : {o : Option (List ℕ)} {b : List ℕ} → o ≡ none → Finds o b b std.None
finds_none {b = b} q = record { answer = rw q; stored = rw q }

module _ {b b' : List ℕ} {r : std.Option ℕ} where
  pub finds_long : (o : Option (List ℕ)) → Finds o b b' r → length b' ≡ length b
  finds_long none t = ap length t.stored
  finds_long (some L) t = ap length t.stored ∙ length-sets b 0 L

  no_fault : {n : ℕ} → Finds none b b' r → r ≡ std.Some n → ⊥
  no_fault {n} t e = let q : std.None ≡ std.Some n = sym t.answer ∙ e in let z : ◌≡◌ {A = ℕ} 0 1 = cc in omega arith

  -- nothing: the buffer is as it was
  pub finds_nothing : (o : Option (List ℕ)) → Finds o b b' r → r ≡ std.None → (o ≡ none) × (b' ≡ b)
  finds_nothing none t e = (refl, t.stored)
  finds_nothing (some L) t e = absurd (let q : std.Some (length L) ≡ std.None = sym t.answer ∙ e in let z : ◌≡◌ {A = ℕ} 0 1 = cc in omega arith)

  -- one stage before another
  pub first_finds : (p q : Option (List ℕ)) {n : ℕ} → Finds p b b' r → r ≡ std.Some n → Finds (or_else p q) b b' (std.Some n)
  unfolding or_else
  first_finds none q t e = absurd (no_fault t e)
  first_finds (some L) q t e = record { answer = sym e ∙ t.answer; stored = t.stored }

  pub next_finds : {p q : Option (List ℕ)} {b'' : List ℕ} {r' : std.Option ℕ} → Finds p b b' r → r ≡ std.None → Finds q b' b'' r' → Finds (or_else p q) b b'' r'
  unfolding or_else
  next_finds {p} t e u = let o = finds_nothing p t e in rw (o.0, ← o.1) u

-- A LOOP over a list, up to the first fault
module _ {A : Type 0} (f : A → Option (List ℕ)) (xs : List A) (d : A) where
  -- those before place i found nothing
  pub record Searched (b₀ b : List ℕ) (i : ℕ) : Type 0 where
    pub same : b ≡ b₀
    pub left : first f (drop i xs) ≡ first f xs

  pub searched_none : (b : List ℕ) → Searched b b 0
  searched_none b = record { same = refl; left = refl }

  module _ {b₀ b : List ℕ} {i : ℕ} (s : Searched b₀ b i) where
    module _ (h : i < length xs) where
      turn : or_else (f (get_or xs i d)) (first f (drop (i + 1) xs)) ≡ first f xs
      turn = sym (first_turn f xs i d h) ∙ s.left

      pub search_fault : {b' : List ℕ} {r : std.Option ℕ} {k : ℕ} → Finds (f (get_or xs i d)) b b' r → r ≡ std.Some k → Finds (first f xs) b₀ b' (std.Some k)
      search_fault t e = rw (← turn, ← s.same) (first_finds (f (get_or xs i d)) (first f (drop (i + 1) xs)) t e)

      pub search_on : {b' : List ℕ} {r : std.Option ℕ} → Finds (f (get_or xs i d)) b b' r → r ≡ std.None → Searched b₀ b' (i + 1)
      unfolding or_else
      search_on t e =
          let o = finds_nothing (f (get_or xs i d)) t e in record { same = o.1 ∙ s.same; left = rw o.0 at turn }

    pub search_over : length xs ≤ i → Finds (first f xs) b₀ b std.None
    search_over h = rw s.same (finds_none (sym s.left ∙ first_end f xs i h))

-- the same over the numbers below n
module _ (f : ℕ → Option (List ℕ)) (n : ℕ) {b₀ b : List ℕ} {i : ℕ} (s : Searched f (range n) 0 b₀ b i) where
  pub range_fault : i < n → {b' : List ℕ} {r : std.Option ℕ} {k : ℕ} → Finds (f i) b b' r → r ≡ std.Some k → Finds (first f (range n)) b₀ b' (std.Some k)
  range_fault h t e = search_fault f (range n) 0 s (rw (range_length n) h) (rw (range_at n i h) t) e

  pub range_on : i < n → {b' : List ℕ} {r : std.Option ℕ} → Finds (f i) b b' r → r ≡ std.None → Searched f (range n) 0 b₀ b' (i + 1)
  range_on h t e = search_on f (range n) 0 s (rw (range_length n) h) (rw (range_at n i h) t) e

  pub range_over : n ≤ i → Finds (first f (range n)) b₀ b std.None
  range_over h = search_over f (range n) 0 s (rw (range_length n) h)
