-- Lists that are appended to a buffer one behind the other, by what is left to append. Assumes nothing.
use Prim.Native.Nat.{ℕ, ◌+◌, ◌≤◌, ◌<◌}
use mathlib.Core.Path.{◌≡◌, refl, ap, sym, ◌∙◌}
use mathlib.Core.List.{List, [], ◌++◌}
use native.Mathlib.Omega.{arith}
use native.Mathlib.Numerals.{add-one}
use lib.ListN.{length, get_or, drop, drop_of_length-le, length-append}
use lib.Seq.{sets, length-sets, drop-cons}
use Rattle.lists.specs.Lists.{gather}
use Rattle.lists.proofs.SetsLaws.{sets_append}
use Rattle.boundary.specs.Appended.{Appended}
use Rattle.boundary.specs.Writes.{Writes}
use Rattle.boundary.specs.declared.Entries.{Entries}

pub appended_long : {buf xs buf' : List ℕ} {at at' : ℕ} → Appended buf at xs buf' at' → length buf' ≡ length buf
appended_long {buf} {xs} {at = at} a = ap length a.stored ∙ length-sets buf at xs

pub appended_then : {buf xs buf₁ ys buf₂ : List ℕ} {at at₁ at₂ : ℕ} → Appended buf at xs buf₁ at₁ → Appended buf₁ at₁ ys buf₂ at₂ → Appended buf at (xs ++ ys) buf₂ at₂
appended_then {buf} {xs} {ys = ys} {at = at} a b =
    record { place = omega (arith, a.place, b.place, length-append xs ys); stored = b.stored ∙ rw (a.stored, a.place, sets_append xs ys buf at) }

-- once `rest` is appended to what the buffer holds now, it holds what `all` appended to buf₀ gives
pub record Rest (buf₀ : List ℕ) (at₀ : ℕ) (all buf : List ℕ) (at : ℕ) (rest : List ℕ) : Type 0 where
  pub long : length buf ≡ length buf₀
  pub count : at + length rest ≡ at₀ + length all
  pub left : sets buf at rest ≡ sets buf₀ at₀ all

pub rest_all : (buf : List ℕ) (at : ℕ) (xs : List ℕ) → Rest buf at xs buf at xs
rest_all buf at xs = record { long = refl; count = refl; left = refl }

module _ {buf₀ all buf : List ℕ} {at₀ at : ℕ} where
  pub rest_room : (xs ys : List ℕ) → Rest buf₀ at₀ all buf at (xs ++ ys) → at₀ + length all ≤ length buf₀ → at + length xs ≤ length buf
  rest_room xs ys r h = omega (arith, r.long, r.count, length-append xs ys)

  pub rest_on : (xs ys : List ℕ) {buf' : List ℕ} {at' : ℕ} → Rest buf₀ at₀ all buf at (xs ++ ys) → Appended buf at xs buf' at' → Rest buf₀ at₀ all buf' at' ys
  rest_on xs ys r a =
      record {
        long = appended_long a ∙ r.long;
        count = omega (arith, r.count, a.place, length-append xs ys);
        left = rw (a.stored, a.place) (sym (sets_append xs ys buf at) ∙ r.left);
      }

  pub rest_end : Rest buf₀ at₀ all buf at [] → Appended buf₀ at₀ all buf at
  rest_end r = record { place = omega (arith, r.count); stored = r.left }

-- a loop that appends the list of each member of xs: at its turn i, the lists from member i on are left
module _ {A : Type 0} (f : A → List ℕ) (xs : List A) (d : A) (i : ℕ) where
  turn : i < length xs → gather f (drop i xs) ≡ f (get_or xs i d) ++ gather f (drop (i + 1) xs)
  unfolding gather
  turn h = rw (add-one, drop-cons xs i d h)

  end : length xs ≤ i → gather f (drop i xs) ≡ []
  unfolding gather
  end h = rw (drop_of_length-le xs h)

  module _ {buf₀ buf : List ℕ} {at₀ at : ℕ} (r : Rest buf₀ at₀ (gather f xs) buf at (gather f (drop i xs))) where
    pub turn_room : i < length xs → at₀ + length (gather f xs) ≤ length buf₀ → at + length (f (get_or xs i d)) ≤ length buf
    turn_room h = rest_room (f (get_or xs i d)) (gather f (drop (i + 1) xs)) (rw (turn h) at r)

    pub turn_on : i < length xs → {buf' : List ℕ} {at' : ℕ} → Appended buf at (f (get_or xs i d)) buf' at'
        → Rest buf₀ at₀ (gather f xs) buf' at' (gather f (drop (i + 1) xs))
    turn_on h = rest_on (f (get_or xs i d)) (gather f (drop (i + 1) xs)) (rw (turn h) at r)

    pub turns_end : length xs ≤ i → Appended buf₀ at₀ (gather f xs) buf at
    turns_end h = rest_end (rw (end h) at r)

-- LISTS OF ENTRIES, which keep their buffer

pub writes_none : {xs : List ℕ} {p : Entries} → xs ≡ [] → Writes xs p p
writes_none q = rw q (record { appended = record { place = omega arith; stored = refl }; same_reference = refl })

pub writes_then : {xs ys : List ℕ} {p q r : Entries} → Writes xs p q → Writes ys q r → Writes (xs ++ ys) p r
writes_then v w = record { appended = appended_then v.appended w.appended; same_reference = w.same_reference ∙ v.same_reference }

pub writes_long : {xs : List ℕ} {p q : Entries} → Writes xs p q → length q.buffer.now ≡ length p.buffer.now
writes_long w = appended_long w.appended

-- once `rest` is written too, `all` is
pub record Leaves (before : Entries) (all : List ℕ) (now : Entries) (rest : List ℕ) : Type 0 where
  pub left : Rest before.buffer.now before.len all now.buffer.now now.len rest
  pub same_reference : now.buffer.ghost_name ≡ before.buffer.ghost_name

pub leaves_all : (p : Entries) (xs : List ℕ) → Leaves p xs p xs
leaves_all p xs = record { left = rest_all p.buffer.now p.len xs; same_reference = refl }

module _ {before now : Entries} {all : List ℕ} where
  pub leaves_room : (xs ys : List ℕ) → Leaves before all now (xs ++ ys) → before.len + length all ≤ length before.buffer.now → now.len + length xs ≤ length now.buffer.now
  leaves_room xs ys v = rest_room xs ys v.left

  pub leaves_on : (xs ys : List ℕ) → Leaves before all now (xs ++ ys) → {after : Entries} → Writes xs now after → Leaves before all after ys
  leaves_on xs ys v w = record { left = rest_on xs ys v.left w.appended; same_reference = w.same_reference ∙ v.same_reference }

  pub leaves_end : Leaves before all now [] → Writes all before now
  leaves_end v = record { appended = rest_end v.left; same_reference = v.same_reference }

module _ {A : Type 0} (f : A → List ℕ) (xs : List A) (d : A) (i : ℕ) {before now : Entries} (v : Leaves before (gather f xs) now (gather f (drop i xs))) where
  pub turn_fits : i < length xs → before.len + length (gather f xs) ≤ length before.buffer.now → now.len + length (f (get_or xs i d)) ≤ length now.buffer.now
  turn_fits h = turn_room f xs d i v.left h

  pub turn_written : i < length xs → {after : Entries} → Writes (f (get_or xs i d)) now after → Leaves before (gather f xs) after (gather f (drop (i + 1) xs))
  turn_written h = leaves_on (f (get_or xs i d)) (gather f (drop (i + 1) xs)) (rw (turn f xs d i h) at v)

  pub turns_written : length xs ≤ i → Writes (gather f xs) before now
  turns_written h = leaves_end (rw (end f xs d i h) at v)
