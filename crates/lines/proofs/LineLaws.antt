-- What is written to a pen one part after the other: digits, entries and whole lines. Assumes nothing.
use Prim.Native.Nat.{ℕ, ◌+◌, ◌*◌, ◌-◌, ◌/◌, ◌%◌, ◌≤◌, ◌<◌}
use mathlib.Core.Path.{◌≡◌, refl, sym, ap, ◌∙◌}
use mathlib.Core.List.{List, [], ◌∷◌, ◌++◌}
use native.Mathlib.Omega.{arith}
use lib.ListN.{length, get_or, set, take, length-append}
use lib.Seq.{sets, length-sets, take_all}
use Rattle.std.proofs.Common.{append_assoc, append-nil}
use Rattle.std.proofs.lemmas.List.{take_more}
use mathlib.Core.Logic.{◌≢◌, inl, inr}
use Rattle.lists.specs.Lists.{gather, In}
use Rattle.lists.proofs.ListLaws.{in_get_d}
use Rattle.lists.proofs.SetsLaws.{sets_append}
use mir.Val.{Fits}
use mir.Syntax.{w16}
use Rattle.lines.specs.declared.pen.Pen.{Pen}
use Rattle.lines.specs.Pen.{Writes, words_of}
use Rattle.lines.specs.declared.Line.TheVariants.{Decided, Undone, Clear, Shape, Room, Refused}
use Rattle.lines.specs.Decimal.{digits_of, decimal_of}
use Rattle.lines.specs.Line.{feed, spaced_of, line_of, needed}
use Rattle.lines.specs.declared.Line.{Line}
use Rattle.lines.proofs.DecimalLaws.{digits_one, digits_more, digits_few, digits_most}

pub writes_length : {xs : List ℕ} {p q : Pen} → Writes xs p q → length q.buffer.now ≡ length p.buffer.now
writes_length {xs} {p} w = ap length w.buffer_after ∙ length-sets p.buffer.now p.len xs

pub writes_none : {p : Pen} → Writes [] p p
writes_none = record { len_after = omega arith; buffer_after = refl; same_reference = refl }

pub writes_both : {xs ys : List ℕ} {p q r : Pen} → Writes xs p q → Writes ys q r → Writes (xs ++ ys) p r
writes_both {xs} {ys} {p} v w = record {
  len_after = simp length-append (omega (arith, v.len_after, w.len_after));
  buffer_after = rw (w.buffer_after, v.len_after, v.buffer_after) (sym (sets_append xs ys p.buffer.now p.len));
  same_reference = w.same_reference ∙ v.same_reference;
}

-- a digit behind the others
module _ (places n at : ℕ) (buffer : List ℕ) (z : places ≢ 0) where
  pub one_digit : n < 10 → (at + 1 ≡ at + length (digits_of places n)) × (set buffer at (48 + n % 10) ≡ sets buffer at (digits_of places n))
  one_digit h = rw (digits_one places n z h) (refl, refl)

  pub more_digits : 10 ≤ n → at + length (digits_of places n) ≡ at + length (digits_of (places - 1) (n / 10)) + 1
  more_digits h = rw (digits_more places n z h) (simp length-append (omega arith))

  pub last_digit : {mid : List ℕ} {last : ℕ} → 10 ≤ n → last ≡ at + length (digits_of (places - 1) (n / 10)) → mid ≡ sets buffer at (digits_of (places - 1) (n / 10))
      → (last + 1 ≡ at + length (digits_of places n)) × (set mid last (48 + n % 10) ≡ sets buffer at (digits_of places n))
  last_digit h e m =
      (rw (more_digits h, e), rw (digits_more places n z h, m, e) (sym (sets_append (digits_of (places - 1) (n / 10)) ((48 + n % 10) ∷ []) buffer at)))

pub spaced_none : {p : Pen} → Writes (spaced_of []) p p
unfolding spaced_of gather
spaced_none = writes_none

-- an entry has at most five digits
pub entry_digits : (e : ℕ) → e < 65536 → length (decimal_of e) ≤ 5
entry_digits e h = digits_few 4 20 e (omega arith)

-- The loop that writes the entries, of which it has written the first i.
pub record Spacing (list : List ℕ) (before now : Pen) (i : ℕ) : Type 0 where
  pub most : now.len ≤ before.len + 6 * i
  pub written_so_far : Writes (spaced_of (take i list)) before now

spaced_append : (xs ys : List ℕ) → spaced_of (xs ++ ys) ≡ spaced_of xs ++ spaced_of ys
unfolding spaced_of gather
spaced_append [] ys = refl
spaced_append (x ∷ xs) ys = ap (λ l. (32 ∷ decimal_of x) ++ l) (spaced_append xs ys) ∙ sym (append_assoc (32 ∷ decimal_of x) (spaced_of xs) (spaced_of ys))

spaced_one : (x : ℕ) → spaced_of (x ∷ []) ≡ 32 ∷ decimal_of x
unfolding spaced_of gather
spaced_one x = append-nil (32 ∷ decimal_of x)

spaced_more : (list : List ℕ) (i : ℕ) → i < length list → spaced_of (take (i + 1) list) ≡ spaced_of (take i list) ++ (32 ∷ decimal_of (get_or list i 0))
spaced_more list i h =
    ap spaced_of (take_more list i 0 h) ∙ spaced_append (take i list) (get_or list i 0 ∷ []) ∙ ap (λ l. spaced_of (take i list) ++ l) (spaced_one (get_or list i 0))

module _ {list : List ℕ} {before now : Pen} {i : ℕ} (f : Spacing list before now i) where
  pub spacing_next : {e : ℕ} {q r : Pen} → i < length list → e ≡ get_or list i 0 → e < 65536 → Writes (32 ∷ []) now q → Writes (decimal_of e) q r
      → Spacing list before r (i + 1)
  spacing_next {e} h x s v w = record {
    most = omega (arith, f.most, v.len_after, w.len_after, entry_digits e s);
    written_so_far = rw (spaced_more list i h, ← x) (writes_both f.written_so_far (writes_both v w));
  }

  pub spacing_end : length list ≤ i → Writes (spaced_of list) before now
  spacing_end h = rw (take_all i list h) at f.written_so_far

-- the words, and the feed that ends them
pub words_feed : (line : Line) (list : List ℕ) → line_of line list ≡ words_of line list ++ feed
words_feed Decided list = refl
words_feed Undone list = refl
words_feed Clear list = refl
words_feed Shape list = refl
words_feed (Room k) list = refl
words_feed (Refused k) list = refl

-- every line that the program prints fits a buffer that is long enough
pub entries_fit : (list : List ℕ) → ((e : ℕ) → In e list → e < 65536) → length (spaced_of list) ≤ 6 * length list
unfolding spaced_of gather
entries_fit [] s = omega arith
entries_fit (e ∷ list) s =
    simp length-append (omega (arith, entry_digits e (s e (inl refl)), entries_fit list (λ x m. s x (inr m))))

pub spaced_short : (list : List ℕ) → ((i : ℕ) → Fits w16 (get_or list i 0)) → length (spaced_of list) ≤ 6 * length list
spaced_short list fits = entries_fit list (λ e m. let o = in_get_d 0 e list m in omega (arith, fits o.0, o.2))

-- a refusal's number has 8 bits
abbrev pub Small : Line → Type 0
Small Decided = Unit
Small Undone = Unit
Small Clear = Unit
Small Shape = Unit
Small (Room k) = Unit
Small (Refused k) = k < 256

pub line_fits : (line : Line) (list : List ℕ) → Small line → ((e : ℕ) → In e list → e < 65536) → length (line_of line list) ≤ needed list
line_fits Decided list n s = omega arith
line_fits Undone list n s = omega arith
line_fits Clear list n s = omega arith
line_fits Shape list n s = simp length-append (omega (arith, entries_fit list s))
line_fits (Room k) list n s = simp length-append (omega (arith, digits_most 20 k, entries_fit list s))
line_fits (Refused k) list n s = simp length-append (omega (arith, digits_few 2 20 k (omega arith)))
