-- What is read was written (`written_read`): a sound file of bytes is the file of the case that it says, to the last byte. Assumes nothing.
use Prim.Native.Nat.{ℕ, zero, suc, ◌+◌, ◌*◌, ◌/◌, ◌%◌, ◌≤◌, ◌<◌}
use mathlib.Core.Path.{◌≡◌, refl, sym, ap, ◌∙◌}
use mathlib.Core.Logic.{inl, inr, ⊎_elim, ◌≢◌}
use mathlib.Core.Bool.{Bool, true, false, true≢false}
use mathlib.Core.List.{List, [], ◌∷◌, ◌++◌, append_assoc, append-nil}
use mathlib.Core.Option.{Option, none, some, some-injective, none-ne-some}
use native.Mathlib.Omega.{arith}
use borrow.Author.Tests.{eq-eqb, ne_eqb, eqb-true, leb-true}
use lib.Dec.{eqb, leb}
use lib.ListN.{length, take, drop}
use Rattle.lists.specs.Choice.{pick, both, through}
use Rattle.lists.specs.Lists.{In, gather}
use Rattle.lists.proofs.Cases.{eq_or_ne}
use Rattle.lists.proofs.ChoiceLaws.{through_some, give_some, both_true}
use Rattle.lists.proofs.ListLaws.{in_right}
use Rattle.case_file.specs.declared.Call.{Call}
use Rattle.case_file.specs.declared.Call.TheVariants.{Undo, Decide, Ask}
use Rattle.case_file.specs.Sound.{Case, byte_of, word_of, words_of, many_of, numbers_of, decide_of, kind_of, call_of, calls_of, call_list_of, is_end, lists_of, rest_of, decode_of}
use Rattle.case_file.specs.Encode.{word, call, counted, rest, encode}
use Rattle.case_file.proofs.ReadLaws.{words_length}
use Rattle.case_file.proofs.ListLaws.{headed, calls_length_lem}

abbrev pub Bytes : List ℕ → Type 0
Bytes bs = (x : ℕ) → In x bs → x < 256

in_same : {r s : List ℕ} → r ≡ s → (x : ℕ) → In x s → In x r
in_same e x m = rw e m

behind : {r : List ℕ} (xs t : List ℕ) → r ≡ xs ++ t → Bytes r → Bytes t
behind xs t e b x m = b x (in_same e x (in_right x xs t m))

word_back : (r : List ℕ) (n : ℕ) (s : List ℕ) → word_of r ≡ some (n, s) → Bytes r → r ≡ word n ++ s
unfolding word_of
word_back [] n s e b = absurd (none-ne-some (n, s) e)
word_back (x ∷ []) n s e b = absurd (none-ne-some (n, s) e)
word_back (x ∷ y ∷ r) n s e b =
    let q = some-injective (256 * x + y, r) (n, s) e in
    let m : n ≡ 256 * x + y = ap (λ (p : ℕ × List ℕ). p.0) (sym q) in
    let t : r ≡ s = ap (λ (p : ℕ × List ℕ). p.1) q in
    let hx : x < 256 = b x (inl refl) in
    let hy : y < 256 = b y (inr (inl refl)) in
    let a : x ≡ n / 256 = omega arith in
    let c : y ≡ n % 256 = omega arith in
    cc

words_back : (n : ℕ) (r : List ℕ) → 2 * n ≤ length r → Bytes r → r ≡ gather word (words_of (take (2 * n) r)) ++ drop (2 * n) r
unfolding words_of gather
words_back zero r h b = refl
words_back (suc n) [] h b = absurd (omega arith)
words_back (suc n) (x ∷ []) h b = absurd (omega arith)
words_back (suc n) (x ∷ y ∷ r) h b =
    let e : 2 * suc n ≡ suc (suc (2 * n)) = omega arith in
    let hx : x < 256 = b x (inl refl) in
    let hy : y < 256 = b y (inr (inl refl)) in
    let a : (256 * x + y) / 256 ≡ x = omega arith in
    let c : (256 * x + y) % 256 ≡ y = omega arith in
    rw (e, a, c) (ap (λ (t : List ℕ). x ∷ y ∷ t) (words_back n r (omega arith) (λ z m. b z (inr (inr m)))))

many_back : (n : ℕ) (t xs s : List ℕ) → many_of n t ≡ some (xs, s) → Bytes t → (length xs ≡ n) × (t ≡ gather word xs ++ s)
unfolding many_of
many_back n t xs s e b =
    let g = give_some (leb (2 * n) (length t)) (words_of (take (2 * n) t), drop (2 * n) t) (xs, s) e in
    let h : 2 * n ≤ length t = leb-true (2 * n) (length t) g.0 in (
      ap (λ (q : List ℕ × List ℕ). length q.0) g.1 ∙ words_length n t h,
      words_back n t h b ∙ ap (λ (q : List ℕ × List ℕ). gather word q.0 ++ q.1) (sym g.1),
    )

-- a count and what stands behind it
counted_back : {A : Type 0} (f : A → List ℕ) (r : List ℕ) (n : ℕ) (t : List ℕ) (xs : List A) (s : List ℕ)
    → r ≡ word n ++ t → (length xs ≡ n) × (t ≡ gather f xs ++ s) → r ≡ counted f xs ++ s
unfolding counted
counted_back f r n t xs s w o = rw o.0 (w ∙ ap (λ (z : List ℕ). word n ++ z) o.1)

numbers_back : (r xs s : List ℕ) → numbers_of r ≡ some (xs, s) → Bytes r → r ≡ counted word xs ++ s
unfolding numbers_of
numbers_back r xs s e b =
    let p = through_some (word_of r) (λ n. many_of n.0 n.1) (xs, s) e in
    let w = word_back r p.0.0 p.0.1 p.1 b in
    counted_back word r p.0.0 p.0.1 xs s w (many_back p.0.0 p.0.1 xs s p.2 (behind (word p.0.0) p.0.1 w b))

lone_back : (k : ℕ) (r s : List ℕ) (c d : Call) → ◌≡◌ {A = Option (Call × List ℕ)} (some (d, r)) (some (c, s)) → k ∷ [] ≡ call d → k ∷ r ≡ call c ++ s
lone_back k r s c d e h =
    ap (λ (z : List ℕ). z ++ r) h ∙ ap (λ (q : Call × List ℕ). call q.0 ++ q.1) (some-injective (d, r) (c, s) e)

decide_back : (k : ℕ) (wall : Bool) (r s : List ℕ) (c : Call) → decide_of wall r ≡ some (c, s) → Bytes r → k ≡ pick wall 2 1 → k ∷ r ≡ call c ++ s
unfolding decide_of
decide_back k wall r s c e b h =
    let p = through_some (word_of r) (λ n. some (Decide n.0 wall, n.1)) (c, s) e in
    let w = word_back r p.0.0 p.0.1 p.1 b in
    ap (λ (z : List ℕ). k ∷ z) w
    ∙ ap (λ (z : ℕ). z ∷ (word p.0.0 ++ p.0.1)) h
    ∙ ap (λ (q : Call × List ℕ). call q.0 ++ q.1) (some-injective (Decide p.0.0 wall, p.0.1) (c, s) p.2)

kind_back : (k : ℕ) (r s : List ℕ) (c : Call) → kind_of k r ≡ some (c, s) → Bytes r → k ∷ r ≡ call c ++ s
unfolding kind_of
kind_back k r s c e b =
    ⊎_elim
    (λ (z : k ≡ 0). lone_back k r s c Undo (simp (eq-eqb k 0 z) at e) (rw z))
    (λ (z : k ≢ 0).
    ⊎_elim
    (λ (o : k ≡ 1). decide_back k false r s c (simp (ne_eqb k 0 z, eq-eqb k 1 o) at e) b o)
    (λ (o : k ≢ 1).
    ⊎_elim
    (λ (t : k ≡ 2). decide_back k true r s c (simp (ne_eqb k 0 z, ne_eqb k 1 o, eq-eqb k 2 t) at e) b t)
    (λ (t : k ≢ 2).
    ⊎_elim
    (λ (h : k ≡ 3). lone_back k r s c Ask (simp (ne_eqb k 0 z, ne_eqb k 1 o, ne_eqb k 2 t, eq-eqb k 3 h) at e) (rw h))
    (λ (h : k ≢ 3). absurd (none-ne-some (c, s) (simp (ne_eqb k 0 z, ne_eqb k 1 o, ne_eqb k 2 t, ne_eqb k 3 h) at e)))
    (eq_or_ne k 3))
    (eq_or_ne k 2))
    (eq_or_ne k 1))
    (eq_or_ne k 0)

call_back : (r s : List ℕ) (c : Call) → call_of r ≡ some (c, s) → Bytes r → r ≡ call c ++ s
unfolding call_of byte_of through
call_back [] s c e b = absurd (none-ne-some (c, s) e)
call_back (k ∷ r) s c e b = kind_back k r s c e (λ x m. b x (inr m))

calls_back : (n : ℕ) (r s : List ℕ) (cs : List Call) → calls_of n r ≡ some (cs, s) → Bytes r → r ≡ gather call cs ++ s
unfolding calls_of gather
calls_back zero r s cs e b = ap (λ (q : List Call × List ℕ). gather call q.0 ++ q.1) (some-injective ([], r) (cs, s) e)
calls_back (suc n) r s cs e b =
    let o = headed n r s cs e in
    let w : r ≡ call o.call ++ o.after = call_back r o.after o.call o.reads b in
    let k = calls_back n o.after s o.others o.follow (behind (call o.call) o.after w b) in
    w
    ∙ ap (λ (z : List ℕ). call o.call ++ z) k
    ∙ sym (append_assoc (call o.call) (gather call o.others) s)
    ∙ ap (λ (z : List Call). gather call z ++ s) (sym o.whole)

list_back : (r s : List ℕ) (cs : List Call) → call_list_of r ≡ some (cs, s) → Bytes r → r ≡ counted call cs ++ s
unfolding call_list_of
list_back r s cs e b =
    let p = through_some (word_of r) (λ n. calls_of n.0 n.1) (cs, s) e in
    let n = p.0.0 in
    let t = p.0.1 in
    let w = word_back r n t p.1 b in
    counted_back call r n t cs s w (calls_length_lem n t s cs p.2, calls_back n t s cs p.2 (behind (word n) t w b))

-- what the parts of a sound file are, in turn
pub record Parts (f : Case) (bs : List ℕ) : Type 0 where
  pub high : ℕ
  pub low : ℕ
  pub lists : List ℕ
  pub others : List ℕ
  pub last : List ℕ
  pub bytes : bs ≡ 1 ∷ high ∷ low ∷ f.height ∷ f.width ∷ lists
  pub long : 256 * high + low ≡ 2 + length lists
  pub most : 2 + length lists ≤ 60000
  pub walls : numbers_of lists ≡ some (f.walls, others)
  pub clues : numbers_of others ≡ some (f.clues, last)
  pub calls : call_list_of last ≡ some (f.calls, [])

end_empty : (r : List ℕ) → is_end r ≡ true → r ≡ []
end_empty [] e = refl
end_empty (x ∷ r) e = absurd (true≢false (sym e))

pick_some : (t : Bool) (o : Option Case) (f : Case) → pick t o none ≡ some f → (t ≡ true) × (o ≡ some f)
pick_some true o f e = (refl, e)
pick_some false o f e = absurd (none-ne-some f e)

lists_parts : (f : Case) (a b h w : ℕ) (r : List ℕ) → 256 * a + b ≡ 2 + length r → 2 + length r ≤ 60000 → lists_of h w r ≡ some f
    → Parts f (1 ∷ a ∷ b ∷ h ∷ w ∷ r)
unfolding lists_of
lists_parts f a b h w r l m e =
    let x = through_some (numbers_of r) _ f e in
    let y = through_some (numbers_of x.0.1) _ f x.2 in
    let z = through_some (call_list_of y.0.1) _ f y.2 in
    let g = give_some (is_end z.0.1) _ f z.2 in
    let q = end_empty z.0.1 g.0 in
    record {
      high = a;
      low = b;
      lists = r;
      others = x.0.1;
      last = y.0.1;
      bytes = ap (λ (k : Case). 1 ∷ a ∷ b ∷ k.height ∷ k.width ∷ r) (sym g.1);
      long = l;
      most = m;
      walls = x.1 ∙ ap (λ (k : Case). some (k.walls, x.0.1)) (sym g.1);
      clues = y.1 ∙ ap (λ (k : Case). some (k.clues, y.0.1)) (sym g.1);
      calls = z.1 ∙ ap (λ (k : Case). some (k.calls, z.0.1)) (sym g.1) ∙ ap (λ (t : List ℕ). some (f.calls, t)) q;
    }

rest_parts : (f : Case) (a b : ℕ) (r : List ℕ) → 256 * a + b ≡ length r → length r ≤ 60000 → rest_of r ≡ some f → Parts f (1 ∷ a ∷ b ∷ r)
unfolding rest_of byte_of through
rest_parts f a b [] l m e = absurd (none-ne-some f e)
rest_parts f a b (h ∷ []) l m e = absurd (none-ne-some f e)
rest_parts f a b (h ∷ w ∷ r) l m e = lists_parts f a b h w r (omega arith) (omega arith) e

pub parts : (f : Case) (bs : List ℕ) → decode_of bs ≡ some f → Parts f bs
unfolding decode_of byte_of word_of through
parts f [] e = absurd (none-ne-some f e)
parts f (v ∷ []) e = absurd (none-ne-some f e)
parts f (v ∷ a ∷ []) e = absurd (none-ne-some f e)
parts f (v ∷ a ∷ b ∷ r) e =
    let n = 256 * a + b in
    let p = pick_some (both (eqb v 1) (both (eqb n (length r)) (leb n 60000))) (rest_of r) f e in
    let x = both_true (eqb v 1) (both (eqb n (length r)) (leb n 60000)) p.0 in
    let y = both_true (eqb n (length r)) (leb n 60000) x.1 in
    let l : n ≡ length r = eqb-true n (length r) y.0 in
    let m : n ≤ 60000 = leb-true n 60000 y.1 in
    rw (eqb-true v 1 x.0) (rest_parts f a b r l (omega arith) p.1)

module _ {f : Case} {bs : List ℕ} (o : Parts f bs) (b : Bytes bs) where
  rest_back : f.height ∷ f.width ∷ o.lists ≡ rest f
  unfolding rest
  rest_back =
      let bl : Bytes o.lists = λ x m. b x (in_same o.bytes x (inr (inr (inr (inr (inr m)))))) in
      let w : o.lists ≡ counted word f.walls ++ o.others = numbers_back o.lists f.walls o.others o.walls bl in
      let bo : Bytes o.others = behind (counted word f.walls) o.others w bl in
      let c : o.others ≡ counted word f.clues ++ o.last = numbers_back o.others f.clues o.last o.clues bo in
      let bk : Bytes o.last = behind (counted word f.clues) o.last c bo in
      let k : o.last ≡ counted call f.calls = list_back o.last [] f.calls o.calls bk ∙ append-nil (counted call f.calls) in
      ap (λ (z : List ℕ). f.height ∷ f.width ∷ z) (rw (w, c, k))

  file_back : (bs ≡ encode f) × (length (rest f) ≤ 60000)
  unfolding encode
  file_back =
      let l : 2 + length o.lists ≡ length (rest f) = omega (arith, ap length rest_back) in
      let hh : o.high < 256 = b o.high (in_same o.bytes o.high (inr (inl refl))) in
      let hl : o.low < 256 = b o.low (in_same o.bytes o.low (inr (inr (inl refl)))) in
      let x : o.high ≡ length (rest f) / 256 = omega (arith, o.long) in
      let y : o.low ≡ length (rest f) % 256 = omega (arith, o.long) in
      (o.bytes ∙ rw (x, y) (ap (λ (z : List ℕ). 1 ∷ (word (length (rest f)) ++ z)) rest_back), omega (arith, o.most))

-- a sound file is the file of its case
pub written_read : (f : Case) (bs : List ℕ) → Bytes bs → decode_of bs ≡ some f → (bs ≡ encode f) × (length (rest f) ≤ 60000)
written_read f bs b e = file_back (parts f bs e) b
