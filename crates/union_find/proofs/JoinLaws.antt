-- Parents keep the parts that the united pairs make: two vertices have one root exactly when the pairs join them. Assumes nothing.
use Prim.Native.Nat.{ℕ, ◌+◌, ◌<◌}
use mathlib.Core.Path.{◌≡◌, refl, sym, ◌∙◌}
use mathlib.Core.Logic.{◌≢◌, ◌↔◌, ⊎_elim, inl}
use mathlib.Core.List.{List, [], ◌∷◌}
use native.Mathlib.Omega.{arith}
use borrow.Author.Tests.{eq-eqb, ne_eqb}
use Rattle.lists.specs.Choice.{pick}
use Rattle.lists.proofs.Cases.{eq_or_ne}
use Rattle.parts.specs.Parts.{Edge, edge, Has, Joined, same, over, back, then, Within, root, begun}
use Rattle.parts.proofs.PartLaws.{edge_ends, joined_tail, joined_elim, joined_root, root_joined}
use Rattle.parts.proofs.UniteLaws.{begun_within, begun_unite}
use Rattle.parts.proofs.PartLists.{within_ends}
use Rattle.union_find.specs.Chains.{up, climb, shortened, united, hung}
use Rattle.union_find.proofs.ChainLaws.{climb_root}
use Rattle.union_find.proofs.RootLaws.{Good}
use Rattle.union_find.proofs.KeepLaws.{find_good, find_roots}
use Rattle.union_find.proofs.UniteLaws.{unite_good, unite_roots, unite_answer}

-- the parents p of n vertices have the parts of E
pub record Joins (n : ℕ) (p : List ℕ) (E : List Edge) : Type 0 where
  pub good : Good n p
  pub within : Within n E
  pub parts : (x y : ℕ) → x < n → y < n → (climb n p x ≡ climb n p y) ↔ Joined E x y

none_joined : {x y : ℕ} → Joined [] x y → x ≡ y
none_joined j = joined_elim {E = []} (λ v. v) (λ c d m. absurd m) j

-- vertices that are their own parents: no pair is united
pub joins_none : (n : ℕ) (p : List ℕ) → ((x : ℕ) → x < n → up p x ≡ x) → Joins n p []
joins_none n p e =
    record {
      good = record { below = λ x h. rw (e x h) h; ends = λ x h. rw (climb_root n p x (e x h)) (e x h) };
      within = tt;
      parts = λ x y hx hy.
          rw (climb_root n p x (e x hx), climb_root n p y (e y hy)) (λ q. same q, λ j. none_joined j);
    }

pub joins_find : (n : ℕ) (p : List ℕ) (E : List Edge) → Joins n p E → (x : ℕ) → x < n → Joins n (shortened n p x) E
joins_find n p E k x h =
    record {
      good = find_good n p k.good x h;
      within = k.within;
      parts = λ v w hv hw. rw (find_roots n p k.good x h v hv, find_roots n p k.good x h w hw) (k.parts v w hv hw);
    }

module _ (n : ℕ) (p : List ℕ) (E : List Edge) (k : Joins n p E) (x y : ℕ) (hx : x < n) (hy : y < n) where
  -- the roots after x and y are united
  new : ℕ → ℕ
  new v = climb n (hung n p x y) v

  new_is : (v : ℕ) → v < n → climb n p v ≡ climb n p x → new v ≡ climb n p y
  unfolding new
  new_is v h q = unite_roots n p k.good x y hx hy v h ∙ rw (eq-eqb _ _ q)

  new_not : (v : ℕ) → v < n → climb n p v ≢ climb n p x → new v ≡ climb n p v
  unfolding new
  new_not v h q = unite_roots n p k.good x y hx hy v h ∙ rw (ne_eqb _ _ q)

  new_same : (v w : ℕ) → v < n → w < n → climb n p v ≡ climb n p w → new v ≡ new w
  unfolding new
  new_same v w hv hw q = unite_roots n p k.good x y hx hy v hv ∙ rw q (sym (unite_roots n p k.good x y hx hy w hw))

  joined : (v w : ℕ) → v < n → w < n → climb n p v ≡ climb n p w → Joined (edge x y ∷ E) v w
  joined v w hv hw q = joined_tail (edge x y) ((k.parts v w hv hw).0 q)

  -- x's part and y's are joined by the new pair
  bridge : (v w : ℕ) → v < n → w < n → climb n p v ≡ climb n p x → climb n p y ≡ climb n p w → Joined (edge x y ∷ E) v w
  bridge v w hv hw q r = then (joined v x hv hx q) (then (over (inl refl)) (joined y w hy hw r))

  into : (v w : ℕ) → v < n → w < n → new v ≡ new w → Joined (edge x y ∷ E) v w
  into v w hv hw q =
      ⊎_elim
      (λ (a : climb n p v ≡ climb n p x).
      ⊎_elim
      (λ (b : climb n p w ≡ climb n p x). joined v w hv hw (a ∙ sym b))
      (λ (b : climb n p w ≢ climb n p x). bridge v w hv hw a (sym (new_is v hv a) ∙ q ∙ new_not w hw b))
      (eq_or_ne (climb n p w) (climb n p x)))
      (λ (a : climb n p v ≢ climb n p x).
      ⊎_elim
      (λ (b : climb n p w ≡ climb n p x). back (bridge w v hw hv b (sym (new_is w hw b) ∙ sym q ∙ new_not v hv a)))
      (λ (b : climb n p w ≢ climb n p x). joined v w hv hw (sym (new_not v hv a) ∙ q ∙ new_not w hw b))
      (eq_or_ne (climb n p w) (climb n p x)))
      (eq_or_ne (climb n p v) (climb n p x))

  two_one : new x ≡ new y
  two_one =
      ⊎_elim
      (λ (q : climb n p y ≡ climb n p x). new_same x y hx hy (sym q))
      (λ (q : climb n p y ≢ climb n p x). new_is x hx refl ∙ sym (new_not y hy q))
      (eq_or_ne (climb n p y) (climb n p x))

  over_edge : (c d : ℕ) → Has (edge x y ∷ E) c d → new c ≡ new d
  over_edge c d =
      ⊎_elim
      (λ q. let e = edge_ends {c = c} {d = d} {e = edge x y} q in rw (e.0, e.1) two_one)
      (λ m. let h = within_ends n E c d k.within m in new_same c d h.0 h.1 ((k.parts c d h.0 h.1).1 (over m)))

  pub joins_unite : Joins n (hung n p x y) (edge x y ∷ E)
  unfolding new
  joins_unite =
      record {
        good = unite_good n p k.good x y hx hy;
        within = ((hx, hy), k.within);
        parts = λ v w hv hw. (into v w hv hw, λ j. joined_elim {E = edge x y ∷ E} new over_edge j);
      }

  -- one part less where unite says that it united, and else as many as before
  pub joins_count : begun (edge x y ∷ E) n + pick (united n p x y) 1 0 ≡ begun E n
  joins_count =
      ⊎_elim
      (λ (q : climb n p x ≡ climb n p y).
      let r : root E x ≡ root E y = joined_root ((k.parts x y hx hy).0 q) in
      rw (unite_answer n p k.good x y hx hy, eq-eqb _ _ q) (omega (arith, begun_within (edge x y) E n r)))
      (λ (z : climb n p x ≢ climb n p y).
      let r : root E x ≢ root E y = λ e. z ((k.parts x y hx hy).1 (root_joined E x y e)) in
      rw (unite_answer n p k.good x y hx hy, ne_eqb _ _ z) (begun_unite (edge x y) E r n hx hy))
      (eq_or_ne (climb n p x) (climb n p y))
