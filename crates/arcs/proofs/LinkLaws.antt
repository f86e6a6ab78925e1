-- The lists of arcs while edges are linked: an arc more at the front of its vertex' list, and the lists of all edges' arcs at the end. Assumes nothing.
use Prim.Native.Nat.{ℕ, zero, suc, ◌+◌, ◌≤◌, ◌<◌}
use mathlib.Core.Path.{◌≡◌, refl, sym, ap, ◌∙◌, subst}
use mathlib.Core.Logic.{inl, inr, ◌≢◌, ⊎_elim}
use mathlib.Core.List.{List, [], ◌∷◌}
use native.Mathlib.Omega.{arith}
use native.Mathlib.Numerals.{add-one}
use lib.ListN.{get_or, set, length, length-set, replicate, length-replicate}
use lib.Seq.{get_or-set_same, get_or-set_other}
use Rattle.lists.proofs.Cases.{eq_or_ne}
use Rattle.parts.specs.Parts.{Edge, edge, Has, Within}
use Rattle.parts.specs.Flood.{Link}
use Rattle.parts.proofs.PartLaws.{edge_ends, ends_edge}
use Rattle.parts.proofs.PartLists.{within_ends}
use Rattle.limits.specs.Limits.{most_cells}
use Rattle.arcs.specs.Walk.{OnList, here, later, Arcs}
use Rattle.arcs.specs.Linked.{Linked, arcs_of}
use Rattle.arcs.proofs.WalkLaws.{on_cases}

-- a list that begins below k stays below it, and does not notice a store at k
on_below : (next : List ℕ) (k : ℕ) → ((j : ℕ) → j < k → get_or next j 0 ≤ j) → (at j : ℕ) → at ≤ k → OnList next at j → j < k
on_below next k f at j l (here e) = omega arith
on_below next k f at j l (later {k = i} e o) = on_below next k f (get_or next i 0) j (omega (arith, f i (omega arith))) o

on_set : (next : List ℕ) (k v : ℕ) → ((j : ℕ) → j < k → get_or next j 0 ≤ j) → (at j : ℕ) → at ≤ k → OnList next at j → OnList (set next k v) at j
on_set next k v f at j l (here e) = here e
on_set next k v f at j l (later {k = i} e o) =
    let q : get_or (set next k v) i 0 ≡ get_or next i 0 = get_or-set_other next k i v 0 (omega arith) in
    later e (rw (sym q) at (on_set next k v f (get_or next i 0) j (omega (arith, f i (omega arith))) o))

set_on : (next : List ℕ) (k v : ℕ) → ((j : ℕ) → j < k → get_or next j 0 ≤ j) → (at j : ℕ) → at ≤ k → OnList (set next k v) at j → OnList next at j
set_on next k v f at j l (here e) = here e
set_on next k v f at j l (later {k = i} e o) =
    let q : get_or (set next k v) i 0 ≡ get_or next i 0 = get_or-set_other next k i v 0 (omega arith) in
    later e (rw q at (set_on next k v f (get_or (set next k v) i 0) j (rw q (omega (arith, f i (omega arith)))) o))

-- an arc more, from u to v
module _ (A : List Edge) (n k : ℕ) (head next to : List ℕ) (w : Linked A n k head next to) (u v : ℕ) (hu : u < n) (hv : v < n) (room : k < 3968) where
  abbrev head' : List ℕ
  head' = set head u (k + 1)

  abbrev next' : List ℕ
  next' = set next k (get_or head u 0)

  abbrev to' : List ℕ
  to' = set to k v

  head_here : get_or head' u 0 ≡ suc k
  head_here = get_or-set_same head u (k + 1) 0 (omega (arith, w.head_long)) ∙ add-one k

  head_other : (c : ℕ) → c ≢ u → get_or head' c 0 ≡ get_or head c 0
  head_other c z = get_or-set_other head u c (k + 1) 0 z

  next_here : get_or next' k 0 ≡ get_or head u 0
  next_here = get_or-set_same next k (get_or head u 0) 0 (omega (arith, w.next_long))

  to_here : get_or to' k 0 ≡ v
  to_here = get_or-set_same to k v 0 (omega (arith, w.to_long))

  -- the arcs before are on the lists that they were on
  old : (c j : ℕ) → c < n → OnList next' (get_or head c 0) j → OnList next (get_or head c 0) j
  old c j h o = set_on next k (get_or head u 0) w.falls (get_or head c 0) j (w.tops c h) o

  still : (c j : ℕ) → c < n → OnList next (get_or head c 0) j → OnList next' (get_or head c 0) j
  still c j h o = on_set next k (get_or head u 0) w.falls (get_or head c 0) j (w.tops c h) o

  before : (c j : ℕ) → c < n → OnList next (get_or head c 0) j → j < k
  before c j h o = on_below next k w.falls (get_or head c 0) j (w.tops c h) o

  leads : (c j : ℕ) → c < n → OnList next' (get_or head c 0) j → Has (edge u v ∷ A) c (get_or to' j 0)
  leads c j h o =
      let q = old c j h o in
      let e : get_or to' j 0 ≡ get_or to j 0 = get_or-set_other to k j v 0 (omega (arith, before c j h q)) in
      inr (subst (λ (x : ℕ). Has A c x) (sym e) (w.sound c j h q))

  new_sound : (c j : ℕ) → c < n → OnList next' (get_or head' c 0) j → Has (edge u v ∷ A) c (get_or to' j 0)
  new_sound c j h o =
      ⊎_elim
      (λ (q : c ≡ u).
      ⊎_elim
      (λ (e : get_or head' c 0 ≡ suc j).
      let i : j ≡ k = omega (arith, e, ap (λ x. get_or head' x 0) q, head_here) in
      inl (rw (i, to_here, q)))
      (λ (y : (l : ℕ) × (get_or head' c 0 ≡ suc l) × OnList next' (get_or next' l 0) j).
      let i : y.0 ≡ k = omega (arith, y.1, ap (λ x. get_or head' x 0) q, head_here) in
      subst (λ (x : ℕ). Has (edge u v ∷ A) x (get_or to' j 0)) (sym q) (leads u j hu (rw (i, next_here) at y.2)))
      (on_cases next' (get_or head' c 0) j o))
      (λ (z : c ≢ u). leads c j h (rw (head_other c z) at o))
      (eq_or_ne c u)

  front : (c j : ℕ) → c < n → OnList next (get_or head c 0) j → OnList next' (get_or head' c 0) j
  front c j h o =
      ⊎_elim
      (λ (q : c ≡ u).
      let s : OnList next' (get_or head u 0) j = rw q at (still c j h o) in
      let t : OnList next' (get_or next' k 0) j = subst (λ (x : ℕ). OnList next' x j) (sym next_here) s in
      later {k = k} (rw q head_here) t)
      (λ (z : c ≢ u). rw (sym (head_other c z)) at (still c j h o))
      (eq_or_ne c u)

  new_whole : (c d : ℕ) → Has (edge u v ∷ A) c d → (j : ℕ) × OnList next' (get_or head' c 0) j × (get_or to' j 0 ≡ d)
  new_whole c d =
      ⊎_elim
      (λ q. let e = edge_ends {c = c} {d = d} {e = edge u v} q in (k, here (rw e.0 head_here), to_here ∙ sym e.1))
      (λ m.
      let h : c < n = (within_ends n A c d w.within m).0 in
      let o = w.whole c d m in
      (o.0, front c o.0 h o.1, get_or-set_other to k o.0 v 0 (omega (arith, before c o.0 h o.1)) ∙ o.2))

  pub link_arc : Linked (edge u v ∷ A) n (k + 1) head' next' to'
  link_arc =
      record {
        within = ((hu, hv), w.within);
        tops = λ c h.
            ⊎_elim (λ (q : c ≡ u). rw q (omega (arith, head_here))) (λ (z : c ≢ u). omega (arith, head_other c z, w.tops c h)) (eq_or_ne c u);
        falls = λ j h.
            ⊎_elim
            (λ (q : j ≡ k). rw q (omega (arith, next_here, w.tops u hu)))
            (λ (z : j ≢ k). omega (arith, get_or-set_other next k j (get_or head u 0) 0 z, w.falls j (omega arith)))
            (eq_or_ne j k);
        sound = new_sound;
        whole = new_whole;
        head_long = simp length-set w.head_long;
        next_long = simp length-set w.next_long;
        to_long = simp length-set w.to_long;
      }

arcs_link : (E : List Edge) (c d : ℕ) → Has (arcs_of E) c d → Link E c d
unfolding arcs_of
arcs_link [] c d m = absurd m
arcs_link (e ∷ E) c d (inl q) =
    let o = edge_ends {c = c} {d = d} {e = edge e.other e.one} q in inr (inl (ends_edge {c = d} {d = c} {e = e} o.1 o.0))
arcs_link (e ∷ E) c d (inr (inl q)) = inl (inl q)
arcs_link (e ∷ E) c d (inr (inr m)) = ⊎_elim (λ k. inl (inr k)) (λ k. inr (inr k)) (arcs_link E c d m)

link_arcs : (E : List Edge) (c d : ℕ) → Link E c d → Has (arcs_of E) c d
unfolding arcs_of
link_arcs [] c d m = ⊎_elim (λ k. k) (λ k. k) m
link_arcs (e ∷ E) c d (inl (inl q)) = inr (inl q)
link_arcs (e ∷ E) c d (inl (inr m)) = inr (inr (link_arcs E c d (inl m)))
link_arcs (e ∷ E) c d (inr (inl q)) =
    let o = edge_ends {c = d} {d = c} {e = e} q in inl (ends_edge {c = c} {d = d} {e = edge e.other e.one} o.1 o.0)
link_arcs (e ∷ E) c d (inr (inr m)) = inr (inr (link_arcs E c d (inr m)))

unfoldable pub zeros : ℕ → List ℕ
zeros k = replicate k 0

pub zeros_at : (k i : ℕ) → get_or (zeros k) i 0 ≡ 0
unfolding zeros
zeros_at zero i = refl
zeros_at (suc k) zero = refl
zeros_at (suc k) (suc i) = zeros_at k i

pub zeros_long : (k : ℕ) → length (zeros k) ≡ k
unfolding zeros
zeros_long k = length-replicate {A = ℕ} k 0

-- no arc is linked yet
pub link_none : (n : ℕ) → n ≤ most_cells → Linked [] n 0 (zeros 1024) (zeros 3968) (zeros 3968)
link_none n few =
    record {
      within = tt;
      tops = λ u h. omega (arith, zeros_at 1024 u);
      falls = λ j h. omega arith;
      sound = λ u j h o.
          absurd
          (⊎_elim
          (λ e. omega (arith, zeros_at 1024 u))
          (λ y. omega (arith, zeros_at 1024 u, y.1))
          (on_cases (zeros 3968) (get_or (zeros 1024) u 0) j o));
      whole = λ c d m. absurd m;
      head_long = omega (arith, zeros_long 1024);
      next_long = omega (arith, zeros_long 3968);
      to_long = omega (arith, zeros_long 3968);
    }

-- both arcs of an edge
pub link_edge : (E : List Edge) (n k : ℕ) (head next to : List ℕ) → Linked (arcs_of E) n k head next to → (u v : ℕ) → u < n → v < n → k + 1 < 3968
    → (head₁ next₁ to₁ head₂ next₂ to₂ : List ℕ) → head₁ ≡ set head u (k + 1) → next₁ ≡ set next k (get_or head u 0) → to₁ ≡ set to k v
    → head₂ ≡ set head₁ v (k + 1 + 1) → next₂ ≡ set next₁ (k + 1) (get_or head₁ v 0) → to₂ ≡ set to₁ (k + 1) u → Linked (arcs_of (edge u v ∷ E)) n (k + 2) head₂ next₂ to₂
unfolding arcs_of
link_edge E n k head next to w u v hu hv l head₁ next₁ to₁ head₂ next₂ to₂ a b c d e f =
    let first : Linked (edge u v ∷ arcs_of E) n (k + 1) head₁ next₁ to₁ = rw (a, b, c) (link_arc (arcs_of E) n k head next to w u v hu hv (omega arith)) in
    let two : k + 2 ≡ k + 1 + 1 = omega arith in
    rw (d, e, f, two) (link_arc (edge u v ∷ arcs_of E) n (k + 1) head₁ next₁ to₁ first v u hv hu l)

-- the lists of all edges
arcs_within : (n : ℕ) (E : List Edge) → Within n (arcs_of E) → Within n E
unfolding arcs_of
arcs_within n [] w = tt
arcs_within n (e ∷ E) w = (w.1.0, arcs_within n E w.1.1)

pub link_all : (E : List Edge) (n k : ℕ) (head next to : List ℕ) → n ≤ most_cells → k ≤ 3968 → Linked (arcs_of E) n k head next to → Arcs E n head next to
link_all E n k head next to few room w =
    record {
      few = few;
      within = arcs_within n E w.within;
      low = λ u j h o. let l = on_below next k w.falls (get_or head u 0) j (w.tops u h) o in (omega arith, w.falls j l);
      sound = λ u j h o. arcs_link E u (get_or to j 0) (w.sound u j h o);
      whole = λ c d m. w.whole c d (link_arcs E c d m);
    }
