-- A graph that questions 1 and 2 accept, as facts; and a law for each answer. Assumes nothing.
use Prim.Native.Nat.{ℕ, ◌≤◌, ◌<◌}
use mathlib.Core.Path.{◌≡◌, refl, ap, sym, ◌∙◌}
use mathlib.Core.Bool.{Bool, true, false}
use mathlib.Core.List.{List, [], ◌∷◌}
use mathlib.Core.Option.{Option, none, some}
use native.Mathlib.Omega.{arith}
use borrow.Author.Tests.{eq-eqb, ne_eqb, le-leb, lt-leb, leb-true}
use lib.Dec.{leb}
use lib.ListN.{length, take}
use Rattle.std.proofs.lemmas.List.{get_or-take}
use lib.Seq.{sets}
use Rattle.limits.specs.Limits.{most_cells, most_borders}
use Rattle.lists.specs.Choice.{both, pick}
use Rattle.lists.proofs.ChoiceLaws.{both_true}
use Rattle.answers.specs.Answers.{found, written, answer_of, length_found, Finds}
use Rattle.answers.specs.Refusals.{Answers, answer_in}
use Rattle.std.specs.Prelude.{Ok}
use Rattle.std.specs.Prelude as std
use Rattle.ledger.specs.declared.Book.{Book}
use Rattle.ledger.specs.Ledger.{decisions}
use Rattle.ledger.specs.Books.{zeros, none_given, book_holds}
use Rattle.ledger.specs.Marks.{Entry}
use Rattle.ledger.proofs.Codes.{as_decide}
use Rattle.room_parts.specs.Graph as rooms
use Rattle.city_count.specs.declared.CityCountConstraint.{CityCountConstraint}
use Rattle.city_count.specs.Fault.{lone_fault}
use Rattle.city_count.specs.Room.{room_of, zero_room, fresh_room, answer, ends_exist, check_of, room_code, make_of, answered, stroke_of, decide_of, graph_of, fault_of, ask_of}
use Rattle.city_count.proofs.LoneLaws.{lone_agrees, lone_ends}
use Rattle.city_count.proofs.LoopLaws.{Ends, all_ends, ends_all}

-- a graph within the limits whose ends exist
pub record Fits (n m : ℕ) (us vs : List ℕ) : Type 0 where
  pub few_vertices : n ≤ most_cells
  pub few_edges : m ≤ most_borders
  pub ends : Ends n us vs m

-- parts that questions 1 and 2 accept
pub record Ready (n m : ℕ) (us vs : List ℕ) (b : Book) : Type 0 where
  pub fits : Fits n m us vs
  pub holds : book_holds m none_given b ≡ true

module _ (n m : ℕ) (us vs : List ℕ) (b : Book) where
  -- the ways to refuse or accept, by what the code tests
  module _ (h : n ≤ most_cells) (k : m ≤ most_borders) where
    pub no_ends : ends_exist n m us vs ≡ false → 2 ≡ check_of n m us vs b
    no_ends e = rw (le-leb n most_cells h, le-leb m most_borders k, e)

    pub by_book : ends_exist n m us vs ≡ true → pick (book_holds m none_given b) 0 2 ≡ check_of n m us vs b
    by_book e = rw (le-leb n most_cells h, le-leb m most_borders k, e)

  pub ready_code : Ready n m us vs b → check_of n m us vs b ≡ 0
  ready_code r = sym (ap (λ t. pick t 0 2) (sym r.holds) ∙ by_book r.fits.few_vertices r.fits.few_edges (sym (ends_all n us vs m m (omega arith) r.fits.ends)))

  pub ready : check_of n m us vs b ≡ 0 → Ready n m us vs b
  ready = go (both (leb n most_cells) (leb m most_borders)) refl (both (ends_exist n m us vs) (book_holds m none_given b)) refl
    where
      go : (t : Bool) → both (leb n most_cells) (leb m most_borders) ≡ t → (u : Bool) → both (ends_exist n m us vs) (book_holds m none_given b) ≡ u
          → ◌≡◌ {A = ℕ} (pick t (pick u 0 2) 1) 0 → Ready n m us vs b
      go true p true q z =
          let x = both_true (leb n most_cells) (leb m most_borders) p in
          let y = both_true (ends_exist n m us vs) (book_holds m none_given b) q in
          record { fits = record { few_vertices = leb-true n most_cells x.0; few_edges = leb-true m most_borders x.1; ends = all_ends n us vs m y.0 }; holds = y.1 }
      go true p false q z = absurd (omega arith)
      go false p u q z = absurd (omega arith)

-- MAKING
module _ (n : ℕ) (us vs : List ℕ) (count : ℕ) where
  pub make_vertices : most_cells < n → answer 1 zero_room ≡ make_of n us vs count
  make_vertices h = rw (lt-leb n most_cells h)

  pub make_edges : n ≤ most_cells → most_borders < length us → answer 1 zero_room ≡ make_of n us vs count
  make_edges h k = rw (le-leb n most_cells h, lt-leb (length us) most_borders k)

  module _ (h : n ≤ most_cells) (k : length us ≤ most_borders) (e : length us ≡ length vs) where
    pub filled : {r : CityCountConstraint} {a b : List ℕ} → r ≡ fresh_room n (length us) zeros zeros count → a ≡ sets r.us 0 us → b ≡ sets r.vs 0 vs
        → ends_exist n (length us) us vs ≡ true → answer 0 (room_of r.vertices r.edges a b r.count r.book) ≡ make_of n us vs count
    filled er ea eb t = rw (ea, eb, er) (simp (le-leb n most_cells h, le-leb (length us) most_borders k, eq-eqb (length us) (length vs) e, t))

-- a graph that holds together, with its edges' states, as slices of as many places as there are edges
module _ (r : CityCountConstraint) (z : room_code r ≡ 0) (us_are : length (take r.edges r.us) ≡ r.edges) (vs_are : length (take r.edges r.vs) ≡ r.edges)
    (states_are : length (take r.edges r.book.states) ≡ r.edges) where
  pub lent_room : rooms.Lent r.vertices (length (take r.edges r.book.states)) (take r.edges r.us) (take r.edges r.vs) (take r.edges r.book.states)
  lent_room =
      let f = (ready r.vertices r.edges r.us r.vs r.book z).fits in
      rw states_are
      (record {
        few_vertices = f.few_vertices;
        few_edges = f.few_edges;
        us_long = omega (arith, us_are);
        vs_long = omega (arith, vs_are);
        states_long = omega (arith, states_are);
        us_exist = λ i h. rw (get_or-take r.edges r.us i 0 h) (f.ends i h).0;
        vs_exist = λ i h. rw (get_or-take r.edges r.vs i 0 h) (f.ends i h).1;
      })

-- the check of the slices is that of the record
pub fault_taken : (r : CityCountConstraint) {us vs states : List ℕ} {n : ℕ} → n ≡ r.vertices → us ≡ take r.edges r.us → vs ≡ take r.edges r.vs
    → (states ≡ take r.edges r.book.states) × (length states ≡ r.edges)
    → lone_fault (rooms.graph_of n us vs states) r.count (rooms.states_in states) ≡ fault_of r
fault_taken r en eu ev es =
    let states_are : length (take r.edges r.book.states) ≡ r.edges = rw es.0 at es.1 in
    rw (en, eu, ev, es.0, states_are)
    (lone_ends r.vertices r.edges (take r.edges r.us) (take r.edges r.vs) r.us r.vs r.count (rooms.states_in (take r.edges r.book.states))
    (λ i h. get_or-take r.edges r.us i 0 h)
    (λ i h. get_or-take r.edges r.vs i 0 h)
    ∙ lone_agrees (graph_of r) r.count (rooms.states_in (take r.edges r.book.states)) (rooms.states_in r.book.states) (λ i h. get_or-take r.edges r.book.states i 0 h))

-- what is found is what the ask comes to
pub asked : (r : CityCountConstraint) {buffer buffer' : List ℕ} {f : std.Option ℕ} → room_code r ≡ 0 → r.edges ≤ length buffer → {o : Option (List ℕ)} → o ≡ fault_of r
    → Finds o buffer buffer' f → Answers (ask_of r (length buffer)) (Ok f) × (buffer' ≡ written (ask_of r (length buffer)) buffer)
asked r {buffer} z h {o} e k =
    let a : ask_of r (length buffer) ≡ found o = simp (z, le-leb r.edges (length buffer) h, sym e) in
    rw (a, k.answer) (says o, k.stored)
  where
    says : (o : Option (List ℕ)) → answer_in (Ok (length_found o)) ≡ answer_of (found o)
    says none = refl
    says (some l) = refl

-- an ask of a record that holds together, with a long enough buffer
pub ask_accepted : (r : CityCountConstraint) (places : ℕ) → room_code r ≡ 0 → r.edges ≤ places → ask_of r places ≡ found (fault_of r)
ask_accepted r places z h = simp (z, le-leb r.edges places h)

-- a decide by way of its entry
pub one_entry : (r : CityCountConstraint) (e : ℕ) (wall : Bool) (x : ℕ) → Entry e wall x → stroke_of r (decisions (x ∷ [])) ≡ decide_of r e wall
one_entry r e wall x k =
    as_decide (λ c m. answered c r m) (λ c z m m'. rw (ne_eqb c 0 z)) (room_code r) r.edges r.book e wall x
    (λ z. (ready r.vertices r.edges r.us r.vs r.book z).fits.few_edges) k
