-- THE PROMISE of the call, on every record that it accepts and after every list of calls from a fresh puzzle. Assumes nothing.
use Prim.Native.Nat.{ℕ, zero, suc, ◌+◌, ◌*◌, ◌≤◌, ◌<◌}
use mathlib.Core.Path.{◌≡◌, refl, ap, sym, ◌∙◌}
use mathlib.Core.Logic.{inl, inr, ⊎_elim, ◌↔◌}
use mathlib.Core.Bool.{Bool, true, false, true≢false}
use mathlib.Core.List.{List, [], ◌∷◌, ◌++◌, append_assoc}
use native.Mathlib.Omega.{arith}
use native.Mathlib.Nat.{zero-mul, suc-mul, mul-le-mul_right}
use borrow.Author.Tests.{ne_eqb}
use lib.Dec.{eqb, ltb}
use lib.ListN.{length, take, drop, length-append, take-append-drop}
use lib.Seq.{sets, sets-eq, take_at, drop_at}
use Rattle.lists.specs.Choice.{pick}
use Rattle.lists.specs.Lists.{In, gather}
use Rattle.lists.proofs.ListLaws.{in_left}
use Rattle.frame.specs.Frame.{States}
use Rattle.grid.specs.declared.Grid.{Grid}
use Rattle.images.specs.declared.Image.{Image}
use Rattle.grid.specs.Grid.{grid, border_count}
use Rattle.ledger.specs.Ledger.{whole}
use Rattle.ledger.proofs.Codes.{clear_both}
use Rattle.ledger.specs.Books.{state_at}
use Rattle.ledger.specs.declared.Book.{Book}
use Rattle.ledger.proofs.Standing.{standing_given}
use Rattle.rooms.specs.Rooms.{is_given}
use Rattle.rooms.specs.Units.{GivenWalls}
use Rattle.rooms.proofs.RoomLaws.{given_in_lem}
use Rattle.clues.proofs.Fitting.{lists_fit}
use Rattle.puzzle.specs.declared.Puzzle.{Puzzle}
use Rattle.puzzle.specs.declared.kind.Kind.{Kind}
use Rattle.puzzle.specs.Kind.{images_of, kind_images}
use Rattle.puzzle.specs.Puzzle.{states_of, fresh_puzzle, make_of, grid_of, book_of, borders_of, given_of, clues_of, puzzle_code, onto}
use Rattle.puzzle.proofs.Basics.{states_length, states_at, states_same}
use Rattle.puzzle.proofs.Making.{given_kept, clues_kept, given_inside}
use Rattle.puzzle.proofs.Ready.{ready}
use Rattle.demand_3.specs.Run.{Call, ledger_after, state_after}
use Rattle.demand_3.specs.Demand3.{after}
use Rattle.demand_3.proofs.FaultLaws.{Small}
use Rattle.demand_3.proofs.Reached.{reached_code}
use Rattle.demand_3.proofs.Asks.{states_ok}
use Rattle.demand_3.proofs.Demand3.{accepted, reached_calls}
use Rattle.enumerate.specs.Boards.{Boards}
use Rattle.enumerate.specs.Boards.{Listed, Refused}
use Rattle.enumerate.specs.Boards.{rights, states_in, rights_of, places_code, boards_code, Enumerated, listing, answered, boards_of}
use Rattle.enumerate.specs.AllAnswers.{IsAnswer, JustOne, boards_in, AllAnswers, Fulfilled}
use Rattle.enumerate.proofs.Codes.{enough_places}
use Rattle.enumerate.proofs.Starting.{right_long, states_good, walls_stand}
use Rattle.enumerate.proofs.Order.{not_itself}
use Rattle.enumerate.proofs.AllAnswers.{all_answers}

-- THE BUFFER
-- boards of n bytes each, one behind the other
module _ (n : ℕ) where
  abbrev Each : List (List ℕ) → Type 0
  Each bs = (b : List ℕ) → In b bs → length b ≡ n

  gathered_long : (bs : List (List ℕ)) → Each bs → length (gather (λ b. b) bs) ≡ length bs * n
  unfolding gather
  gathered_long [] each = sym (zero-mul n)
  gathered_long (b ∷ bs) each =
      length-append b (gather (λ c. c) bs)
      ∙ omega (arith, each b (inl refl), gathered_long bs (λ c m. each c (inr m)), suc-mul (length bs) n)

  read_back : (bs : List (List ℕ)) (rest : List ℕ) → Each bs → boards_in n (length bs) (gather (λ b. b) bs ++ rest) ≡ bs
  unfolding gather boards_in
  read_back [] rest each = refl
  read_back (b ∷ bs) rest each =
      rw (append_assoc b (gather (λ c. c) bs) rest, take_at b (gather (λ c. c) bs ++ rest) n (each b (inl refl)), drop_at b (gather (λ c. c) bs ++ rest) n (each b (inl refl)))
      (ap (λ l. b ∷ l) (read_back bs rest (λ c m. each c (inr m))))

  module _ (bs : List (List ℕ)) (buf : List ℕ) (each : Each bs) (fits : length bs * n ≤ length buf) where
    stored : sets buf 0 (gather (λ b. b) bs) ≡ gather (λ b. b) bs ++ drop (length bs * n) buf
    stored =
        let q = gathered_long bs each in
        let z : 0 + length (gather (λ b. b) bs) ≡ length bs * n = omega (arith, q) in
        sets-eq (gather (λ b. b) bs) buf 0 (omega (arith, q)) ∙ ap (λ k. gather (λ b. b) bs ++ drop k buf) z

    written_back : boards_in n (length bs) (sets buf 0 (gather (λ b. b) bs)) ≡ bs
    written_back = rw stored (read_back bs (drop (length bs * n) buf) each)

    behind_stays : drop (length bs * n) (sets buf 0 (gather (λ b. b) bs)) ≡ drop (length bs * n) buf
    behind_stays = rw stored (drop_at (gather (λ b. b) bs) (drop (length bs * n) buf) (length bs * n) (gathered_long bs each))

-- THE ANSWER
abbrev boards_counted : Boards → ℕ
boards_counted (Listed k more) = k
boards_counted (Refused k) = k

abbrev more_said : Boards → Bool
more_said (Listed k more) = more
more_said (Refused k) = false

abbrev is_listed : Boards → Bool
is_listed (Listed k more) = true
is_listed (Refused k) = false

-- an answer with boards is no refusal
listed_code : (code : ℕ) (boards : List (List ℕ)) (cap : ℕ) (buf : List ℕ) (count : ℕ) (more : Bool) → (answered code boards cap buf).answer ≡ Listed count more → code ≡ 0
listed_code zero boards cap buf count more q = refl
listed_code (suc code) boards cap buf count more q = absurd (true≢false (sym (ap is_listed q) ∙ ap (λ t. is_listed (pick t (listing boards cap buf) (record { answer = Refused (suc code); buffer = buf })).answer) (ne_eqb (suc code) 0 (omega arith))))

module _ (ms : List Image) (g : Grid) (given clues : List ℕ) (s : States) (small : Small g given clues) (ok : (e : ℕ) → e < border_count g → s e ≤ 2) (walls : GivenWalls given s)
    (inside : (e : ℕ) → is_given given e ≡ true → e < border_count g) (cap : ℕ) (buf : List ℕ) where
  abbrev S : List ℕ
  S = states_of (border_count g) s

  abbrev R : List (List ℕ)
  R = rights ms g given clues S

  each_long : (b : List ℕ) → In b (take cap R) → length b ≡ border_count g
  each_long b m =
      right_long ms g given clues S b (rw (take-append-drop cap R) at (in_left b (take cap R) (drop cap R) m)) ∙ states_length (border_count g) s

  -- a listing of them is what is promised
  listing_fulfils : cap * length S ≤ length buf → Fulfilled ms g given clues s cap buf (length (take cap R)) (ltb cap (length R)) (listing R cap buf).buffer
  listing_fulfils places =
      let a = all_answers ms g given clues s small ok walls inside cap in
      let z : cap * border_count g ≤ length buf = rw (states_length (border_count g) s) at places in
      let fits : length (take cap R) * border_count g ≤ length buf = omega (arith, mul-le-mul_right {m = length (take cap R)} {n = cap} (border_count g) a.most) in
      record {
        answers = rw (written_back (border_count g) (take cap R) buf each_long fits) a;
        behind = behind_stays (border_count g) (take cap R) buf each_long fits;
      }

  by_answer : (count : ℕ) (more : Bool) → cap * length S ≤ length buf → (listing R cap buf).answer ≡ Listed count more → Fulfilled ms g given clues s cap buf count more (listing R cap buf).buffer
  by_answer count more places q = rw (← ap boards_counted q, ← ap more_said q) (listing_fulfils places)

  fulfilled : (code count : ℕ) (more : Bool) → (code ≡ 0 → cap * length S ≤ length buf) → (answered code R cap buf).answer ≡ Listed count more
      → Fulfilled ms g given clues s cap buf count more (answered code R cap buf).buffer
  fulfilled zero count more places q = by_answer count more (places refl) q
  fulfilled (suc code) count more places q = absurd (omega (arith, listed_code (suc code) R cap buf count more q))

-- ON EVERY RECORD
module _ (p : Puzzle) (cap : ℕ) (buf : List ℕ) where
  pub every_puzzle : (count : ℕ) (more : Bool) → (boards_of p cap buf).answer ≡ Listed count more
      → Fulfilled (images_of p.kind) (grid_of p) (given_of p) (clues_of p) (state_at (book_of p).states) cap buf count more (boards_of p cap buf).buffer
  every_puzzle count more q =
      let codes = clear_both (puzzle_code p) (places_code (states_in p) cap (length buf)) (listed_code (boards_code p cap buf) (rights_of p) cap buf count more q) in
      let r = ready p codes.0 in
      let fit = lists_fit (grid_of p) (given_of p) (clues_of p) r.lists in
      fulfilled (images_of p.kind) (grid_of p) (given_of p) (clues_of p) (state_at (book_of p).states) fit.small
      (λ e l. rw (states_at (borders_of p) (state_at (book_of p).states) e l) at (states_good p r e l))
      (walls_stand p r) (λ e k. fit.inside e (given_in_lem (given_of p) e k)) cap buf (boards_code p cap buf) count more
      (λ z. enough_places (states_in p) cap (length buf) codes.1) q

  -- a refusal changes no byte
  pub refused_stays : (k : ℕ) → (boards_of p cap buf).answer ≡ Refused k → (boards_of p cap buf).buffer ≡ buf
  refused_stays k q = go (eqb (boards_code p cap buf) 0) (boards_code p cap buf) (listing (rights_of p) cap buf) refl q
    where
      go : (t : Bool) (code : ℕ) (x : Enumerated) → is_listed x.answer ≡ true → (pick t x (record { answer = Refused code; buffer = buf })).answer ≡ Refused k
          → (pick t x (record { answer = Refused code; buffer = buf })).buffer ≡ buf
      go true code x l q = absurd (true≢false (sym l ∙ ap is_listed q))
      go false code x l q = refl

-- a cap of 0 tells whether an answer exists
pub one_exists : (p : Puzzle) (buf : List ℕ) (count : ℕ) (more : Bool) → (boards_of p 0 buf).answer ≡ Listed count more
    → (more ≡ true) ↔ ((b : List ℕ) × IsAnswer (images_of p.kind) (grid_of p) (given_of p) (clues_of p) (state_at (book_of p).states) b)
one_exists p buf count more q =
    let a = (every_puzzle p 0 buf count more q).answers in
    (λ t. let o = a.beyond.0 t in (o.0, o.1), λ o. a.beyond.1 (o.0, o.1, λ m. none_written (boards_in (borders_of p) count (boards_of p 0 buf).buffer) a.most o.0 m))
  where
    none_written : (bs : List (List ℕ)) → length bs ≤ 0 → (b : List ℕ) → In b bs → ⊥
    none_written [] l b m = m
    none_written (c ∷ bs) l b m = absurd (omega arith)

-- where no more is said, exactly the answers are written
pub exactly : {ms : List Image} {g : Grid} {given clues : List ℕ} {s : States} {cap : ℕ} {boards : List (List ℕ)} → AllAnswers ms g given clues s cap boards false
    → (b : List ℕ) → In b boards ↔ IsAnswer ms g given clues s b
exactly a b = (
  a.only b,
  λ k.
      ⊎_elim
      (λ m. m)
      (λ o. absurd (true≢false (sym (a.beyond.1 (b, k, λ m. not_itself b (o.1 b m))))))
      (a.whole b k),
)

-- of boards up to a cap of 1, one is written and no more is said exactly when there is one answer and no other
module _ {ms : List Image} {g : Grid} {given clues : List ℕ} {s : States} where
  one_of : (boards : List (List ℕ)) (more : Bool) → AllAnswers ms g given clues s 1 boards more → ((length boards ≡ 1) × (more ≡ false)) ↔ JustOne ms g given clues s
  one_of [] more a = (
    λ o. absurd (omega (arith, o.0)),
    λ u. absurd (⊎_elim (λ m. m) (λ o. omega (arith, o.0)) (a.whole u.board u.answer)),
  )
  one_of (b ∷ []) more a = (
    λ o. record { board = b; answer = a.only b (inl refl); only = λ c k. alone c ((exactly (rw o.1 at a) c).1 k) },
    λ u. (refl, said more a u),
  )
    where
      alone : (c : List ℕ) → In c (b ∷ []) → c ≡ b
      alone c (inl q) = q
      alone c (inr m) = absurd m

      said : (t : Bool) → AllAnswers ms g given clues s 1 (b ∷ []) t → JustOne ms g given clues s → t ≡ false
      said false x u = refl
      said true x u = let o = x.beyond.0 refl in absurd (o.2 (inl (u.only o.0 o.1 ∙ sym (u.only b (x.only b (inl refl))))))
  one_of (b ∷ c ∷ bs) more a = absurd (omega (arith, a.most))

boards_many : (n k : ℕ) (buf : List ℕ) → length (boards_in n k buf) ≡ k
unfolding boards_in
boards_many n zero buf = refl
boards_many n (suc k) buf = ap suc (boards_many n k (drop n buf))

-- a cap of 1 tells whether there is just one answer
pub just_one : (p : Puzzle) (buf : List ℕ) (count : ℕ) (more : Bool) → (boards_of p 1 buf).answer ≡ Listed count more
    → ((count ≡ 1) × (more ≡ false)) ↔ JustOne (images_of p.kind) (grid_of p) (given_of p) (clues_of p) (state_at (book_of p).states)
just_one p buf count more q =
    let k = one_of (boards_in (borders_of p) count (boards_of p 1 buf).buffer) more (every_puzzle p 1 buf count more q).answers in
    let e = boards_many (borders_of p) count (boards_of p 1 buf).buffer in
    (λ o. k.0 (e ∙ o.0, o.1), λ u. (sym e ∙ (k.1 u).0, (k.1 u).1))

-- AFTER EVERY LIST OF CALLS from a fresh puzzle
module _ (kind : Kind) (h w : ℕ) (given clues : List ℕ) (made : (make_of kind h w given clues).code ≡ 0) where
  -- what stands after the calls, as a list of states
  abbrev pub standing_list : List Call → List ℕ
  standing_list calls = states_of (border_count (grid h w)) (state_after h w given calls)

  module _ (calls : List Call) (cap : ℕ) (buf : List ℕ) where
    on_book : (b : Book) → puzzle_code (onto (fresh_puzzle kind (grid h w) given clues) b) ≡ 0 → states_of (border_count (grid h w)) (state_at b.states) ≡ standing_list calls
        → boards_of (onto (fresh_puzzle kind (grid h w) given clues) b) cap buf
        ≡ answered (places_code (standing_list calls) cap (length buf)) (rights (kind_images kind) (grid h w) given clues (standing_list calls)) cap buf
    on_book b code q =
        let a = accepted kind h w given clues made in
        rw (code, given_kept kind h w given clues a, clues_kept kind h w given clues a, q)

    -- THE ANSWER depends on the standing borders alone
    pub exact : boards_of (after kind h w given clues calls) cap buf
        ≡ answered (places_code (standing_list calls) cap (length buf)) (rights (kind_images kind) (grid h w) given clues (standing_list calls)) cap buf
    exact =
        let a = accepted kind h w given clues made in
        let L = ledger_after h w given calls in
        let p = after kind h w given clues calls in
        let r = reached_calls kind h w given clues made calls in
        rw r.constants
        (on_book (book_of p) (sym (ap puzzle_code r.constants) ∙ reached_code kind h w given clues a L p r)
        (states_same (border_count (grid h w)) (state_at (book_of p).states) (state_after h w given calls) (λ e l. r.stood.stands e l)))

    pub after_calls_lem : (count : ℕ) (more : Bool) → (boards_of (after kind h w given clues calls) cap buf).answer ≡ Listed count more
        → Fulfilled (kind_images kind) (grid h w) given clues (state_after h w given calls) cap buf count more (boards_of (after kind h w given clues calls) cap buf).buffer
    after_calls_lem count more q =
        let a = accepted kind h w given clues made in
        let L = ledger_after h w given calls in
        let r = reached_calls kind h w given clues made calls in
        rw exact
        (fulfilled (kind_images kind) (grid h w) given clues (state_after h w given calls) a.fit.small
        (λ e l. rw (states_at (border_count (grid h w)) (state_after h w given calls) e l) at (states_ok h w given clues a L r.stood.sound e l))
        (λ e k. standing_given (border_count (grid h w)) (is_given given) (whole L) e k) (given_inside h w given clues a) cap buf
        (places_code (standing_list calls) cap (length buf)) count more (enough_places (standing_list calls) cap (length buf)) (rw exact at q))

  pub same : (a b : List Call) → ((e : ℕ) → e < border_count (grid h w) → state_after h w given a e ≡ state_after h w given b e)
      → (cap : ℕ) (buf : List ℕ) → boards_of (after kind h w given clues a) cap buf ≡ boards_of (after kind h w given clues b) cap buf
  same a b alike cap buf =
      let q : standing_list a ≡ standing_list b = states_same (border_count (grid h w)) (state_after h w given a) (state_after h w given b) alike in
      exact a cap buf ∙ ap (λ s. answered (places_code s cap (length buf)) (rights (kind_images kind) (grid h w) given clues s) cap buf) q ∙ sym (exact b cap buf)
