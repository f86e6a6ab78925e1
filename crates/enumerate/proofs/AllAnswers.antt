-- The boards of the definition are exactly the answers, rising, and of those as many as the cap are what is promised. Assumes nothing.
use Prim.Native.Nat.{ℕ, ◌≤◌, ◌<◌}
use mathlib.Core.Path.{◌≡◌, refl, ap, sym, ◌∙◌}
use mathlib.Core.Logic.{inl, inr, ⊎_elim, ◌≢◌}
use mathlib.Core.Bool.{true, true≢false}
use mathlib.Core.List.{List, [], ◌++◌}
use mathlib.Core.Option.{Option, none, some}
use native.Mathlib.Omega.{arith}
use native.Mathlib.Nat.{min-le_left}
use borrow.Author.Tests.{ltb-true, lt-ltb}
use lib.Dec.{ltb}
use lib.ListN.{length, take, drop, get_or, length-take, take-append-drop, drop_of_length-le}
use lib.Seq.{take_all, drop-cons, length-take-le}
use Rattle.lists.specs.Lists.{In}
use Rattle.lists.proofs.Cases.{le_or_lt}
use Rattle.lists.proofs.ListLaws.{in_left, in_append, in_keep, keep_in, get_d_in}
use Rattle.frame.specs.Frame.{States}
use Rattle.grid.specs.declared.Grid.{Grid}
use Rattle.images.specs.declared.Image.{Image}
use Rattle.grid.specs.Grid.{border_count}
use Rattle.borders.specs.Border.{state_of}
use Rattle.shape.specs.Laws.{FullBoard}
use Rattle.rooms.specs.Rooms.{is_given}
use Rattle.rooms.specs.Units.{GivenWalls}
use Rattle.puzzle.specs.Fault.{Found, fault_of}
use Rattle.puzzle.specs.Puzzle.{states_of}
use Rattle.puzzle.proofs.Basics.{states_length, states_at}
use Rattle.demand_3.proofs.FaultLaws.{Small, fault_full}
use Rattle.enumerate.specs.Boards.{extensions, is_nothing, is_right, rights}
use Rattle.enumerate.specs.AllAnswers.{IsAnswer, Before, Rising, AllAnswers}
use Rattle.enumerate.proofs.Extensions.{in_extensions, extension_in, over_long, over_stands, over_full, is_over}
use Rattle.enumerate.proofs.Order.{not_itself, front_before, all_rising, keep_rising, take_rising}

-- WHICH BOARDS ARE RIGHT: those of the definition are the answers
nothing_none : (o : Option Found) → is_nothing o ≡ true → o ≡ none
nothing_none none q = refl
nothing_none (some f) q = absurd (true≢false (sym q))

module _ (ms : List Image) (g : Grid) (given clues : List ℕ) (s : States) (small : Small g given clues) (ok : (e : ℕ) → e < border_count g → s e ≤ 2) (walls : GivenWalls given s)
    (inside : (e : ℕ) → is_given given e ≡ true → e < border_count g) where
  abbrev n : ℕ
  n = border_count g

  abbrev R : List (List ℕ)
  R = rights ms g given clues (states_of n s)

  at : (e : ℕ) → e < n → get_or (states_of n s) e 0 ≡ s e
  at e l = states_at n s e l

  long : length (states_of n s) ≡ n
  long = states_length n s

  right_answer : (b : List ℕ) → In b (rights ms g given clues (states_of (border_count g) s)) → IsAnswer ms g given clues s b
  unfolding rights is_right
  right_answer b m =
      let k = in_keep (is_right ms g given clues) (extensions (states_of n s)) b m in
      let o = in_extensions (states_of n s) b k.0 in
      let full : FullBoard g (state_of b) = λ e l. over_full (states_of n s) b o e (omega (arith, long)) (rw (at e l) (ok e l)) in
      let stands : (e : ℕ) → e < n → s e ≢ 0 → state_of b e ≡ s e = λ e l z. over_stands (states_of n s) b o e (rw (at e l) z) ∙ at e l in
      record {
        each = over_long (states_of n s) b o ∙ long;
        full = full;
        extends = stands;
        right = (fault_full ms g given clues small b full (λ e q. stands e (inside e q) (λ z. omega (arith, z, walls e q)) ∙ walls e q)).0
            (nothing_none (fault_of ms g given clues b) k.1);
      }

  answer_right : (b : List ℕ) → IsAnswer ms g given clues s b → In b (rights ms g given clues (states_of (border_count g) s))
  unfolding rights is_right
  answer_right b a =
      let o = is_over (states_of n s) b (a.each ∙ sym long) (λ e l. a.full e (omega (arith, long)))
      (λ e l z. let h : e < n = omega (arith, long) in a.extends e h (rw (at e h) at z) ∙ sym (at e h)) in
      keep_in (is_right ms g given clues) (extensions (states_of n s)) b (extension_in (states_of n s) b o)
      (ap is_nothing ((fault_full ms g given clues small b a.full a.right.given_walls).1 a.right))

  all_right_rise : Rising R
  unfolding rights
  all_right_rise = keep_rising (is_right ms g given clues) (extensions (states_of n s)) (all_rising (states_of n s))

  -- as many of them as the cap
  module _ (cap : ℕ) where
    split : take cap R ++ drop cap R ≡ R
    split = take-append-drop cap R

    -- one that is not taken comes behind all that are
    left_behind : (b : List ℕ) → In b (drop cap R) → (c : List ℕ) → In c (take cap R) → Before c b
    left_behind b m c k = front_before (take cap R) (drop cap R) (rw split all_right_rise) c b k m

    first_left : cap < length R → In (get_or R cap []) (drop cap R)
    first_left l = rw (drop-cons R cap [] l) (inl refl)

    met : (b : List ℕ) → In b (drop cap R) → length (take cap R) ≡ cap
    met b m =
        ⊎_elim
        (λ (l : length R ≤ cap). absurd (rw (drop_of_length-le R {i = cap} l) at m))
        (λ (l : cap < length R). length-take-le cap R (omega arith))
        (le_or_lt (length R) cap)

    pub all_answers : AllAnswers ms g given clues s cap (take cap (rights ms g given clues (states_of (border_count g) s))) (ltb cap (length (rights ms g given clues (states_of (border_count g) s))))
    all_answers =
        record {
          most = rw (length-take cap R) (min-le_left cap (length R));
          only = λ b m. right_answer b (rw split at (in_left b (take cap R) (drop cap R) m));
          rising = take_rising cap R all_right_rise;
          whole = λ b a. ⊎_elim (λ m. inl m) (λ m. inr (met b m, left_behind b m)) (in_append b (take cap R) (drop cap R) (rw split (answer_right b a)));
          beyond = (
            λ q.
                let l = ltb-true cap (length R) q in
                let b = get_or R cap [] in
                (b, right_answer b (get_d_in [] R cap l), λ m. not_itself b (left_behind b (first_left l) b m)),
            λ o.
                ⊎_elim
                (λ (l : length R ≤ cap). absurd (o.2 (rw (take_all cap R l) (answer_right o.0 o.1))))
                (λ (l : cap < length R). lt-ltb cap (length R) l)
                (le_or_lt (length R) cap),
          );
        }
