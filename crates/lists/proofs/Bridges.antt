-- Std's words for a test of a whole list and for what `fill` leaves, to which the contracts of `all` and `fill` lead, and ours. Assumes nothing.
use Rattle.std.proofs.Common.{◌≡◌, sym, ◌∙◌, ℕ, ◌<◌, ◌↔◌, Bool, List, All, IsTrue, length, get_or}
use lib.Seq.{ext_get_or}
use lib.ListN.{replicate, length-replicate, get_or-replicate}
use Rattle.lists.specs.Lists.{all}
use Rattle.lists.proofs.ChoiceLaws.{same_truth}
use Rattle.lists.proofs.ListLaws.{all_true, true_all, in_get_d, get_d_in}

-- where `iter().all(..)` is shown to test each element (mostly by `search rules`), it answers our `all`
pub all_is : {A : Type 0} (p : A → Bool) (xs : List A) (r : Bool) → IsTrue r ↔ All (λ x. IsTrue (p x)) xs → r ≡ all p xs
all_is p xs r e =
    same_truth r (all p xs)
    (λ q. true_all p xs (λ x m. let o = in_get_d x x xs m in rw o.2 at (e.0 q o.0 x o.1)))
    (λ q. e.1 (λ k d h. all_true p xs q (get_or xs k d) (get_d_in d xs k h)))

-- what `fill` leaves in a part of n places
pub filled : (ys : List ℕ) (n v : ℕ) → length ys ≡ n → ((k : ℕ) → k < n → get_or ys k 0 ≡ v) → ys ≡ replicate n v
filled ys n v size each = ext_get_or 0 ys (replicate n v) (size ∙ sym (length-replicate {A = ℕ} n v)) (λ j q. let l : j < n = rw size at q in each j l ∙ sym (get_or-replicate n j v 0 l))
