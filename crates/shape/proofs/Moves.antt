-- All that the check's laws use of an offset: where it puts a cell, and that a step goes with its image, the turned step. Assumes nothing.
use Prim.Native.Nat.{ℕ}
use mathlib.Core.Path.{◌≡◌, sym, ◌∙◌, subst}
use mathlib.Core.Option.{some, some-injective}
use Rattle.frame.proofs.Offset.{Placement}
use Rattle.grid.specs.declared.Direction.{Direction}
use Rattle.grid.specs.declared.Grid.{Grid}
use Rattle.grid.specs.Grid.{Cell, border}
use Rattle.grid.specs.Steps.{Step, Neighbours}
use Rattle.shape.specs.Shape.{Offset}

-- the offset o computes the relation T
pub record Moves (g : Grid) (o : Offset) (T : ℕ → ℕ → Type 0) : Type 0 where
  pub puts : (a x : ℕ) → T a x → o.put a ≡ some x
  pub is_put : (a x : ℕ) → Cell g a → o.put a ≡ some x → T a x
  pub from : (a x : ℕ) → T a x → Cell g a
  pub to : (a x : ℕ) → T a x → Cell g x
  pub step_on : (d : Direction) (a b x y e : ℕ) → T a x → T b y → Step g d a b e → Step g (o.turn d) x y (border g (o.turn d) x)
  pub step_off : (d : Direction) (a b x y e : ℕ) → T a x → T b y → Step g (o.turn d) x y e → Step g d a b (border g d a)
  pub follows : (d : Direction) (a b x y e e' : ℕ) → T a x → Step g d a b e → Step g (o.turn d) x y e' → T b y
  -- each direction is one that is turned
  pub back : Direction → Direction
  pub turn_back : (d : Direction) → o.turn (back d) ≡ d

module _ (g : Grid) (o : Offset) (T : ℕ → ℕ → Type 0) (v : Moves g o T) where
  -- a step of the landing, as the turned step that it is
  pub turned_step : (d : Direction) (x y e : ℕ) → Step g d x y e → Step g (o.turn (v.back d)) x y e
  turned_step d x y e s = subst (λ (d : Direction). Step g d x y e) (sym (v.turn_back d)) s

  pub placement : Placement (Neighbours g) T
  placement =
      record {
        one = λ a x y p q. some-injective x y (sym (v.puts a x p) ∙ v.puts a y q);
        keeps = λ a b x y e p q n. (border g (o.turn n.0) x, (o.turn n.0, v.step_on n.0 a b x y e p q n.1));
        comes = λ a b x y e p q n.
            let d = v.back n.0 in (border g d a, (d, v.step_off d a b x y e p q (turned_step n.0 x y e n.1)));
      }
