-- `exports::groupings::copy` meets its contract: what is left to copy, written from i on, gives the whole. Assumes nothing.
use Prim.Native.Nat.{ℕ, ◌+◌, ◌≤◌, ◌<◌}
use mathlib.Core.Path.{◌≡◌, refl, sym, ◌∙◌}
use mathlib.Core.List.{List}
use native.Mathlib.Omega.{arith}
use native.Mathlib.Numerals.{add-one}
use lib.ListN.{length, get_or, set, drop, length-set, drop_of_length-le}
use lib.Seq.{sets, drop-cons}
use Rattle.exports.proofs.groupings.copy.Goals as goal

module _ (part out : List ℕ) (i : ℕ) where
  turn : i < length part → sets out i (drop i part) ≡ sets (set out i (get_or part i 0)) (i + 1) (drop (i + 1) part)
  turn h = rw (drop-cons part i 0 h, add-one)

  end : length part ≤ i → sets out i (drop i part) ≡ out
  end h = rw (drop_of_length-le part {i = i} h)

pub loop-i-init : goal.loop-i-init
loop-i-init c = record { long = refl; written = refl }

pub bounds-out-i : goal.bounds-out-i
bounds-out-i c = omega (arith, c.requires, c.loop-i-test.true, c.loop-i.invariant.long)

pub loop-i-preserved : goal.loop-i-preserved
loop-i-preserved c = record {
  long = simp length-set c.loop-i.invariant.long;
  written = sym (turn c.args.part.now c.loop-i.out c.loop-i.i c.loop-i-test.true) ∙ c.loop-i.invariant.written;
}

pub returns : goal.returns
returns c = sym (end c.args.part.now c.loop-i.out c.loop-i.i c.loop-i-test.false) ∙ c.loop-i.invariant.written
