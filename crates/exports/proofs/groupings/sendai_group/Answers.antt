-- `exports::groupings::sendai_group` meets its contract: what is copied is the part that was handed out, or nothing. Assumes nothing.
use Prim.Native.Nat.{ℕ, ◌≤◌, ◌<◌}
use mathlib.Core.Path.{◌≡◌, refl}
use mathlib.Core.List.{List}
use borrow.Author.Tests.{le-leb, lt-leb}
use lib.ListN.{length}
use lib.Seq.{sets}
use Rattle.exports.specs.Groups.{copied_of}
use Rattle.exports.proofs.groupings.sendai_group.Goals as goal

module _ (part handed out : List ℕ) (e : part ≡ handed) where
  abbrev Copied : ℕ → List ℕ → Type 0
  Copied n out' = (n ≡ length (copied_of handed (length out))) × (out' ≡ sets out 0 (copied_of handed (length out)))

  short : length out < length part → Copied 0 out
  short h = rw (← e) (rw (lt-leb (length part) (length out) h) (refl, refl))

  long : {out' : List ℕ} → length part ≤ length out → out' ≡ sets out 0 part → Copied (length part) out'
  long h q = rw (← e) (rw (le-leb (length part) (length out) h) (refl, q))

pub returns-then-out-part : goal.returns-then-out-part
returns-then-out-part c = let w = short _ _ c.args.out.now c.group-part.ensures.result_value c.if-out-part.true in record { value = w.0; out_after = w.1 }

pub returns : goal.returns
returns c = let w = long _ _ c.args.out.now c.group-part.ensures.result_value c.if-out-part.false c.copy.ensures in record { value = w.0; out_after = w.1 }
