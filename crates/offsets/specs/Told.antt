-- What a function answers by std's `Option`. Assumes nothing.
use Rattle.std.specs.Prelude as std
use Rattle.std.proofs.Math.Option.{Option, none, some}

abbrev pub told : {A : Type 0} → Option A → std.Option A
told none = std.None
told (some x) = std.Some x
