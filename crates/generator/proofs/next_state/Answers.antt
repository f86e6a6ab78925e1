-- `generator::next_state` meets its contract: the machine's shift to the left drops what is beyond 32 bits. Assumes nothing.
use mathlib.Core.Path.{refl}
use Rattle.generator.specs.Generator.{xor_left, xor_right, next_state}
use Rattle.generator.proofs.next_state.Goals as goal

pub returns : goal.returns
unfolding next_state xor_left xor_right
returns c = refl
