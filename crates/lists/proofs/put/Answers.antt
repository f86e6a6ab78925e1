-- `lists::put` meets its contract: the part that is copied over, in the words of `sets`. Assumes nothing.
use Rattle.std.proofs.Common.{arith}
use Rattle.lists.proofs.SetsLaws.{part_written}
use Rattle.lists.proofs.put.Goals as goal

pub returns-clause-buffer_after : goal.returns-clause-buffer_after
returns-clause-buffer_after c =
    rw c.copy_from_slice.ensures.after (part_written c.args.buffer.now c.args.bytes.now c.args.at _ (omega arith) c.requires)
