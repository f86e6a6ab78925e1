-- `path::list_joined` meets its contract: what `list` answers, or nothing. Assumes nothing.
use Rattle.path.specs.Path.{path_of, path_list}
use Rattle.path.proofs.Answers.{length_told}
use Rattle.path.proofs.list_joined.Goals as goal

pub returns : goal.returns
unfolding path_list
returns c =
    let w = length_told (path_of c.args.b.grid c.args.b.states.now c.args.start c.args.target) _ c.args.buffer.now _ (c.list.ensures.value, c.list.ensures.buffer_after) in
    record { value = rw c.unwrap_or.ensures w.0; buffer_after = w.1 }
