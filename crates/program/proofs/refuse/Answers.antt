-- `program::refuse` is safe: the line has its places. Assumes nothing.
use mathlib.Core.Path.{sym}
use Rattle.program.proofs.PrintLaws.{bare_lined}
use Rattle.program.proofs.refuse.Goals as goal

pub slice_bounds-out-end : goal.slice_bounds-out-end
slice_bounds-out-end g c =
    let l = bare_lined c.put_line-len.result c.large_buffer-out.result c.put_line-len.new.buffer (sym c.large_buffer-out.ensures) c.put_line-len.auto.buffer c.put_line-len.ensures.fits in
    l.within

pub slice_bounds-write_all-end : goal.slice_bounds-write_all-end
slice_bounds-write_all-end g c =
    let l = bare_lined c.put_line-len.result c.large_buffer-out.result c.put_line-len.new.buffer (sym c.large_buffer-out.ensures) c.put_line-len.auto.buffer c.put_line-len.ensures.fits in
    l.long
