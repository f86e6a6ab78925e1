-- `generator::generate` meets its contract: a law for each question, and the file in two parts. Assumes nothing.
use Prim.Native.Nat.{ℕ}
use mathlib.Core.Path.{sym, ap, ◌∙◌}
use mathlib.Core.List.{List}
use lib.Seq.{sets}
use Rattle.lists.specs.Lists.{gather}
use Rattle.case_file.specs.Encode.{call}
use Rattle.generator.specs.Generator.{calls_from}
use Rattle.generator.proofs.FileLaws.{count_told, length_told, places_told, file_told}
use Rattle.generator.proofs.generate.Goals as goal

pub returns-then-count-gt-CALLS : goal.returns-then-count-gt-CALLS
returns-then-count-gt-CALLS c =
    let sizes = sym c.is_within_limits.ensures ∙ c.if-not-is_within_limits.false in let w = count_told c.args.seed c.args.height c.args.width c.args.count c.args.buffer.now sizes c.if-seed-eq0.false c.if-count-gt-CALLS.true in record { value = w.0; buffer_after = w.1 }

pub returns-then-length-gt-CALLS : goal.returns-then-length-gt-CALLS
returns-then-length-gt-CALLS c =
    let sizes = sym c.is_within_limits.ensures ∙ c.if-not-is_within_limits.false in let w = length_told c.args.seed c.args.height c.args.width c.args.count c.args.buffer.now sizes c.if-seed-eq0.false
    c.border_count.result c.calls_length-length.result c.border_count.ensures c.calls_length-length.ensures c.if-length-gt-CALLS.true in record { value = w.0; buffer_after = w.1 }

pub returns-then-buffer-length : goal.returns-then-buffer-length
returns-then-buffer-length c =
    let sizes = sym c.is_within_limits.ensures ∙ c.if-not-is_within_limits.false in let w = places_told c.args.seed c.args.height c.args.width c.args.count c.args.buffer.now sizes c.if-seed-eq0.false
    c.border_count.result c.calls_length-length.result c.border_count.ensures c.calls_length-length.ensures c.if-length-gt-CALLS.false c.if-buffer-length.true in record { value = w.0; buffer_after = w.1 }

pub returns : goal.returns
returns c =
    let sizes = sym c.is_within_limits.ensures ∙ c.if-not-is_within_limits.false in let w = file_told c.args.seed c.args.height c.args.width c.args.count c.args.buffer.now sizes c.if-seed-eq0.false
    c.border_count.result c.calls_length-length.result c.border_count.ensures c.calls_length-length.ensures _ c.if-length-gt-CALLS.false c.if-buffer-length.false
    (c.write_calls.ensures ∙ ap (λ (x : List ℕ). sets x 13 (gather call (calls_from c.border_count.result c.args.count c.args.seed))) c.write_head.ensures) in record { value = w.0; buffer_after = w.1 }
