use Rattle.std.proofs.Common.{◌<◌, length, get_or, arith}
use Rattle.std.proofs.lemmas.List.{get_or_default}
use Rattle.ir_program.specs.declared.program.Span.{Span}
use Rattle.ir_program.specs.Parts.{span_of}
use Rattle.aces_why.specs.Warnings.{periph_line}
use Rattle.aces_why.specs.Subjects.{subject_of}
use Rattle.aces_why.proofs.Numbering.{put_none, put_numbered, put_whole}
use Rattle.aces_why.proofs.warnings.put_periphs.Goals as goal

pub loop-periph-init : goal.loop-periph-init
loop-periph-init c = put_none c.args.text.now

pub loop-periph-preserved : goal.loop-periph-preserved
loop-periph-preserved c =
    let ws = c.args.periphs.now in
    let i = c.loop-periph.periph in
    let x : Span = get_or ws i (record { base = 0; size = 0 }) in
    let l : i < length ws = omega arith in
    put_numbered span_of (periph_line (subject_of c.args.subject.now)) ws i c.args.text.now c.loop-periph.text c.loop-periph.invariant
    x c.put_unused.new.text l (get_or_default ws i (record { base = 0; size = 0 }) x l) c.in_ok-put_unused.ensures

pub returns : goal.returns
returns c = put_whole span_of (periph_line (subject_of c.args.subject.now)) c.args.periphs.now c.loop-periph.periph c.args.text.now c.loop-periph.text c.loop-periph.invariant (omega arith)
