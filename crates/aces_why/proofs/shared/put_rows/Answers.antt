use Rattle.std.proofs.Common.{map, ap, ◌∙◌, ◌++◌, arith}
use Rattle.ir_program.specs.Parts.{sequence_of}
use Rattle.aces_why.specs.Shared.{shared_line}
use Rattle.aces_why.specs.Subjects.{subject_of}
use Rattle.aces_why.proofs.Numbering.{put_none, put_item, put_items}
use Rattle.aces_why.proofs.shared.put_rows.Goals as goal

pub loop-register-init : goal.loop-register-init
loop-register-init c = λ ks. put_none c.args.text.now

pub loop-register-preserved : goal.loop-register-preserved
loop-register-preserved c = λ ks.
    let g = shared_line (subject_of c.args.subject.now) c.args.func (map (sequence_of ks) c.args.blocks.now) in
    put_item g c.args.rows.now c.loop-register.register c.args.text.now c.loop-register.text (c.loop-register.invariant ks)
    c.index-rows-register.result c.put_shared_register.new.text (omega arith) c.index-rows-register.is
    (c.in_ok-put_shared_register.ensures ks ∙ ap (λ os. c.loop-register.text ++ g c.loop-register.register os) c.as_slice-objects.ensures)

pub returns : goal.returns
returns c = λ ks. put_items (shared_line (subject_of c.args.subject.now) c.args.func (map (sequence_of ks) c.args.blocks.now)) c.args.rows.now c.loop-register.register c.args.text.now c.loop-register.text (c.loop-register.invariant ks) (omega arith)
