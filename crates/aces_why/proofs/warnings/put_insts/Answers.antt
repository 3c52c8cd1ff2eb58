use Rattle.std.proofs.Common.{arith}
use Rattle.ir_program.specs.Parts.{operation_of}
use Rattle.aces_why.specs.Warnings.{const_line}
use Rattle.aces_why.specs.Subjects.{subject_of}
use Rattle.aces_why.proofs.Numbering.{put_none, put_numbered, put_whole}
use Rattle.aces_why.proofs.warnings.put_insts.Goals as goal

pub loop-inst-init : goal.loop-inst-init
loop-inst-init c = λ ks. put_none c.args.text.now

pub loop-inst-preserved : goal.loop-inst-preserved
loop-inst-preserved c = λ ks.
    put_numbered (operation_of ks) (const_line (subject_of c.args.subject.now) c.args.func c.args.block) c.args.operations.now c.loop-inst.inst c.args.text.now c.loop-inst.text (c.loop-inst.invariant ks)
    c.index-operations-inst.result c.put_inst.new.text (omega arith) c.index-operations-inst.is (c.in_ok-put_inst.ensures ks)

pub returns : goal.returns
returns c = λ ks. put_whole (operation_of ks) (const_line (subject_of c.args.subject.now) c.args.func c.args.block) c.args.operations.now c.loop-inst.inst c.args.text.now c.loop-inst.text (c.loop-inst.invariant ks) (omega arith)
