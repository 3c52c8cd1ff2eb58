use Rattle.std.proofs.Common.{sym, arith}
use Rattle.ir_program.specs.Parts.{routine_of}
use Rattle.aces_why.specs.Lines.{func_lines}
use Rattle.aces_why.specs.Subjects.{subject_of}
use Rattle.aces_why.proofs.Numbering.{put_none, put_numbered, put_whole}
use Rattle.aces_why.proofs.uses.put_uses.Goals as goal

pub loop-func-init : goal.loop-func-init
loop-func-init c = λ ks. put_none c.args.text.now

pub loop-func-preserved : goal.loop-func-preserved
loop-func-preserved c = λ ks.
    put_numbered (routine_of ks) (func_lines (subject_of c.args.subject.now)) c.args.funcs.now c.loop-func.func c.args.text.now c.loop-func.text (c.loop-func.invariant ks)
    c.index-funcs-func.result c.put_func_uses.new.text (omega arith) c.index-funcs-func.is (rw (c.as_slice-blocks.ensures, sym c.index-funcs-func.is) at (c.in_ok-put_func_uses.ensures ks))

pub returns : goal.returns
returns c = λ ks. put_whole (routine_of ks) (func_lines (subject_of c.args.subject.now)) c.args.funcs.now c.loop-func.func c.args.text.now c.loop-func.text (c.loop-func.invariant ks) (omega arith)
