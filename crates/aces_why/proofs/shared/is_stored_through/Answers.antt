use Rattle.std.proofs.Common.{sym, ◌∙◌, arith}
use Rattle.ir_program.specs.Parts.{sequence_of}
use Rattle.aces_why.specs.Shared.{is_stored_in}
use Rattle.aces_why.proofs.Numbering.{none_more, one_passes, none_passes}
use Rattle.aces_why.proofs.shared.is_stored_through.Goals as goal

pub returns-then-is_stored_in : goal.returns-then-is_stored_in
returns-then-is_stored_in c = λ ks.
    sym (one_passes (sequence_of ks) (is_stored_in c.args.register) c.args.blocks.now c.loop-i.i c.index-blocks-i.result (omega arith) c.index-blocks-i.is (sym (rw (c.as_slice.ensures, sym c.index-blocks-i.is) at (c.is_stored_in.ensures ks)) ∙ c.if-is_stored_in.true))

pub loop-i-preserved : goal.loop-i-preserved
loop-i-preserved c = λ ks.
    none_more (sequence_of ks) (is_stored_in c.args.register) c.args.blocks.now c.loop-i.i c.index-blocks-i.result (omega arith) c.index-blocks-i.is (sym (rw (c.as_slice.ensures, sym c.index-blocks-i.is) at (c.is_stored_in.ensures ks)) ∙ c.if-is_stored_in.false) (c.loop-i.invariant ks)

pub returns : goal.returns
returns c = λ ks. none_passes (sequence_of ks) (is_stored_in c.args.register) c.args.blocks.now c.loop-i.i (omega arith) (c.loop-i.invariant ks)
