use Rattle.std.proofs.Common.{sym, arith}
use Rattle.ir_program.specs.Parts.{sequence_of}
use Rattle.aces_why.specs.Warnings.{block_warnings}
use Rattle.aces_why.specs.Subjects.{subject_of}
use Rattle.aces_why.proofs.Numbering.{put_none, put_numbered, put_whole}
use Rattle.aces_why.proofs.warnings.put_blocks.Goals as goal

pub loop-block-init : goal.loop-block-init
loop-block-init c = λ ks. put_none c.args.text.now

pub loop-block-preserved : goal.loop-block-preserved
loop-block-preserved c = λ ks.
    put_numbered (sequence_of ks) (block_warnings (subject_of c.args.subject.now) c.args.func) c.args.blocks.now c.loop-block.block c.args.text.now c.loop-block.text (c.loop-block.invariant ks)
    c.index-blocks-block.result c.put_block_warnings.new.text (omega arith) c.index-blocks-block.is (rw (c.as_slice-operations.ensures, sym c.index-blocks-block.is) at (c.in_ok-put_block_warnings.ensures ks))

pub returns : goal.returns
returns c = λ ks. put_whole (sequence_of ks) (block_warnings (subject_of c.args.subject.now) c.args.func) c.args.blocks.now c.loop-block.block c.args.text.now c.loop-block.text (c.loop-block.invariant ks) (omega arith)
