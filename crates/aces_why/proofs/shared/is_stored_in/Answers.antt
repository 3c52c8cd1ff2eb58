use Rattle.std.proofs.Common.{sym, ◌∙◌, arith}
use Rattle.ir_program.specs.Parts.{operation_of}
use Rattle.aces_why.specs.Shared.{is_store_by}
use Rattle.aces_why.proofs.Numbering.{none_more, one_passes, none_passes}
use Rattle.aces_why.proofs.shared.is_stored_in.Goals as goal

pub returns-then-is_store_by : goal.returns-then-is_store_by
returns-then-is_store_by c = λ ks.
    sym (one_passes (operation_of ks) (is_store_by c.args.register) c.args.operations.now c.loop-i.i c.index-operations-i.result (omega arith) c.index-operations-i.is (sym (c.is_store_by.ensures ks) ∙ c.if-is_store_by.true))

pub loop-i-preserved : goal.loop-i-preserved
loop-i-preserved c = λ ks.
    none_more (operation_of ks) (is_store_by c.args.register) c.args.operations.now c.loop-i.i c.index-operations-i.result (omega arith) c.index-operations-i.is (sym (c.is_store_by.ensures ks) ∙ c.if-is_store_by.false) (c.loop-i.invariant ks)

pub returns : goal.returns
returns c = λ ks. none_passes (operation_of ks) (is_store_by c.args.register) c.args.operations.now c.loop-i.i (omega arith) (c.loop-i.invariant ks)
