use Rattle.std.proofs.Common.{◌∙◌, get_or, arith}
use Rattle.machine_thumb.specs.declared.table.Instr.TheVariants.{ShiftImmediate}
use Rattle.code_lower.proofs.Putting.{next_in_table, next_room, next_whole, next_rest}
use Rattle.code_lower.proofs.instructions.put.Goals as goal

pub emit-requires-clause-in_table : goal.emit-requires-clause-in_table
emit-requires-clause-in_table c = (next_in_table c.args.code.now c.loop-instruction.instruction-index _ (omega arith) c.loop-instruction.invariant.in_table).0

pub emit-requires-clause-room : goal.emit-requires-clause-room
emit-requires-clause-room c = next_room c.args.code.now c.loop-instruction.instruction-index _ (omega arith) c.loop-instruction.asm c.loop-instruction.invariant.room

pub loop-instruction-preserved : goal.loop-instruction-preserved
loop-instruction-preserved c =
    let xs = c.args.code.now in
    let a = c.loop-instruction.asm in
    let i = c.loop-instruction.instruction-index in
    let before = c.loop-instruction.invariant in
    record {
      whole = rw c.in_ok-emit.ensures.ok (next_whole xs i _ (omega arith) a ∙ before.whole);
      in_table = (next_in_table xs i (get_or xs i (ShiftImmediate 0 0 0 0)) (omega arith) before.in_table).1;
      room = rw c.in_ok-emit.ensures.ok (next_rest xs i _ (omega arith) a before.room);
    }
