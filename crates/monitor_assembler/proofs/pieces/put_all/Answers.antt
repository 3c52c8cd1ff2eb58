use Rattle.std.proofs.Common.{◌∷◌, [], take, get_or, arith}
use Rattle.std.proofs.lemmas.List.{take_more}
use Rattle.machine_thumb.specs.declared.table.Instr.TheVariants.{ShiftImmediate}
use Rattle.machine_model.proofs.CodeParts.{width-encode}
use Rattle.monitor_assembler.proofs.Puts.{put_both, put_one, in_table_at, code_size-take}
use Rattle.monitor_assembler.proofs.pieces.put_all.Goals as goal

pub emit-requires-clause-in_table : goal.emit-requires-clause-in_table
emit-requires-clause-in_table c =
    in_table_at c.args.code.now c.loop-instruction.instruction-index (ShiftImmediate 0 0 0 0) c.loop-instruction-test.true c.requires.in_table

pub emit-requires-clause-room : goal.emit-requires-clause-room
emit-requires-clause-room c =
    let i = c.loop-instruction.instruction-index in
    let s = code_size-take c.args.code.now i (ShiftImmediate 0 0 0 0) c.loop-instruction-test.true in
    let w = width-encode (get_or c.args.code.now i (ShiftImmediate 0 0 0 0)) in
    omega (arith, s, w, c.requires.room, c.loop-instruction.invariant.next)

pub loop-instruction-preserved : goal.loop-instruction-preserved
loop-instruction-preserved c =
    let xs = c.args.code.now in
    let i = c.loop-instruction.instruction-index in
    let d = ShiftImmediate 0 0 0 0 in
    let one = put_one c.loop-instruction.asm c.emit.new.self (get_or xs i d) c.in_ok-emit.ensures.ok in
    let e = take_more xs i d c.loop-instruction-test.true in
    rw e (put_both c.args.asm.now c.loop-instruction.asm c.emit.new.self (take i xs) (get_or xs i d ∷ []) c.loop-instruction.invariant one)
