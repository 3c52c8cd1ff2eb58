use Rattle.std.proofs.Common.{◌+◌, ◌∙◌, List, [], ◌∷◌, map, drop, get_or, arith}
use Rattle.machine_thumb.specs.declared.table.Instr.{Instr}
use Rattle.machine_thumb.specs.Table.{svc}
use Rattle.code_lower.specs.declared.subject.Lent.{Lent}
use Rattle.code_model.specs.Entry.{unlend_code}
use Rattle.code_lower.specs.Subjects.{lend_of}
use Rattle.code_lower.proofs.Putting.{step_first, step_rest, step_whole}
use Rattle.code_lower.proofs.Entering.{unlends_next}
use Rattle.code_lower.proofs.entry.put_unlends.Goals as goal

pub put-requires-clause-room : goal.put-requires-clause-room
put-requires-clause-room c =
    let ls = c.args.lent.now in
    let i = c.loop-lend._lend-index in
    let d : Lent = get_or ls i (record { home = 0; number = 0 }) in
    rw c.supervisor_call.ensures.code (step_first (unlend_code (map lend_of (drop i ls))) (svc 3 ∷ []) (unlend_code (map lend_of (drop (i + 1) ls))) (unlends_next ls i d (omega arith)) c.loop-lend.asm c.loop-lend.invariant.room)

pub loop-lend-preserved : goal.loop-lend-preserved
loop-lend-preserved c =
    let ls = c.args.lent.now in
    let i = c.loop-lend._lend-index in
    let d : Lent = get_or ls i (record { home = 0; number = 0 }) in
    let code : List Instr = unlend_code (map lend_of (drop i ls)) in
    let rest : List Instr = unlend_code (map lend_of (drop (i + 1) ls)) in
    rw (c.in_ok-put.ensures, c.supervisor_call.ensures.code)
    record {
      whole = step_whole code (svc 3 ∷ []) rest (unlends_next ls i d (omega arith)) c.loop-lend.asm ∙ c.loop-lend.invariant.whole;
      room = step_rest code (svc 3 ∷ []) rest (unlends_next ls i d (omega arith)) c.loop-lend.asm c.loop-lend.invariant.room;
    }
