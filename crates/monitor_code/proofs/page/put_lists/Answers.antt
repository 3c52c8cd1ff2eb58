use Rattle.std.proofs.Common.{◌++◌, pos, subst, sym, ap, arith}
use Rattle.machine_thumb.specs.declared.table.Instr.TheVariants.{CallBranch}
use Rattle.machine_model.proofs.CodeParts.{width-encode}
use Rattle.monitor_steps.specs.Lists.{steps_of}
use Rattle.monitor_steps.specs.Code.{code, code_length}
use Rattle.monitor_steps.proofs.CodeParts.{code_has_its_length}
use Rattle.monitor_assembler.specs.Emitted.{MayPut, HasPut}
use Rattle.monitor_assembler.proofs.Puts.{put_both, put_one}
use Rattle.monitor_program.specs.Page.{leave_stub}
use Rattle.monitor_code.proofs.Paged.{may_put}
use Rattle.monitor_code.proofs.page.put_lists.Goals as goal

pub assemble-requires : goal.assemble-requires
assemble-requires c =
    subst (λ ss. MayPut c.args.asm.now (steps_of ss)) (sym c.deref.ensures.value) (may_put c.args.asm.now (steps_of c.args.lists.now.start.items) c.requires.start (omega (arith, c.requires.room)))

pub assemble-requires-2 : goal.assemble-requires-2
assemble-requires-2 c =
    let v = ap (λ ss. code_length (steps_of ss)) c.deref.ensures.value in
    let h = code_has_its_length (steps_of c.deref.result.now) in
    subst (λ ss. MayPut c.assemble.new.asm (steps_of ss)) (sym c.deref-2.ensures.value) (may_put c.assemble.new.asm (steps_of c.args.lists.now.svc.items) c.requires.svc (omega (arith, v, h, c.requires.room, c.in_ok-assemble.ensures.next)))

pub assemble-requires-3 : goal.assemble-requires-3
assemble-requires-3 c =
    let v = ap (λ ss. code_length (steps_of ss)) c.deref.ensures.value in
    let h = code_has_its_length (steps_of c.deref.result.now) in
    let w = ap (λ ss. code_length (steps_of ss)) c.deref-2.ensures.value in
    let k = code_has_its_length (steps_of c.deref-2.result.now) in
    subst (λ ss. MayPut c.assemble-2.new.asm (steps_of ss)) (sym c.deref-3.ensures.value) (may_put c.assemble-2.new.asm (steps_of c.args.lists.now.memfault.items) c.requires.memfault (omega (arith, v, h, w, k, c.requires.room, c.in_ok-assemble.ensures.next, c.in_ok-assemble-2.ensures.next)))

pub emit-requires-clause-room : goal.emit-requires-clause-room
emit-requires-clause-room c =
    let v = ap (λ ss. code_length (steps_of ss)) c.deref.ensures.value in
    let h = code_has_its_length (steps_of c.deref.result.now) in
    let w = ap (λ ss. code_length (steps_of ss)) c.deref-2.ensures.value in
    let k = code_has_its_length (steps_of c.deref-2.result.now) in
    let x = ap (λ ss. code_length (steps_of ss)) c.deref-3.ensures.value in
    let m = code_has_its_length (steps_of c.deref-3.result.now) in
    let s = width-encode (CallBranch 0 1 (pos 0)) in
    omega (arith, v, h, w, k, x, m, s, c.requires.room, c.in_ok-assemble.ensures.next, c.in_ok-assemble-2.ensures.next, c.in_ok-assemble-3.ensures.next)

pub returns : goal.returns
returns c =
    let a = c.args.asm.now in
    let l = c.args.lists.now in
    let start = code (steps_of l.start.items) in
    let call = code (steps_of l.svc.items) in
    let fault = code (steps_of l.memfault.items) in
    let z = c.emit.new.self in
    let p = subst (λ ss. HasPut a c.assemble.new.asm (code (steps_of ss))) c.deref.ensures.value c.in_ok-assemble.ensures in
    let q = subst (λ ss. HasPut c.assemble.new.asm c.assemble-2.new.asm (code (steps_of ss))) c.deref-2.ensures.value c.in_ok-assemble-2.ensures in
    let r = subst (λ ss. HasPut c.assemble-2.new.asm c.assemble-3.new.asm (code (steps_of ss))) c.deref-3.ensures.value c.in_ok-assemble-3.ensures in
    let s = put_one c.assemble-3.new.asm z (CallBranch 0 1 (pos 0)) c.in_ok-emit.ensures.ok in
    put_both a c.assemble.new.asm z start (call ++ (fault ++ leave_stub)) p (put_both c.assemble.new.asm c.assemble-2.new.asm z call (fault ++ leave_stub) q (put_both c.assemble-2.new.asm c.assemble-3.new.asm z fault leave_stub r s))
