use Rattle.std.proofs.Common.{refl, ap, sym, subst, ◌∙◌}
use Rattle.std.specs.Fn.{FnReturnsAt}
use Rattle.machine_model.specs.State.{Turn, by_mpu}
use Rattle.base_outside.specs.Sinks.{Puts, sink}
use Rattle.machine_output.specs.Watching.{pause_line}
use Rattle.base_outside.proofs.Prefixes.{on_err}
use Rattle.machine_output.proofs.Pauses.{part_of, whole_of, part_with}
use Rattle.machine_output.proofs.watching.print_watched.Goals as goal

pub print_to_pause-requires-clause-equally : goal.print_to_pause-requires-clause-equally
print_to_pause-requires-clause-equally g c e a b h k = c.requires.answers e a h ∙ sym (c.requires.answers e b k)

pub returns-in_err-pause-clause-err : goal.returns-in_err-pause-clause-err
returns-in_err-pause-clause-err g c =
    on_err _ _ (part_of c.args.image.now c.args.address c.args.session.now.machine.state c.args.steps (sink g.O.Sink c.args.out.now) (sink g.O.Sink c.print_to_pause.new.out)
    (FnReturnsAt g.F.Fn c.args.session.now.callback) c.requires.answers c.in_err-pause.ensures.err)

pub returns-then-put_line-clause-ok : goal.returns-then-put_line-clause-ok
returns-then-put_line-clause-ok g c =
    let i = c.args.image.now in
    let a = c.args.address in
    let s = c.args.session.now.machine.state in
    let mid = sink g.O.Sink c.print_to_pause.new.out in
    let new = sink g.O.Sink c.put_line.new.out in
    let pause = c.in_ok-pause.pause in
    let put = subst (Puts mid new (pause_line a pause)) c.if-put_line.true (subst (λ l. Puts mid new l c.put_line.result) c.pause_line.ensures c.put_line.ensures) in
    whole_of i a s (c.ended_machines.ensures.run by_mpu i) (c.ended_machines.ensures.events by_mpu i) (λ t e h. ap (λ (u : Turn). u.event) (c.ended_machines.ensures.step by_mpu i t e h))
    c.args.steps (FnReturnsAt g.F.Fn c.args.session.now.callback) c.requires.answers (sink g.O.Sink c.args.out.now) mid new pause c.in_ok-pause.ensures.ok refl put

pub returns-else-put_line-clause-err : goal.returns-else-put_line-clause-err
returns-else-put_line-clause-err g c =
    let i = c.args.image.now in
    let a = c.args.address in
    let s = c.args.session.now.machine.state in
    let mid = sink g.O.Sink c.print_to_pause.new.out in
    let new = sink g.O.Sink c.put_line.new.out in
    let pause = c.in_ok-pause.pause in
    let put = subst (Puts mid new (pause_line a pause)) c.if-put_line.false (subst (λ l. Puts mid new l c.put_line.result) c.pause_line.ensures c.put_line.ensures) in
    part_with i a s (c.ended_machines.ensures.run by_mpu i) (c.ended_machines.ensures.events by_mpu i) (λ t e h. ap (λ (u : Turn). u.event) (c.ended_machines.ensures.step by_mpu i t e h))
    c.args.steps (FnReturnsAt g.F.Fn c.args.session.now.callback) c.requires.answers (sink g.O.Sink c.args.out.now) mid new pause c.in_ok-pause.ensures.ok refl put
