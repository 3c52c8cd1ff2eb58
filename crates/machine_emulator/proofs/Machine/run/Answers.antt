use Rattle.std.proofs.Common.{ℕ, suc, ◌-◌, subst, sym, ◌∙◌, arith, of_calls}
use Rattle.std.specs.Fn.{CalledAt}
use Rattle.std.proofs.lemmas.Fn.{called_at}
use Rattle.machine_model.specs.declared.state.End.TheVariants.{Refused, Limit}
use Rattle.machine_emulator.specs.Parts.{state_of}
use Rattle.machine_emulator.specs.Machine.{MachineState, IsRun}
use Rattle.machine_emulator.proofs.MachineRuns.{run_quiet, run_told, run_refused, run_ended, run_over, run_out}
use Rattle.machine_emulator.proofs.Machine.run.Goals as goal
use Rattle.machine_emulator.proofs.Machine.run.Goals.{in-Ran, in-Event+else-not-each, in-Some, in-None}

pub returns-then-not-each : goal.returns-then-not-each
returns-then-not-each g c =
    let m = c.loop-step.self in
    let rest : ℕ = c.args.n - suc c.loop-step._step in
    c.loop-step.invariant.1 (suc rest) c.step.new.self c.each.new.self Refused (omega arith)
    (rw c.step.ensures.state (run_refused (CalledAt g.G.FnMut) rest m c.in-Event.event c.loop-step.each c.each.new.self (sym c.in-Event.is ∙ c.step.ensures.answer)
    (called_at g.G.FnMut c.each.ensures c.if-not-each.true)))

pub returns-in-Ended : goal.returns-in-Ended
returns-in-Ended g c =
    let m = c.loop-step.self in
    let rest : ℕ = c.args.n - suc c.loop-step._step in
    c.loop-step.invariant.1 (suc rest) c.step.new.self c.loop-step.each c.in-Ended.end (omega arith)
    (rw c.step.ensures.state (run_ended (CalledAt g.G.FnMut) rest m c.loop-step.each c.in-Ended.end (sym c.in-Ended.is ∙ c.step.ensures.answer)
    (rw c.step.ensures.state at c.step.ensures.kept.own)))

pub loop-step-preserved : goal.loop-step-preserved
loop-step-preserved g c =
    let m = c.loop-step.self in
    elim c.match-step.branch [
      | in-Ran w ↦ (
        rw w.each-is c.loop-step.invariant.0,
        λ rest new last e h r. c.loop-step.invariant.1 (suc rest) new last e (omega arith)
            (run_quiet (CalledAt g.G.FnMut) rest m new c.loop-step.each last e (sym w.in-Ran.is ∙ c.step.ensures.answer) (rw (c.step.ensures.state, w.each-is) at r)),
      )
      | in-Event+else-not-each w ↦ (
        rw w.each-is (search of_calls),
        λ rest new last e h r. c.loop-step.invariant.1 (suc rest) new last e (omega arith)
            (run_told (CalledAt g.G.FnMut) rest m new w.in-Event.event c.loop-step.each w.each.new.self last e (sym w.in-Event.is ∙ c.step.ensures.answer)
            (called_at g.G.FnMut w.each.ensures w.if-not-each.false)
            (rw (c.step.ensures.state, w.each-is) at r)),
      )
    ]

pub returns : goal.returns
returns g c =
    let calls = CalledAt g.G.FnMut in
    let m = c.loop-step.self in
    let p = c.self.inside.parts in
    let v : MachineState = record { image = p.bus.image; state = state_of p } in
    elim c.match-self.branch [
      | in-Some w ↦
          rw w.result-is (c.loop-step.invariant.1 0 m c.loop-step.each w.in-Some.end (omega arith)
          (let P : MachineState → Type 0 = λ u. IsRun calls 0 u u c.loop-step.each c.loop-step.each w.in-Some.end in
          subst P c.self.view_is (run_over calls v c.loop-step.each w.in-Some.end w.in-Some.is c.self.invariant.0.own)))
      | in-None w ↦
          rw w.result-is (c.loop-step.invariant.1 0 m c.loop-step.each Limit (omega arith)
          (let P : MachineState → Type 0 = λ u. IsRun calls 0 u u c.loop-step.each c.loop-step.each Limit in
          subst P c.self.view_is (run_out calls v c.loop-step.each w.in-None.is)))
    ]
