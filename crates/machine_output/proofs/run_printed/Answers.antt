use Rattle.std.proofs.Common.{rules, List, ap, sym, ◌∙◌, subst, Bor, MutBor}
use Rattle.machine_devices.specs.declared.image.Image.{Image}
use Rattle.machine_devices.specs.declared.image.Window.{Window}
use Rattle.machine_devices.specs.Rules.{ObeysRules}
use Rattle.machine_model.specs.State.{by_mpu}
use Rattle.machine_output.proofs.Callbacks.{printed, moved}
use Rattle.machine_output.proofs.run_printed.Goals as goal

pub returns : goal.returns
returns g c =
    let m = c.args.machine.now in
    let Held : Type 0 = MutBor g.row.O.Denot × Bor (List Window) in
    let p = printed g.O.Sink (λ (x : Held). x.0.now) (λ (x : Held). x.0.ghost_name) (λ (x : Held). x.1.now) _
    (λ f e b h k. record { same_sink = search rules; same_windows = search rules; puts = search rules })
    m c.run.new.self (subst ObeysRules (sym c.requires.image) c.requires.rules) c.listed_accesses.ensures.events
    (c.ended_machines.ensures.run by_mpu m.image) (c.ended_machines.ensures.events by_mpu m.image)
    c.from.result _ c.run.new.each (c.as_slice-windows.ensures ∙ ap (λ (x : Image). x.windows) (sym c.requires.image))
    c.run.result c.run.ensures in
    let stays = p.0 in
    let all = moved m.image c.args.image.now c.from.result c.args.steps m.state _ _ c.run.result c.requires.image c.from.ensures (p.1, p.2) in
    record {
      whole = search (rules, stays, all.0);
      part = search (rules, stays, all.1);
    }
