use Rattle.std.proofs.Common.{◌≡◌, [], ◌∷◌, ◌++◌}
use Rattle.monitor_steps.specs.declared.steps.PrivilegedStep.TheBlock.{Alu}
use Rattle.monitor_steps.specs.Steps as list
use Rattle.monitor_steps.proofs.Views.{before-Alu}
use Rattle.monitor_lists.proofs.Listed.{one_more}
use Rattle.monitor_lists.proofs.list.StepList.alu.Goals as goal
use Rattle.base_laws.proofs.Options.{on_ok}

pub returns : goal.returns
returns c =
    let old = c.args.self.now.steps.items in
    let new = c.put.new.self.steps.items in
    on_ok c.put.result (λ (e : new ≡ old ++ (Alu c.args.op c.args.to c.args.a c.args.b) ∷ []). one_more old new (Alu c.args.op c.args.to c.args.a c.args.b) (λ rest. list.Alu c.args.op c.args.to c.args.a c.args.b rest) e (λ rest. before-Alu c.args.op c.args.to c.args.a c.args.b rest)) c.put.ensures
