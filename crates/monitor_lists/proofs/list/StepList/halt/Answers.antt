use Rattle.std.proofs.Common.{◌≡◌, [], ◌∷◌, ◌++◌}
use Rattle.monitor_steps.specs.declared.steps.PrivilegedStep.TheBlock.{Halt}
use Rattle.monitor_steps.specs.Steps as list
use Rattle.monitor_steps.proofs.Views.{before-Halt}
use Rattle.monitor_lists.proofs.Listed.{one_more}
use Rattle.monitor_lists.proofs.list.StepList.halt.Goals as goal
use Rattle.base_laws.proofs.Options.{on_ok}

pub returns : goal.returns
returns c =
    let old = c.args.self.now.steps.items in
    let new = c.put.new.self.steps.items in
    on_ok c.put.result (λ (e : new ≡ old ++ (Halt c.args.code) ∷ []). one_more old new (Halt c.args.code) (λ rest. list.Halt c.args.code rest) e (λ rest. before-Halt c.args.code rest)) c.put.ensures
