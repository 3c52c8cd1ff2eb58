use Rattle.std.proofs.Common.{◌≡◌, [], ◌∷◌, ◌++◌}
use Rattle.monitor_steps.specs.declared.steps.PrivilegedStep.TheBlock.{Const}
use Rattle.monitor_steps.specs.Steps as list
use Rattle.monitor_steps.proofs.Views.{before-Const}
use Rattle.monitor_lists.proofs.Listed.{one_more}
use Rattle.monitor_lists.proofs.list.StepList.constant.Goals as goal
use Rattle.base_laws.proofs.Options.{on_ok}

pub returns : goal.returns
returns c =
    let old = c.args.self.now.steps.items in
    let new = c.put.new.self.steps.items in
    on_ok c.put.result (λ (e : new ≡ old ++ (Const c.args.to c.args.value) ∷ []). one_more old new (Const c.args.to c.args.value) (λ rest. list.Const c.args.to c.args.value rest) e (λ rest. before-Const c.args.to c.args.value rest)) c.put.ensures
