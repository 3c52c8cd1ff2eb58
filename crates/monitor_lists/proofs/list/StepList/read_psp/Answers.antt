use Rattle.std.proofs.Common.{◌≡◌, [], ◌∷◌, ◌++◌}
use Rattle.monitor_steps.specs.declared.steps.PrivilegedStep.TheBlock.{ReadPsp}
use Rattle.monitor_steps.specs.Steps as list
use Rattle.monitor_steps.proofs.Views.{before-ReadPsp}
use Rattle.monitor_lists.proofs.Listed.{one_more}
use Rattle.monitor_lists.proofs.list.StepList.read_psp.Goals as goal
use Rattle.base_laws.proofs.Options.{on_ok}

pub returns : goal.returns
returns c =
    let old = c.args.self.now.steps.items in
    let new = c.put.new.self.steps.items in
    on_ok c.put.result (λ (e : new ≡ old ++ (ReadPsp c.args.to) ∷ []). one_more old new (ReadPsp c.args.to) (λ rest. list.ReadPsp c.args.to rest) e (λ rest. before-ReadPsp c.args.to rest)) c.put.ensures
