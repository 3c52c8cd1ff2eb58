use Rattle.std.proofs.Common.{◌≡◌, [], ◌∷◌, ◌++◌, ap, ◌∙◌}
use Rattle.monitor_steps.specs.declared.steps.PrivilegedStep.TheViews.{Repeat}
use Rattle.monitor_steps.specs.Steps as list
use Rattle.monitor_steps.specs.Lists.{steps_of}
use Rattle.monitor_steps.proofs.Views.{before-Repeat}
use Rattle.monitor_lists.proofs.Listed.{one_more}
use Rattle.monitor_lists.proofs.list.StepList.repeat.Goals as goal
use Rattle.base_laws.proofs.Options.{on_ok}

pub returns : goal.returns
returns c =
    let old = c.args.self.now.steps.items in
    let new = c.put.new.self.steps.items in
    let body = c.into_vec-body.result in
    on_ok c.put.result (λ (e : new ≡ old ++ (Repeat c.args.left c.args.most body) ∷ []). one_more old new (Repeat c.args.left c.args.most body) (λ rest. list.Repeat c.args.left c.args.most (steps_of c.args.body.steps.items) rest) e (λ rest. before-Repeat c.args.left c.args.most body rest ∙ ap (λ x. list.Repeat c.args.left c.args.most (steps_of x) rest) c.into_vec-body.ensures)) c.put.ensures
