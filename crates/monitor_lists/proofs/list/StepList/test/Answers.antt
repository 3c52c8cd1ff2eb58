use Rattle.std.proofs.Common.{◌≡◌, [], ◌∷◌, ◌++◌, ap₂, ◌∙◌}
use Rattle.monitor_steps.specs.declared.steps.PrivilegedStep.TheViews.{Test}
use Rattle.monitor_steps.specs.Steps as list
use Rattle.monitor_steps.specs.Lists.{steps_of}
use Rattle.monitor_steps.proofs.Views.{before-Test}
use Rattle.monitor_lists.proofs.Listed.{one_more}
use Rattle.monitor_lists.proofs.list.StepList.test.Goals as goal
use Rattle.base_laws.proofs.Options.{on_ok}

pub returns : goal.returns
returns c =
    let old = c.args.self.now.steps.items in
    let new = c.put.new.self.steps.items in
    let ys = c.into_vec-yes.result in
    let ns = c.into_vec-no.result in
    on_ok c.put.result (λ (e : new ≡ old ++ (Test c.args.cond c.args.a c.args.b ys ns) ∷ []). one_more old new (Test c.args.cond c.args.a c.args.b ys ns) (λ rest. list.Test c.args.cond c.args.a c.args.b (steps_of c.args.yes.steps.items) (steps_of c.args.no.steps.items) rest) e (λ rest. before-Test c.args.cond c.args.a c.args.b ys ns rest ∙ ap₂ (λ x y. list.Test c.args.cond c.args.a c.args.b (steps_of x) (steps_of y) rest) c.into_vec-yes.ensures c.into_vec-no.ensures)) c.put.ensures
