use Rattle.std.proofs.Common.{ℕ, List, ◌++◌, ap, ◌∙◌}
use Rattle.std.proofs.lemmas.Result.{on_ok_weaker}
use Rattle.aces_explain.specs.PlanRules.{blocks_rule}
use Rattle.aces_explain.specs.Explanations.{rule_line}
use Rattle.aces_explain.proofs.plan_rules.put_ram_rule.Goals as goal

pub returns : goal.returns
returns c =
    on_ok_weaker c.put_rules.result (λ h. h ∙ ap (λ (second : List ℕ). c.args.text.now ++ rule_line (blocks_rule ++ second)) c.lowest_rule.ensures) c.put_rules.ensures
