-- How policies are written.
use Rattle.std.specs.Prelude.{ℕ, List, codes}
use Rattle.plan_model.specs.declared.policy.Policy.{Policy}
use Rattle.plan_model.specs.declared.policy.Policy.TheVariants.{Filename, Optimized, Peripheral}

-- the word of a policy
abbrev pub policy_word : Policy → List ℕ
policy_word Filename = codes "filename"
policy_word Optimized = codes "optimized"
policy_word Peripheral = codes "peripheral"
