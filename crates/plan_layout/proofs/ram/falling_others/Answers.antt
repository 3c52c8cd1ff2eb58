use Rattle.std.proofs.Common.{◌∙◌, ap}
use Rattle.std.proofs.lemmas.Result.{IfOk-weaker}
use Rattle.plan_model.specs.RamBlocks as parts
use Rattle.plan_layout.proofs.ram.falling_others.Goals as goal

pub returns : goal.returns
returns c = IfOk-weaker c.falling.result _ _ (λ bs h. h ∙ ap parts.falling c.in_ok-other_blocks.ensures) c.falling.ensures
