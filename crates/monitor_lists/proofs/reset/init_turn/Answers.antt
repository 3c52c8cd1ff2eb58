use Rattle.std.proofs.Common.{◌∙◌, ap}
use Rattle.monitor_steps.specs.declared.steps.PrivilegedOp.TheVariants.{Add}
use Rattle.monitor_steps.specs.Steps.{End, Const, Alu, Repeat}
use Rattle.monitor_steps.specs.Lists.{all_before}
use Rattle.monitor_lists.proofs.Begun.{begins}
use Rattle.monitor_lists.proofs.reset.init_turn.Goals as goal

pub returns : goal.returns
returns c =
    c.in_ok-alu-3.ensures End
    ∙ c.in_ok-constant-2.ensures _
    ∙ c.in_ok-repeat.ensures _
    ∙ ap (λ x. all_before c.alu-2.new.self.steps.items (Repeat 4 c.args.c.now.words x (Const 6 12 (Alu Add 0 0 6 End)))) c.in_ok-turn.ensures
    ∙ c.in_ok-alu-2.ensures _
    ∙ c.in_ok-constant.ensures _
    ∙ c.in_ok-alu.ensures _
    ∙ c.in_ok-load_word-3.ensures _
    ∙ c.in_ok-load_word-2.ensures _
    ∙ c.in_ok-load_word.ensures _
    ∙ begins c.new-list.result _ c.new-list.ensures
