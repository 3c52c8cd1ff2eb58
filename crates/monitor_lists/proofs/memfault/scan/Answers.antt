use Rattle.std.proofs.Common.{◌∙◌, ap}
use Rattle.monitor_steps.specs.declared.steps.PrivilegedCond.TheVariants.{Eq}
use Rattle.monitor_steps.specs.Steps.{Const, ReadPsp, Repeat, ◌▸◌}
use Rattle.monitor_steps.specs.Lists.{all_before}
use Rattle.monitor_model.specs.Values.{most_loans}
use Rattle.monitor_program.specs.Opening.{must}
use Rattle.monitor_lists.proofs.memfault.scan.Goals as goal

pub returns : goal.returns
returns c = λ rest.
    c.in_ok-read_psp.ensures rest
    ∙ c.in_ok-must.ensures _
    ∙ c.in_ok-constant.ensures _
    ∙ c.in_ok-repeat.ensures _
    ∙ ap (λ turn. all_before c.scan_begun.new.list.steps.items (Repeat 3 most_loans turn ▸ Const 0 1 ▸ must Eq 7 0 c.args.code ▸ ReadPsp 0 ▸ rest)) c.in_ok-turn.ensures
    ∙ c.in_ok-scan_begun.ensures _
