use Rattle.std.proofs.Common.{ap, ◌∙◌}
use Rattle.machine_protection.specs.RegionWords.{size_field}
use Rattle.monitor_constants.proofs.Counted.{region_by_field}
use Rattle.machine_protection.specs.declared.words.Rights.TheVariants.{Stack}
use Rattle.monitor_constants.proofs.constants.stack_region.Goals as goal

pub returns : goal.returns
returns c =
    let s = c.args.t.now.stack in
    c.region.ensures ∙ region_by_field 3 s.base s.size Stack c.size_field.result (c.size_field.ensures.exact ∙ ap size_field c.from.ensures)
