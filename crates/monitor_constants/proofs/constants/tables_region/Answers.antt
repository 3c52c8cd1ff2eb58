use Rattle.std.proofs.Common.{ap, ◌∙◌}
use Rattle.machine_protection.specs.declared.words.Rights.TheVariants.{Code}
use Rattle.machine_protection.specs.RegionWords.{size_field}
use Rattle.monitor_model.specs.Layout.{tables_size}
use Rattle.monitor_constants.proofs.Counted.{region_by_field}
use Rattle.monitor_constants.proofs.constants.tables_region.Goals as goal

pub returns : goal.returns
returns c =
    let t = c.args.t.now in
    c.region.ensures ∙ region_by_field 1 t.base (tables_size t) Code c.size_field.result (c.size_field.ensures.exact ∙ ap size_field c.tables_size.ensures.exact)
