use Rattle.std.proofs.Common.{◌-◌, ap, arith}
use Rattle.monitor_model.specs.Layout.{area_end, greatest_code, tables_size}
use Rattle.monitor_constants.proofs.constants.tables_size.Goals as goal

pub returns-clause-exact : goal.returns-clause-exact
unfolding tables_size
returns-clause-exact c =
    let t = c.args.t.now in
    let b = c.block_of.ensures.exact (area_end t - t.base) c.area_size.ensures in
    let g = ap greatest_code c.as_slice.ensures in
    omega (arith, b, g, c.greatest_code.ensures.exact, c.max.ensures)
