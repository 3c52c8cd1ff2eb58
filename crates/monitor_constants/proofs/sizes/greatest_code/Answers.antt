use Rattle.std.proofs.Common.{◌≡◌, ◌^◌, ap, arith, get_or}
use Rattle.std.proofs.Math.Pow.{pow_mono}
use Rattle.std.proofs.lemmas.List.{drop_all}
use Rattle.machine_protection.specs.Regions.{size_log}
use Rattle.monitor_model.specs.declared.tables.CompRecord.{CompRecord}
use Rattle.monitor_model.specs.Layout.{greatest_code}
use Rattle.monitor_constants.proofs.Counted.{greatest_more}
use Rattle.monitor_constants.proofs.sizes.greatest_code.Goals as goal

pub loop-compartment-preserved : goal.loop-compartment-preserved
loop-compartment-preserved c =
    let cs = c.args.comps.now in
    let i = c.loop-compartment.compartment-index in
    let item = c.compartment-item.result in
    let g = greatest_more c.loop-compartment.size cs i item c.loop-compartment-test.true in
    let e : 2 ^ size_log item.code ≡ 2 ^ size_log (get_or cs i item).code = ap (λ (x : CompRecord). 2 ^ size_log x.code) c.compartment-item.is in
    let b = pow_mono {i = size_log item.code} {j = 32} (omega arith) in
    record {
      greatest = omega (arith, g, e, b, c.max-size.ensures, c.loop-compartment.invariant.greatest);
      small = omega (arith, b, c.max-size.ensures, c.loop-compartment.invariant.small);
    }

pub returns-clause-exact : goal.returns-clause-exact
returns-clause-exact c =
    let cs = c.args.comps.now in
    let d = ap greatest_code (drop_all c.loop-compartment.compartment-index cs (omega (arith, c.loop-compartment-test.false))) in
    omega (arith, d, c.loop-compartment.invariant.greatest)
