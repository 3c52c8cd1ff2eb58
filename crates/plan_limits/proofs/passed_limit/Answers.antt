use Rattle.std.proofs.Common.{Some, None, length, option_map, sym, ap, arith}
use Rattle.plan_model.specs.declared.limits.LimitKind.TheVariants.{Compartments, Lent, Sites, Targets}
use Rattle.plan_model.specs.CompileLimits.{first_passed}
use Rattle.plan_limits.specs.Told.{in_32_bits}
use Rattle.plan_limits.proofs.Limits.{compartments_first, lent_first, sites_first, targets_last, told_is}
use Rattle.plan_limits.proofs.passed_limit.Goals as goal

pub returns-then-groups-gt-COMPARTMENT_LIMIT : goal.returns-then-groups-gt-COMPARTMENT_LIMIT
returns-then-groups-gt-COMPARTMENT_LIMIT c =
    let n = c.args.needs.now in
    let g = c.args.groups.now in
    told_is Compartments g.count g.count (first_passed n g) (omega arith) (compartments_first n g c.if-groups-gt-COMPARTMENT_LIMIT.true)

pub returns-then-lent-gt-LENT_LIMIT : goal.returns-then-lent-gt-LENT_LIMIT
returns-then-lent-gt-LENT_LIMIT c =
    let n = c.args.needs.now in
    let g = c.args.groups.now in
    let k = length c.lent_locals-lent.result.now in
    told_is Lent c.counted.result k (first_passed n g) c.counted.ensures (lent_first n g k c.if-groups-gt-COMPARTMENT_LIMIT.false (ap length c.lent_locals-lent.ensures) c.if-lent-gt-LENT_LIMIT.true)

pub returns-then-sites-gt-SITE_LIMIT : goal.returns-then-sites-gt-SITE_LIMIT
returns-then-sites-gt-SITE_LIMIT c =
    let n = c.args.needs.now in
    let g = c.args.groups.now in
    let k = length c.lent_locals-lent.result.now in
    let m = c.site_count-sites.result in
    told_is Sites c.counted-then-sites-gt-SITE_LIMIT.result m (first_passed n g) c.counted-then-sites-gt-SITE_LIMIT.ensures
    (sites_first n g k m c.if-groups-gt-COMPARTMENT_LIMIT.false (ap length c.lent_locals-lent.ensures) c.if-lent-gt-LENT_LIMIT.false c.site_count-sites.ensures c.if-sites-gt-SITE_LIMIT.true)

pub returns-in-None : goal.returns-in-None
returns-in-None c =
    let n = c.args.needs.now in
    let g = c.args.groups.now in
    sym (ap (option_map in_32_bits)
    (targets_last n g (length c.lent_locals-lent.result.now) c.site_count-sites.result None c.if-groups-gt-COMPARTMENT_LIMIT.false (ap length c.lent_locals-lent.ensures) c.if-lent-gt-LENT_LIMIT.false c.site_count-sites.ensures c.if-sites-gt-SITE_LIMIT.false c.in-None.ensures))

pub returns-in-Some : goal.returns-in-Some
returns-in-Some c =
    let n = c.args.needs.now in
    let g = c.args.groups.now in
    told_is Targets c.counted-in-Some.result c.in-Some.targets (first_passed n g) c.counted-in-Some.ensures
    (targets_last n g (length c.lent_locals-lent.result.now) c.site_count-sites.result (Some c.in-Some.targets) c.if-groups-gt-COMPARTMENT_LIMIT.false (ap length c.lent_locals-lent.ensures) c.if-lent-gt-LENT_LIMIT.false c.site_count-sites.ensures c.if-sites-gt-SITE_LIMIT.false
    c.in-Some.ensures)
