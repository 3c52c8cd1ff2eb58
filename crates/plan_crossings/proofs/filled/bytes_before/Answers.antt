use Rattle.std.proofs.Common.{◌<◌, length, take, get_or, ap, arith}
use Rattle.std.proofs.lemmas.Bool.{eq-eqb, ne_eqb}
use Rattle.code_model.specs.CompartmentCode.{members_from}
use Rattle.plan_crossings.specs.Filled.{filled_total}
use Rattle.code_model.proofs.Members.{member_kept, member_dropped}
use Rattle.plan_crossings.proofs.Totals.{total-append}
use Rattle.plan_crossings.proofs.filled.bytes_before.Goals as goal
use Rattle.plan_crossings.proofs.filled.bytes_before.Goals.{then-compartments-other+in_ok-rounded_up+in_ok-total, else-compartments-other}

pub loop-other-preserved : goal.loop-other-preserved
loop-other-preserved c =
    let ds = c.args.compartments.now in
    let zs = c.args.sizes.now in
    let k = c.loop-other.other in
    let x = c.args.compartment in
    let lt : k < length ds = omega (arith, c.requires.each, c.requires.inside, c.loop-other-test.true) in
    elim c.if-compartments-other.branch [
      | then-compartments-other+in_ok-rounded_up+in_ok-total w ↦
          let t = eq-eqb (get_or ds k 0) x w.if-compartments-other.true in
          let m = ap (λ fs. filled_total zs fs) (member_kept k ds x lt t) in
          let s = total-append zs (members_from 0 (take k ds) x) k in
          let is = w.total-is in
          let one = w.in_ok-rounded_up.ensures.value in
          let two = w.in_ok-total.ensures.1 in
          omega (arith, m, s, is, one, two, c.loop-other.invariant)
      | else-compartments-other w ↦
          let t = ne_eqb (get_or ds k 0) x w.if-compartments-other.false in
          let m = ap (λ fs. filled_total zs fs) (member_dropped k ds x lt t) in
          omega (arith, m, w.total-is, c.loop-other.invariant)
    ]
