use Rattle.std.proofs.Common.{◌+◌, ◌-◌, ◌*◌, ◌++◌, ap, sym, ◌∙◌, arith}
use Rattle.monitor_model.specs.FromFlash.{records, comp_record_at}
use Rattle.monitor_audit.proofs.Reading.{one_more, none_left, none_made}
use Rattle.monitor_audit.proofs.records.compartments.Goals as goal

pub loop-number-init : goal.loop-number-init
loop-number-init c = ap (λ ys. ys ++ records (comp_record_at c.args.bytes.now c.args.slots) (8 * c.args.slots + 16) (c.args.count - 0) (c.args.start + (8 * c.args.slots + 16) * 0)) c.new-all.ensures.items ∙ none_made (comp_record_at c.args.bytes.now c.args.slots) (8 * c.args.slots + 16) c.args.count c.args.start

pub loop-number-preserved : goal.loop-number-preserved
loop-number-preserved c =
    let z = 8 * c.args.slots + 16 in
    let f = comp_record_at c.args.bytes.now c.args.slots in
    let k = c.loop-number.number in
    let xs = c.loop-number.all.items in
    ap (λ ys. ys ++ records f z (c.args.count - (k + 1)) (c.args.start + z * (k + 1))) c.in_ok-push.ensures.items
    ∙ one_more f z c.args.count k c.args.start xs _ c.loop-number-test.true c.in_ok-compartment.ensures
    ∙ c.loop-number.invariant

pub returns : goal.returns
returns c = sym (none_left (comp_record_at c.args.bytes.now c.args.slots) (8 * c.args.slots + 16) c.args.count c.loop-number.number c.args.start c.loop-number.all.items (omega (arith, c.loop-number-test.false))) ∙ c.loop-number.invariant
