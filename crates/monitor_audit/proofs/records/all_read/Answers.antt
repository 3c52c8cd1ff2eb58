use Rattle.std.proofs.Common.{◌+◌, ◌-◌, ◌*◌, ◌++◌, ◌≤◌, length, ap, sym, ◌∙◌, arith}
use Rattle.monitor_model.specs.FromFlash.{records}
use Rattle.monitor_audit.proofs.Reading.{one_more, none_left, none_made, fits}
use Rattle.monitor_audit.proofs.records.all_read.Goals as goal

pub overflow_mul-at : goal.overflow_mul-at
overflow_mul-at g c =
    let z = g.T.Stored.width in
    let room : c.args.start + c.width-size.result * c.loop-number.number + z ≤ length c.args.bytes.now = fits z c.args.count c.loop-number.number c.args.start c.width-size.result _ c.loop-number-test.true c.width-size.ensures c.requires in
    omega (arith, room)

pub overflow_add-at : goal.overflow_add-at
overflow_add-at g c =
    let z = g.T.Stored.width in
    let room : c.args.start + c.width-size.result * c.loop-number.number + z ≤ length c.args.bytes.now = fits z c.args.count c.loop-number.number c.args.start c.width-size.result _ c.loop-number-test.true c.width-size.ensures c.requires in
    omega (arith, room)

pub read-requires : goal.read-requires
read-requires g c = fits g.T.Stored.width c.args.count c.loop-number.number c.args.start c.width-size.result _ c.loop-number-test.true c.width-size.ensures c.requires

pub loop-number-init : goal.loop-number-init
loop-number-init g c =
    let f = g.T.Stored.stands_at c.args.bytes.now in
    let z = g.T.Stored.width in
    ap (λ ys. ys ++ records f z (c.args.count - 0) (c.args.start + z * 0)) c.new-all.ensures.items ∙ none_made f z c.args.count c.args.start

pub loop-number-preserved : goal.loop-number-preserved
loop-number-preserved g c =
    let f = g.T.Stored.stands_at c.args.bytes.now in
    let z = g.T.Stored.width in
    let k = c.loop-number.number in
    let xs = c.loop-number.all.items in
    ap (λ ys. ys ++ records f z (c.args.count - (k + 1)) (c.args.start + z * (k + 1))) c.in_ok-push.ensures.items
    ∙ one_more f z c.args.count k c.args.start xs _ c.loop-number-test.true (c.read.ensures ∙ ap (λ n. f (c.args.start + n * k)) c.width-size.ensures)
    ∙ c.loop-number.invariant

pub returns : goal.returns
returns g c =
    let f = g.T.Stored.stands_at c.args.bytes.now in
    sym (none_left f g.T.Stored.width c.args.count c.loop-number.number c.args.start c.loop-number.all.items (omega (arith, c.loop-number-test.false))) ∙ c.loop-number.invariant
