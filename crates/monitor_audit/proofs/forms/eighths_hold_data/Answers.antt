use Rattle.std.proofs.Common.{◌≡◌, true, sym, ◌∙◌, subst, arith}
use Rattle.monitor_model.specs.RegionChecks.{eighths_hold_data}
use Rattle.monitor_audit.proofs.Eighths.{fails_above}
use Rattle.monitor_audit.proofs.forms.eighths_hold_data.Goals as goal

pub returns-then-not-eighth_holds_data : goal.returns-then-not-eighth_holds_data
returns-then-not-eighth_holds_data c =
    sym (fails_above c.args.image.now c.args.tables.now c.args.region.now c.loop-number.number 8 c.loop-number-test.true (sym c.eighth_holds_data.ensures ∙ c.if-not-eighth_holds_data.true))

pub returns : goal.returns
returns c =
    let e : c.loop-number.number ≡ 8 = omega (arith, c.loop-number-test.false, c.loop-number.auto.number-end) in
    sym (subst (λ n. eighths_hold_data c.args.image.now c.args.tables.now c.args.region.now n ≡ true) e c.loop-number.invariant)
