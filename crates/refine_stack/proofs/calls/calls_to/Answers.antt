use Rattle.std.proofs.Common.{◌<◌, length, get_or, arith}
use Rattle.std.specs.Prelude.{Contains}
use Rattle.std.proofs.lemmas.List.{get_or_default}
use Rattle.need_lists.proofs.Any.{any_step, any_whole}
use Rattle.need_lists.proofs.Exact.{pushed}
use Rattle.refine_stack.specs.Listed.{call, IsCallTo}
use Rattle.refine_stack.proofs.calls.calls_to.Goals as goal

pub loop-i-preserved : goal.loop-i-preserved
loop-i-preserved c = λ x.
    let ts = c.args.targets.now in
    let i = c.loop-i.i in
    let t = get_or ts i 0 in
    let below : i < length ts = omega arith in
    any_step (λ t. IsCallTo c.args.from c.args.crosses t x) (Contains c.loop-i.calls.items x) (Contains c.push.new.self.items x)
    ts i t below (get_or_default ts i 0 t below) (c.loop-i.invariant x)
    (pushed c.loop-i.calls.items c.push.new.self.items (call c.args.from t c.args.crosses) x (IsCallTo c.args.from c.args.crosses t x) c.in_ok-push.ensures.items (λ e. e) (λ e. e))

pub returns : goal.returns
returns c = λ x. any_whole (λ t. IsCallTo c.args.from c.args.crosses t x) (Contains c.loop-i.calls.items x) c.args.targets.now c.loop-i.i (omega arith) (c.loop-i.invariant x)
