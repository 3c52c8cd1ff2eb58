use Rattle.std.proofs.Common.{◌≡◌, get_or, refl, arith}
use Rattle.refine_stack.proofs.Rings.{goes_on, closes}
use Rattle.refine_stack.proofs.cycles.around.Goals as goal

pub loop-k-preserved : goal.loop-k-preserved
loop-k-preserved c =
    let far = c.args.far.now in
    let total = get_or far c.args.func 0 in
    goes_on c.args.calls.now c.args.func far c.requires.far total c.loop-k.k c.loop-k.path.items c.push-in-loop-k.new.self.items c.loop-k.last c.next-target.result
    (omega arith) c.loop-k.invariant c.next-target.ensures (omega arith) c.in_ok-push-2.ensures.items

pub returns : goal.returns
returns c =
    let far = c.args.far.now in
    let total = get_or far c.args.func 0 in
    let e : c.loop-k.k ≡ total = omega arith in
    closes c.args.calls.now c.args.func far c.requires.far total c.loop-k.k c.loop-k.path.items c.push-2.new.self.items c.loop-k.last refl e c.loop-k.invariant c.in_ok-push-3.ensures.items
