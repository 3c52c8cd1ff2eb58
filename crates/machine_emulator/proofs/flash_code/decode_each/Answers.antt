use Rattle.std.proofs.Common.{◌≡◌, ◌+◌, ◌*◌, [], ◌∷◌, length, length-append, subst, arith}
use Rattle.std.specs.Option.{IfSome}
use Rattle.machine_emulator.specs.Code.{IsDecoded}
use Rattle.machine_emulator.proofs.Found.{each_push}
use Rattle.machine_emulator.proofs.flash_code.decode_each.Goals as goal

pub loop-k-preserved : goal.loop-k-preserved
loop-k-preserved c =
    let flash = c.args.flash.now in
    let items = c.loop-k.instructions.items in
    let o = c.decoded_at.result in
    let count = c.loop-k.invariant.0 in
    let longer = length-append items (o ∷ []) in
    rw c.in_ok-push.ensures.items (
      omega (arith, longer, count),
      each_push flash 0 items o c.loop-k.invariant.1 (subst (λ n. IfSome o (λ x. IsDecoded flash (2 * n) x)) (let e : c.loop-k.k ≡ 0 + length items = omega (arith, count) in e) c.decoded_at.ensures),
    )
