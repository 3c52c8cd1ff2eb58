use Rattle.std.proofs.Common.{ℕ, get_or, ap}
use Rattle.plan_model.proofs.Numbers.{mapped_more}
use Rattle.image_symbols.specs.declared.rising.Lying.{Lying}
use Rattle.image_symbols.proofs.Parts.{lying_at}
use Rattle.image_symbols.proofs.rising.numbered.Goals as goal

pub loop-place-preserved : goal.loop-place-preserved
loop-place-preserved c =
    let addresses = c.args.addresses.now in
    let k : ℕ = c.loop-place.place in
    let there : ℕ → Lying = λ n. record { number = n; address = get_or addresses k 0 } in
    mapped_more (lying_at addresses) k c.loop-place.all.items _ _ c.loop-place.invariant (ap there c.in_ok-number.ensures) c.in_ok-push.ensures.items
