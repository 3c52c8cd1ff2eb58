-- What lines in rising order tell.
use Rattle.std.proofs.Common.{◌≡◌, ℕ, ◌+◌, ◌<◌, ◌≤◌, length, map, get_or, nat_lt, refl, ◌∙◌, arith}
use Rattle.std.specs.Prelude.{◌↔◌}
use Rattle.std.proofs.lemmas.List.Elements.{All-map, All-from_get_or, All-weaker}
use Rattle.std.proofs.lemmas.List.FromFn.{get_or-range_with_len, get_or-map-range_with_len, length-range_with_len, length-map-range_with_len}
use Rattle.ir_model.specs.Resolve.{resolve}
use Rattle.plan_model.specs.Lists.{numbers_below}
use Rattle.plan_model.specs.Placement.{global_address}
use Rattle.plan_model.specs.Regions.{global_size}
use Rattle.plan_policies.proofs.Below.{all_in_order}
use Rattle.plan.specs.PlannedFirmwares.{plan}
use Rattle.image_promises.specs.Permissions.{IsByteOf}
use Rattle.image_symbols.specs.declared.rising.Lying.{Lying}
use Rattle.image_symbols.specs.Rising.{rising}
use Rattle.image_symbols.specs.Told.{LinesTellPlaces, LinesTellBytes, global_addresses}

pub lines_tell_places : LinesTellPlaces
lines_tell_places as_ =
    let P : Lying → Type 0 = λ x. (x.number < length as_) × (x.address ≡ get_or as_ x.number 0) in
    let made : ℕ → Lying = λ k. record { number = k; address = get_or as_ k 0 } in
    let below : (i : ℕ) → i < length (numbers_below (length as_)) → get_or (numbers_below (length as_)) i 0 < length as_ =
    λ i l. let inside : i < length as_ = omega (arith, l, length-range_with_len 0 (length as_)) in omega (arith, inside, get_or-range_with_len 0 (length as_) i 0 inside) in
    all_in_order P (λ (x y : Lying). nat_lt x.address y.address) (map made (numbers_below (length as_)))
    (All-map P made (numbers_below (length as_)) (All-from_get_or (λ k. P (made k)) (numbers_below (length as_)) 0 (λ i l. (below i l, refl))))

pub lines_tell_bytes : LinesTellBytes
lines_tell_bytes w n f b =
    let p = resolve w in
    let all = global_addresses w n f b in
    let place : ℕ → ℕ = global_address p f (plan w n f b) in
    let size : length all ≡ length p.globals = length-map-range_with_len place 0 (length p.globals) in
    let Tells : Lying → Type 0 = λ x. (a : ℕ) → ((x.address ≤ a) × (a < x.address + global_size p x.number)) ↔ IsByteOf w n f b x.number a in
    All-weaker (λ (x : Lying). (x.number < length all) × (x.address ≡ get_or all x.number 0)) Tells
    (λ x h. λ a.
    let inside : x.number < length p.globals = omega (arith, h.0, size) in
    let at : x.address ≡ place x.number = h.1 ∙ get_or-map-range_with_len place 0 (length p.globals) x.number x.number 0 inside (omega arith) in
    ((λ m. (omega (arith, at, m.0), omega (arith, at, m.1))), (λ m. (omega (arith, at, m.0), omega (arith, at, m.1)))))
    (rising all) (lines_tell_places all)
