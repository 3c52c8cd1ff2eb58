use Rattle.std.proofs.Common.{◌≡◌, ℕ, ◌<◌, ◌^◌, arith, subst}
use Rattle.std.specs.Int.{IsPowerOfTwo}
use Rattle.machine_protection.specs.RegionWords.{region_of}
use Rattle.machine_protection.proofs.RegionWords.{size_room, base_room, held}
use Rattle.machine_protection.proofs.words.region.Goals as goal

-- what `get` says of the number that it gives holds of the size
is_power : (number size : ℕ) → number ≡ size → IsPowerOfTwo number → IsPowerOfTwo size
is_power number size e power = subst IsPowerOfTwo e power

is_small : (number size : ℕ) → number ≡ size → number < 2 ^ 32 → size < 2 ^ 32
is_small number size e small = omega arith

pub overflow_sub-size_field : goal.overflow_sub-size_field
overflow_sub-size_field c =
    let power = is_power c.get.result c.args.size c.get.ensures.number c.get.ensures.power in
    let small = is_small c.get.result c.args.size c.get.ensures.number c.get.type_inv in
    rw c.get.ensures.number (let room = size_room c.args.size power c.requires.size small in omega arith)

pub overflow_add-result : goal.overflow_add-result
overflow_add-result c =
    let power = is_power c.get.result c.args.size c.get.ensures.number c.get.ensures.power in
    let small = is_small c.get.result c.args.size c.get.ensures.number c.get.type_inv in
    let room = base_room c.args.base c.args.size power c.requires.size small c.requires.base (omega arith) in
    omega arith

pub overflow_add-result-2 : goal.overflow_add-result-2
overflow_add-result-2 c =
    let power = is_power c.get.result c.args.size c.get.ensures.number c.get.ensures.power in
    let small = is_small c.get.result c.args.size c.get.ensures.number c.get.type_inv in
    let room = base_room c.args.base c.args.size power c.requires.size small c.requires.base (omega arith) in
    omega arith

pub returns-clause-holds : goal.returns-clause-holds
unfolding region_of
returns-clause-holds c = λ a.
    let power = is_power c.get.result c.args.size c.get.ensures.number c.get.ensures.power in
    let small = is_small c.get.result c.args.size c.get.ensures.number c.get.type_inv in
    rw (c.get.ensures.number, c.from.ensures, c.word.ensures.exact, c.from-2.ensures)
    (held c.args.rights c.args.number c.args.base c.args.size c.args.srd c.requires.number power c.requires.size small c.requires.base (omega arith) a)
