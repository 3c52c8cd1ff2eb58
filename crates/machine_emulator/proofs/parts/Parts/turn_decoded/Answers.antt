-- The cases by what stands at the program counter, and what of it may be fetched.
use Rattle.std.proofs.Common.{◌≡◌, true, false, sym, ◌∙◌}
use Rattle.machine_protection.specs.declared.region.Access.TheVariants.{Fetch}
use Rattle.machine_model.specs.State.{by_mpu}
use Rattle.machine_emulator.specs.Parts.{state_of}
use Rattle.machine_emulator.proofs.Standing.{performs, refuses_first, refuses_second}
use Rattle.machine_emulator.proofs.parts.Parts.turn_decoded.Goals as goal

pub returns-then-not-permits : goal.returns-then-not-permits
returns-then-not-permits c =
    let i = c.args.self.now.bus.image in
    let s = state_of c.args.self.now in
    let no : by_mpu s.protection Fetch s.core.pc ≡ false = sym c.permits.ensures.answer ∙ c.if-not-permits.true in
    rw (refuses_first by_mpu i s c.args.decoded c.requires.live no) (rw c.permits.ensures.same at c.fetch_fault.ensures)

pub returns-then-not-permits_second : goal.returns-then-not-permits_second
returns-then-not-permits_second c =
    let i = c.args.self.now.bus.image in
    let s = state_of c.args.self.now in
    let yes' : by_mpu s.protection Fetch s.core.pc ≡ true = sym c.permits.ensures.answer ∙ c.if-not-permits.false in
    let no = c.permits_second.ensures.may_not c.if-not-permits_second.true in
    rw (refuses_second by_mpu i s c.args.decoded c.image.ensures.kept.rules c.requires.there c.requires.live yes' no.0 (rw c.permits.ensures.same at no.1))
    (rw (c.permits_second.ensures.same, c.permits.ensures.same) at c.fetch_fault-then-not-permits_second.ensures)

pub returns : goal.returns
returns c =
    let i = c.args.self.now.bus.image in
    let s = state_of c.args.self.now in
    let yes' : by_mpu s.protection Fetch s.core.pc ≡ true = sym c.permits.ensures.answer ∙ c.if-not-permits.false in
    let second = rw c.permits.ensures.same at c.permits_second.ensures.may c.if-not-permits_second.false in
    rw (performs by_mpu i s c.args.decoded c.image.ensures.kept.rules c.requires.there c.requires.live yes' (λ w. second w yes'))
    (rw (c.permits_second.ensures.same, c.permits.ensures.same, c.from.ensures) at c.execute.ensures)
