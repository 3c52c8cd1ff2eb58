use Rattle.std.proofs.Common.{◌≡◌, ◌-◌, ◌/◌, None, get_or, sym, subst, arith}
use Rattle.std.specs.Option.{IfSome}
use Rattle.std.proofs.lemmas.List.{get_or_read}
use Rattle.machine_emulator.specs.Code.{StandsIn}
use Rattle.machine_emulator.proofs.Found.{found}
use Rattle.machine_emulator.proofs.flash_code.FlashCode.at.Goals as goal

pub returns-then-number-len : goal.returns-then-number-len
returns-then-number-len c = λ image code.
    let items = c.args.self.now.instructions.items in
    let number = (c.args.address - c.args.self.now.base) / 2 in
    let lo = c.if-address-self.false in
    let lt = c.if-number-len.true in
    let is : c.index.result.now ≡ get_or items number None = get_or_read items _ _ (omega arith) c.index.ensures None in
    subst (λ o. IfSome o (λ x. StandsIn image c.args.address x)) (sym is) (found image c.args.self.now c.args.address code c.requires (omega arith) (omega arith))
