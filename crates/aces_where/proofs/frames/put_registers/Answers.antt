use Rattle.std.proofs.Common.{ℕ, ◌+◌, ◌++◌, ◌∙◌, ap, map, get_or}
use Rattle.ir_model.specs.Plain.{firmware_of}
use Rattle.ir_model.specs.Resolved.{Number}
use Rattle.ir_program.specs.Values.{value_of}
use Rattle.plan_model.specs.Lists.{numbers_below}
use Rattle.plan_model.proofs.Numbers.{numbers_more}
use Rattle.plan_report.proofs.Growing.{put_each}
use Rattle.aces_where.specs.PlaceLines.{register_line}
use Rattle.aces_where.proofs.frames.put_registers.Goals as goal

pub loop-register-preserved : goal.loop-register-preserved
loop-register-preserved c =
    let i : ℕ = c.loop-register.register in
    let w = firmware_of c.args.firmware.now in
    let f : ℕ = c.args.func in
    let vs = map value_of c.args.registers.now in
    put_each (λ r. register_line w f r (get_or vs r (Number 0))) (numbers_below i) (numbers_below (i + 1)) i c.args.text.now c.loop-register.text _ (numbers_more i)
    c.loop-register.invariant
    (c.in_ok-put_register_line.ensures ∙ ap (λ v. c.loop-register.text ++ register_line w f i v) c.value_at-value.ensures)
