use Rattle.std.proofs.Common.{length, ap, arith}
use Rattle.machine_thumb_asm.specs.Assembly.{here}
use Rattle.ir_model.specs.Resolved.{func_at}
use Rattle.ir_program.specs.Seen.{program_of}
use Rattle.code_model.specs.FunctionCode.{function_items}
use Rattle.image_linker.proofs.code.put_standing.Goals as goal
use Rattle.machine_thumb_asm.proofs.Items.{total-append}

pub put_filling-requires : goal.put_filling-requires
put_filling-requires c =
    let a = c.args.asm.now in
    let q = c.args.places.now in
    let g = func_at (program_of c.args.program.now) c.args.func in
    let items = function_items g q (length a.places) (here a) in
    let e = ap here c.in_ok-lower.ensures in
    let t = total-append a.items items in
    let h = c.sizes.ensures.hold.functions g q (length a.places) (here a) in
    omega (arith, e, t, h, c.requires.size, c.requires.stands.room)
