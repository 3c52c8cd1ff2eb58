use Rattle.std.proofs.Common.{◌∙◌, arith}
use Rattle.code_lower.proofs.Calling.{arg_room, args_room, args_whole}
use Rattle.code_lower.proofs.calls.put_args.Goals as goal

pub put-requires-clause-room : goal.put-requires-clause-room
put-requires-clause-room c = rw c.load_home.ensures.code (arg_room c.args.args.now c.loop-register.register 0 (omega arith) c.loop-register.asm c.loop-register.invariant.room)

pub loop-register-preserved : goal.loop-register-preserved
loop-register-preserved c =
    let as_ = c.args.args.now in
    let i = c.loop-register.register in
    let a = c.loop-register.asm in
    rw (c.in_ok-put.ensures, c.load_home.ensures.code)
    record {
      whole = args_whole as_ i 0 (omega arith) a ∙ c.loop-register.invariant.whole;
      room = args_room as_ i 0 (omega arith) a c.loop-register.invariant.room;
    }
