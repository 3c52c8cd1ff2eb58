use Rattle.std.proofs.Common.{arith}
use Rattle.ir_program.specs.Seen.{program_of}
use Rattle.needs.proofs.Lendables.{own_pushed, own_whole}
use Rattle.needs.proofs.lending.own.Goals as goal

pub overflow_cast-local : goal.overflow_cast-local
overflow_cast-local c =
    let m = c.requires.locals c.args.func in
    let l = c.local_count-local-end.ensures in
    omega arith

pub loop-local-preserved : goal.loop-local-preserved
loop-local-preserved c = own_pushed c.args.func c.loop-local.local c.loop-local.locals.items c.push.new.self.items c.in_ok-push.ensures.items c.loop-local.invariant

pub returns : goal.returns
returns c = λ x.
    let l = c.local_count-local-end.ensures in
    own_whole (program_of c.args.program.now) c.args.func x c.loop-local.local c.loop-local.locals.items (omega arith) (c.loop-local.invariant x)
