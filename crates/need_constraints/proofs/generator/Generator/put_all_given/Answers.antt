use Rattle.std.proofs.Common.{◌≡◌, length, arith}
use Rattle.ir_program.specs.Seen.{program_of}
use Rattle.need_sets.specs.Demands.{argument_given}
use Rattle.need_constraints.proofs.Gathering.{gathers_none, numbers_more, numbers_all}
use Rattle.need_constraints.proofs.generator.Generator.put_all_given.Goals as goal

pub loop-place-init : goal.loop-place-init
loop-place-init c = gathers_none c.args.self.now.numbering c.args.rules.now

pub loop-place-preserved : goal.loop-place-preserved
loop-place-preserved c = numbers_more c.args.self.now.numbering c.args.rules.now c.loop-place.rules c.put_given.new.rules (argument_given (program_of c.args.self.now.program.now) c.args.func c.args.pointer c.args.args.now) c.loop-place.place c.loop-place.invariant c.in_ok-put_given.ensures

pub returns : goal.returns
returns c =
    let e : c.loop-place.place ≡ length c.args.args.now = omega arith in
    numbers_all c.args.self.now.numbering c.args.rules.now c.loop-place.rules (argument_given (program_of c.args.self.now.program.now) c.args.func c.args.pointer c.args.args.now) c.loop-place.place (length c.args.args.now) e c.loop-place.invariant
