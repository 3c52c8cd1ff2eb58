use Rattle.std.proofs.Common.{◌≡◌, length, ap, arith}
use Rattle.std.proofs.lemmas.List.{length-map}
use Rattle.ir_program.specs.Parts.{routine_of}
use Rattle.ir_program.specs.Seen.{program_of, known_of}
use Rattle.need_sets.specs.Demands.{func_demands}
use Rattle.need_constraints.proofs.Gathering.{gathers_none, numbers_more, numbers_all}
use Rattle.need_constraints.proofs.generator.Generator.put_funcs.Goals as goal

pub loop-func-init : goal.loop-func-init
loop-func-init c = gathers_none c.args.self.now.numbering c.args.rules.now

pub loop-func-preserved : goal.loop-func-preserved
loop-func-preserved c = numbers_more c.args.self.now.numbering c.args.rules.now c.loop-func.rules c.put_func.new.rules (func_demands (program_of c.args.self.now.program.now)) c.loop-func.func c.loop-func.invariant c.in_ok-put_func.ensures

pub returns : goal.returns
returns c =
    let m : length c.as_slice.result.now ≡ length c.args.self.now.program.now.funcs = ap length c.as_slice.ensures in
    let l : length (program_of c.args.self.now.program.now).funcs ≡ length c.args.self.now.program.now.funcs = length-map c.args.self.now.program.now.funcs (routine_of (known_of c.args.self.now.program.now)) in
    let e : c.loop-func.func ≡ length (program_of c.args.self.now.program.now).funcs = omega arith in
    numbers_all c.args.self.now.numbering c.args.rules.now c.loop-func.rules (func_demands (program_of c.args.self.now.program.now)) c.loop-func.func (length (program_of c.args.self.now.program.now).funcs) e c.loop-func.invariant
