use Rattle.std.proofs.Common.{◌≡◌, length, ap, arith}
use Rattle.std.proofs.lemmas.List.{length-map}
use Rattle.ir_program.specs.Parts.{variable_of}
use Rattle.ir_program.specs.Seen.{program_of, known_of}
use Rattle.need_sets.specs.Demands.{global_demands}
use Rattle.need_constraints.proofs.Gathering.{gathers_none, numbers_more, numbers_all}
use Rattle.need_constraints.proofs.generator.Generator.put_globals.Goals as goal

pub loop-global-init : goal.loop-global-init
loop-global-init c = gathers_none c.args.self.now.numbering c.args.rules.now

pub loop-global-preserved : goal.loop-global-preserved
loop-global-preserved c = numbers_more c.args.self.now.numbering c.args.rules.now c.loop-global.rules c.put_global.new.rules (global_demands (program_of c.args.self.now.program.now)) c.loop-global.global c.loop-global.invariant c.in_ok-put_global.ensures

pub returns : goal.returns
returns c =
    let m : length c.as_slice.result.now ≡ length c.args.self.now.program.now.globals = ap length c.as_slice.ensures in
    let l : length (program_of c.args.self.now.program.now).globals ≡ length c.args.self.now.program.now.globals = length-map c.args.self.now.program.now.globals (variable_of (known_of c.args.self.now.program.now)) in
    let e : c.loop-global.global ≡ length (program_of c.args.self.now.program.now).globals = omega arith in
    numbers_all c.args.self.now.numbering c.args.rules.now c.loop-global.rules (global_demands (program_of c.args.self.now.program.now)) c.loop-global.global (length (program_of c.args.self.now.program.now).globals) e c.loop-global.invariant
