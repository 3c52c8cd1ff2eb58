use Rattle.ir_program.specs.Seen.{program_of}
use Rattle.image_symbols.proofs.Parts.{lends_made, size_made}
use Rattle.image_symbols.proofs.function_lines.code_size.Goals as goal

pub size_of-requires : goal.size_of-requires
size_of-requires c =
    let s = c.args.subject.now in
    lends_made (program_of s.program.now) s.needs.now s.graph.now s.plan.now s.board.now c.args.parts.now c.requires

pub returns-in-Some : goal.returns-in-Some
returns-in-Some c =
    let s = c.args.subject.now in
    size_made (program_of s.program.now) s.needs.now s.graph.now s.plan.now s.board.now c.args.parts.now c.requires c.in-Some.size c.args.func c.in-Some.ensures
