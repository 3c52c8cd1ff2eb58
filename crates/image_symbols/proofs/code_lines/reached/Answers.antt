use Rattle.std.proofs.Common.{ℕ, [], length, get_or, ap, ◌∙◌}
use Rattle.ir_model.specs.Resolved.{func_at}
use Rattle.ir_program.specs.Seen.{program_of}
use Rattle.code_model.specs.FrameShape.{local_starts}
use Rattle.code_model.specs.Places.{lends_among}
use Rattle.code_model.specs.Sizes.{place_offset}
use Rattle.image_symbols.proofs.Parts.{lends_made, offset_made}
use Rattle.image_symbols.proofs.code_lines.reached.Goals as goal

pub go_on-requires-clause-lends : goal.go_on-requires-clause-lends
go_on-requires-clause-lends c =
    let s = c.args.subject.now in
    lends_made (program_of s.program.now) s.needs.now s.graph.now s.plan.now s.board.now c.args.parts.now c.requires.made

pub returns-in-Some : goal.returns-in-Some
returns-in-Some c =
    let s = c.args.subject.now in
    let p = program_of s.program.now in
    let x = c.args.parts.now in
    let f : ℕ = c.args.of.number in
    let offset : ℕ → ℕ → ℕ = place_offset (func_at p f) (get_or x.numbers.sites f []) (length (lends_among (local_starts (func_at p f)) (get_or x.numbers.lends f []))) in
    let r = c.in-Some.reached in
    record {
      reached = c.in-Some.ensures.reached;
      offset =
          c.in-Some.ensures.reached.offset
          ∙ ap (λ b. offset b r.place) c.in-Some.ensures.block
          ∙ ap (λ k. offset c.args.at.block k) c.in-Some.ensures.place
          ∙ offset_made p s.needs.now s.graph.now s.plan.now s.board.now x c.requires.made f c.args.at.block c.args.at.number;
    }
