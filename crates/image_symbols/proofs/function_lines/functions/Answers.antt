use Rattle.std.proofs.Common.{ℕ, List, ◌≡◌, subst, ◌∙◌}
use Rattle.std.specs.Prelude.{IfOk}
use Rattle.ir_program.specs.Seen.{program_of}
use Rattle.image_linker.proofs.Placed.{planned_entries}
use Rattle.image_symbols.specs.Rising as order
use Rattle.image_symbols.proofs.function_lines.functions.Goals as goal

pub returns : goal.returns
returns c =
    let s = c.args.subject.now in
    subst (λ (xs : List ℕ). IfOk c.rising.result (λ all. all.items ≡ order.rising xs))
    (c.as_slice.ensures ∙ planned_entries (program_of s.program.now) s.needs.now s.graph.now s.plan.now s.board.now c.args.parts.now c.requires) c.rising.ensures
