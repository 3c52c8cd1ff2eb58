use Rattle.aces_explain.specs.Explanations.{syntax_told}
use Rattle.ir_expected_tokens.specs.SyntaxLines.{syntax_lines}
use Rattle.aces_explain.specs.Answers.{ExplainAnswer, unexpected}
use Rattle.aces_explain.proofs.Lines.{lines_are}
use Rattle.aces_explain.proofs.details.syntax_fault.Goals as goal

pub returns : goal.returns
returns c =
    let name = c.args.name.now in
    let bytes = c.args.bytes.now in
    let pos = c.args.pos in
    lines_are c.syntax_told.result (λ v. v.items) (ExplainAnswer name bytes) (syntax_told name bytes pos (syntax_lines bytes))
    (rw (c.as_bytes.ensures.value, c.as_slice.ensures.value, c.in_ok-details.ensures) at c.syntax_told.ensures) (unexpected pos c.requires)
