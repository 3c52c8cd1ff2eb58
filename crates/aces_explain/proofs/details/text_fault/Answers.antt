use Rattle.ir_model.specs.declared.token.Excess.TheVariants.{TooWide, Passes}
use Rattle.aces_explain.specs.Explanations.{utf8_told, passed_told}
use Rattle.aces_explain.specs.Answers.{ExplainAnswer, not_utf8, passed}
use Rattle.aces_explain.proofs.Lines.{lines_are}
use Rattle.aces_explain.proofs.details.text_fault.Goals as goal

pub returns-in-Utf8 : goal.returns-in-Utf8
returns-in-Utf8 c =
    let name = c.args.name.now in
    let bytes = c.args.bytes.now in
    let at = c.in-Utf8.at in
    lines_are c.utf8_told.result (λ v. v.items) (ExplainAnswer name bytes) (utf8_told name at)
    (rw c.as_bytes.ensures.value at c.utf8_told.ensures) (not_utf8 at (rw c.in-Utf8.is at c.requires))

pub returns-in-NumberTooWide : goal.returns-in-NumberTooWide
returns-in-NumberTooWide c =
    let name = c.args.name.now in
    let bytes = c.args.bytes.now in
    let pos = c.in-NumberTooWide.pos in
    lines_are c.passed_told.result (λ v. v.items) (ExplainAnswer name bytes) (passed_told name bytes TooWide pos)
    (rw c.as_bytes-in-NumberTooWide.ensures.value at c.passed_told.ensures) (passed TooWide pos (rw c.in-NumberTooWide.is at c.requires))

pub returns-in-Limit : goal.returns-in-Limit
returns-in-Limit c =
    let name = c.args.name.now in
    let bytes = c.args.bytes.now in
    let which = Passes c.in-Limit.which in
    let pos = c.in-Limit.pos in
    lines_are c.passed_told-in-Limit.result (λ v. v.items) (ExplainAnswer name bytes) (passed_told name bytes which pos)
    (rw c.as_bytes-in-Limit.ensures.value at c.passed_told-in-Limit.ensures) (passed which pos (rw c.in-Limit.is at c.requires))
