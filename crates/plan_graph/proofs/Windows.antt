-- Windows of the peripherals that pass a test, one by one.
use Rattle.std.proofs.Common.{◌≡◌, ℕ, ◌<◌, List, length, get_or, ap, sym, ◌∙◌}
use Rattle.std.proofs.lemmas.List.{get_or-map}
use Rattle.plan_model.specs.declared.graph.Cover.{Cover}
use Rattle.plan_model.specs.InitialGraph.{cover_of}
use Rattle.ir_model.specs.Resolved.{NumberedWindow, no_window}
use Rattle.ir_program.specs.declared.program.Program.{Program}
use Rattle.ir_program.specs.declared.program.Span.{Span}
use Rattle.ir_program.specs.Parts.{span_of}
use Rattle.ir_program.specs.Seen.{program_of}

-- of a window that is not there
abbrev pub no_span : Span
no_span = record { base = 0; size = 0 }

-- a peripheral's window as a cover
pub cover_read : (p : Program) (ss : List Span) (q : ℕ) → ss ≡ p.periphs → q < length p.periphs → (let c : Cover = record { base = (get_or ss q no_span).base; size = (get_or ss q no_span).size } in c) ≡ cover_of (program_of p) q
cover_read p ss q e l =
    ap (λ (xs : List Span). let c : Cover = record { base = (get_or xs q no_span).base; size = (get_or xs q no_span).size } in c) e
    ∙ ap (λ (w : NumberedWindow). let c : Cover = record { base = w.base; size = w.size } in c) (sym (get_or-map span_of p.periphs q no_span no_window l))
