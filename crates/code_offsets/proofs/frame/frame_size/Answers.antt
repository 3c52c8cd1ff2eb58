use Rattle.std.proofs.Common.{◌≡◌, ◌^◌, ◌≤◌, ℕ, Option, None, Some, [], inr, sym, ap, ◌∙◌, subst}
use Rattle.std.specs.Option.{IfNone}
use Rattle.std.proofs.lemmas.Option.{IfSome_then}
use Rattle.ir_model.specs.Resolved.{func_at}
use Rattle.ir_program.specs.Parts.{routine_of}
use Rattle.ir_program.specs.Seen.{known_of, program_of}
use Rattle.code_model.specs.FrameShape.{frame_size}
use Rattle.code_offsets.proofs.Bare.{same_frame_size}
use Rattle.code_offsets.proofs.frame.frame_size.Goals as goal

IfNone_then : {X : Type 0} (r : Option X) {P Q : Type 0} → IfNone r P → (P → Q) → IfNone r Q
IfNone_then None h f = f h
IfNone_then (Some x) h f = tt

pub returns-clause-value : goal.returns-clause-value
returns-clause-value c =
    let p = c.args.program.now in
    let r = c.in_ok-routine.routine.now in
    let same : frame_size (routine_of [] r) ≡ frame_size (func_at (program_of p) c.args.func) = sym (ap frame_size c.in_ok-routine.ensures.there.1 ∙ same_frame_size (known_of p) r) in
    IfSome_then c.routine_frame.result {P = λ n. n ≡ frame_size (routine_of [] r)} {Q = λ n. n ≡ frame_size (func_at (program_of p) c.args.func)} c.routine_frame.ensures.value (λ n h. h ∙ same)

pub returns-clause-none : goal.returns-clause-none
returns-clause-none c =
    let p = c.args.program.now in
    let r = c.in_ok-routine.routine.now in
    let same : frame_size (routine_of [] r) ≡ frame_size (func_at (program_of p) c.args.func) = sym (ap frame_size c.in_ok-routine.ensures.there.1 ∙ same_frame_size (known_of p) r) in
    IfNone_then c.routine_frame.result c.routine_frame.ensures.none (λ h. inr (subst (λ (m : ℕ). 2 ^ 32 ≤ m) same h))
