use Rattle.std.proofs.Common.{◌≡◌, ℕ, List, length, sym, ap, ◌∙◌, Option}
use Rattle.std.proofs.lemmas.List.{length-map}
use Rattle.ir_model.specs.Resolved.{NumberedFunc}
use Rattle.ir_program.specs.Parts.{routine_of, sequence_of}
use Rattle.ir_program.specs.Seen.{known_of}
use Rattle.code_model.specs.FrameShape.{local_starts}
use Rattle.code_model.specs.Places.{lends_among}
use Rattle.code_lower.specs.Subjects.{first_label, labels_from}
use Rattle.code_model.specs.Fitting.{FuncFits}
use Rattle.code_lower.proofs.Sizing.{same_local_starts}
use Rattle.code_lower.proofs.Preparing.{bare_frame, starts_count, first_is}
use Rattle.code_lower.proofs.subject.make_subject.Goals as goal
use Rattle.code_offsets.proofs.Bare.{same_words}

pub local_starts-requires : goal.local_starts-requires
local_starts-requires c =
    bare_frame c.args.program.now c.routine_at-routine.result.now c.args.places.now (rw c.routine_at-routine.ensures at c.requires.fits)

pub lent_among-requires-clause-pairs : goal.lent_among-requires-clause-pairs
lent_among-requires-clause-pairs c =
    ap length c.as_slice.ensures.value
    ∙ (ap length c.in_ok-starts.ensures.exact
    ∙ (starts_count c.args.program.now c.routine_at-routine.result.now c.args.places.now (rw c.routine_at-routine.ensures at c.requires.fits) ∙ sym (ap length c.as_slice-2.ensures)))

pub returns-clause-subject : goal.returns-clause-subject
returns-clause-subject c =
    let ks = known_of c.args.program.now in
    let r = c.routine_at-routine.result.now in
    let g : NumberedFunc = routine_of ks r in
    let fits : FuncFits c.args.places.now g = rw c.routine_at-routine.ensures at c.requires.fits in
    let starts = c.in_ok-starts.ensures.exact ∙ sym (same_local_starts ks r) in
    let count : c.len.result ≡ length g.blocks = c.len.ensures ∙ sym (length-map r.blocks (sequence_of ks)) in
    let from = c.in_ok-labels.ensures.labels ∙ ap (labels_from (length c.args.asm.now.places)) count in
    let first = ap first_label from ∙ first_is (length c.args.asm.now.places) (length g.blocks) fits.some_block in
    record {
      fits = fits;
      words = c.in-Some.ensures.value ∙ sym (same_words ks r);
      starts = starts;
      near = c.in_ok-starts.ensures.near;
      lent = c.in_ok-lent.ensures.exact
          ∙ (ap (λ (xs : List ℕ). lends_among xs c.as_slice-2.result.now) (c.as_slice.ensures.value ∙ starts)
          ∙ ap (λ (ys : List (Option ℕ)). lends_among (local_starts g) ys) c.as_slice-2.ensures);
      small = c.in_ok-lent.ensures.small;
      labels = from ∙ ap (λ (n : ℕ). labels_from n (length g.blocks)) (sym first);
    }

pub returns-clause-first : goal.returns-clause-first
returns-clause-first c =
    let ks = known_of c.args.program.now in
    let r = c.routine_at-routine.result.now in
    let g : NumberedFunc = routine_of ks r in
    let fits : FuncFits c.args.places.now g = rw c.routine_at-routine.ensures at c.requires.fits in
    let count : c.len.result ≡ length g.blocks = c.len.ensures ∙ sym (length-map r.blocks (sequence_of ks)) in
    let from = c.in_ok-labels.ensures.labels ∙ ap (labels_from (length c.args.asm.now.places)) count in
    ap first_label from ∙ first_is (length c.args.asm.now.places) (length g.blocks) fits.some_block
