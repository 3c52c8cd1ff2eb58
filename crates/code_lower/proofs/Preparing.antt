-- What is known of a function whose code is put.
use Rattle.std.proofs.Common.{◌≡◌, ℕ, zero, suc, ◌+◌, ◌*◌, ◌<◌, ◌≤◌, List, [], ◌∷◌, ◌++◌, length, get_or, drop, Option, Some, None, refl, sym, ap, ◌∙◌, arith}
use Rattle.std.proofs.lemmas.List.{drop_more, drop_all}
use Rattle.std.proofs.lemmas.List.FromFn.{get_or-map-range_with_len, length-map-range_with_len}
use Rattle.machine_thumb_asm.specs.declared.item.Label.{Label}
use Rattle.ir_program.specs.declared.program.Routine.{Routine}
use Rattle.ir_program.specs.declared.program.Program.{Program}
use Rattle.ir_program.specs.Parts.{routine_of}
use Rattle.ir_program.specs.Seen.{known_of}
use Rattle.code_model.specs.declared.places.Places.{Places}
use Rattle.code_lower.specs.declared.subject.Subject.{Subject}
use Rattle.code_model.specs.FrameShape.{local_starts, frame_size}
use Rattle.code_model.specs.Fitting.{FuncFits}
use Rattle.code_offsets.proofs.Bare.{same_frame_size}
use Rattle.code_lower.proofs.Sizing.{same_local_starts}
use Rattle.code_model.specs.Places.{lends_among}
use Rattle.code_lower.specs.Subjects.{func_of, labels_from, first_label, IsSubject}
use Rattle.code_model.proofs.Frames.{starts_length}
use Rattle.ir_model.specs.Typing.{frame_limit}

pub label_at : (first n b : ℕ) (d : Label) → b < n → get_or (labels_from first n) b d ≡ record { number = first + b }
label_at first n b d h = let f : ℕ → Label = λ i. record { number = i } in get_or-map-range_with_len f first n b (first + b) d h refl

pub first_is : (first n : ℕ) → 0 < n → first_label (labels_from first n) ≡ first
first_is first zero h = absurd (omega arith)
first_is first (suc n) h = refl

-- the label of a block, in a function that is put
pub labels_length : (s : Subject) → IsSubject s → length s.labels.items ≡ length (func_of s).blocks
labels_length s h =
    let f : ℕ → Label = λ i. record { number = i } in
    ap length h.labels ∙ length-map-range_with_len f (first_label s.labels.items) (length (func_of s).blocks)

pub label_is : (s : Subject) (b : ℕ) (d : Label) → IsSubject s → b < length (func_of s).blocks → (get_or s.labels.items b d).number ≡ first_label s.labels.items + b
label_is s b d h l =
    ap (λ (ls : List Label). (get_or ls b d).number) h.labels
    ∙ ap (λ (x : Label). x.number) (label_at (first_label s.labels.items) (length (func_of s).blocks) b d l)

pub locals_length : (s : Subject) → IsSubject s → length s.starts.items ≡ length (func_of s).locals
locals_length s h = ap length h.starts ∙ starts_length (4 * length (func_of s).regs) (func_of s).locals

lends_split : (s : ℕ) (ss : List ℕ) (n : Option ℕ) (ns : List (Option ℕ)) → lends_among (s ∷ ss) (n ∷ ns) ≡ lends_among (s ∷ []) (n ∷ []) ++ lends_among ss ns
lends_split s ss None ns = refl
lends_split s ss (Some k) ns = refl

-- the next of some locals with their numbers is lent, or it is not
pub lends_step : (ss : List ℕ) (ns : List (Option ℕ)) (i d : ℕ) (e : Option ℕ) → i < length ss → i < length ns →
    lends_among (drop i ss) (drop i ns) ≡ lends_among (get_or ss i d ∷ []) (get_or ns i e ∷ []) ++ lends_among (drop (i + 1) ss) (drop (i + 1) ns)
lends_step ss ns i d e l m =
    ap (λ xs. lends_among xs (drop i ns)) (drop_more ss i d l)
    ∙ (ap (λ xs. lends_among (get_or ss i d ∷ drop (i + 1) ss) xs) (drop_more ns i e m) ∙ lends_split (get_or ss i d) (drop (i + 1) ss) (get_or ns i e) (drop (i + 1) ns))

pub lends_done : (ss : List ℕ) (ns : List (Option ℕ)) (i : ℕ) → length ss ≤ i → lends_among (drop i ss) (drop i ns) ≡ []
lends_done ss ns i h = ap (λ xs. lends_among xs (drop i ns)) (drop_all i ss h)

pub ruleset lending = (lends_step, lends_done)

-- its frame is that of its registers and locals, whatever the cells of structs
module _ (p : Program) (r : Routine) (q : Places) (fits : FuncFits q (routine_of (known_of p) r)) where
  pub bare_frame : frame_size (routine_of [] r) ≤ frame_limit
  bare_frame = let e = same_frame_size (known_of p) r in let f = fits.frame in omega arith

  pub starts_count : length (local_starts (routine_of [] r)) ≡ length q.lends
  starts_count =
      ap length (sym (same_local_starts (known_of p) r)) ∙ (starts_length (4 * length (routine_of (known_of p) r).regs) (routine_of (known_of p) r).locals ∙ sym fits.lends)
