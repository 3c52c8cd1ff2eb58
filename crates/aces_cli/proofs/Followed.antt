-- Status 0 of `stack` and of `compile` on the same contents.
use Rattle.std.proofs.Common.{◌≡◌, ℕ, ◌≤◌, Bool, true, false, cond, List, nat_le, refl, subst, arith, IsTrue}
use Rattle.std.proofs.lemmas.Bool.{leb-true}
use Rattle.ir_model.specs.Plain.{PlainFirmware}
use Rattle.ir_reader.specs.Laws.{TextsAreUnique}
use Rattle.plan_model.specs.declared.plan.Board.{Board}
use Rattle.plan_board.specs.Reading.{IsRead}
use Rattle.plan_board.specs.Laws.{BoardsAreOne}
use Rattle.plan_model.specs.declared.policy.Policy.{Policy}
use Rattle.aces_words.specs.Requests.{Request, Compile, Asks, Origin, file_origin, firmware_origin}
use Rattle.aces_words.proofs.Requests.{requests_are_one}
use Rattle.aces_files.specs.Answers as files
use Rattle.aces_files.specs.Known.{Held, HoldsWithin, Exceeds}
use Rattle.aces_files.specs.Outcomes.{Outcome}
use Rattle.aces_files.specs.Effects.{IsRewritten}
use Rattle.aces_firmwares.specs.Firmwares.{IsFirmware}
use Rattle.refine_stack.specs.declared.answer.StackAnswer.{StackAnswer}
use Rattle.refine_stack.specs.declared.answer.StackAnswer.TheVariants.{Cycle, Bound}
use Rattle.aces_stack.specs.Bounded.{Fits, ImagesRefineWhole}
use Rattle.aces_stack.specs.Lines.{stack_status}
use Rattle.aces_firmwares.specs.PlanAnswer as plans
use Rattle.aces_firmwares.specs.PlanAnswer.{PlanAnswer}
use Rattle.aces_plans.specs.Answers as stacks
use Rattle.aces_plans.specs.Answers.{StackAnswers, AnswerToStack}
use Rattle.aces_cli.specs.Answer as answers
use Rattle.aces_cli.specs.Answer.{CompileAnswer, AnswerToCompile, Answer, Answers}
use Rattle.aces_cli.specs.Bounded.{IsFollowed, BoundedCallsAreFollowed}
use Rattle.aces_cli.proofs.Good.{held_is_one}

fits_by : (stack : ℕ) (a : StackAnswer) → stack_status stack a ≡ 0 → Fits stack a
fits_by stack (Cycle c) e = let f : ⊥ = omega (arith, e) in f
fits_by stack (Bound needed path) e = by (nat_le needed stack) refl e
  where
    by : (t : Bool) → nat_le needed stack ≡ t → ◌≡◌ {A = ℕ} (cond t 0 8) 0 → needed ≤ stack
    by true q e = leb-true needed stack q
    by false q e = let f : ⊥ = omega (arith, e) in absurd f

-- what status 0 of `stack` says, on the bytes of both files
record Promises (policy : Policy) (bytes text : List ℕ) : Type 0 where
  pub w : PlainFirmware
  pub b : Board
  pub is_firmware : IsFirmware w bytes
  pub is_board : IsRead text b
  pub whole : ImagesRefineWhole policy w b

promised : (firmware board : List ℕ) (policy : Policy) (bytes text : List ℕ) (s : Outcome) → StackAnswers firmware board policy bytes text s → s.status ≡ 0 → Promises policy bytes text
promised firmware board policy bytes text s (stacks.no_firmware f h) e = let f : ⊥ = omega (arith, e) in absurd f
promised firmware board policy bytes text s (stacks.no_board w f h k) e = let f : ⊥ = omega (arith, e) in absurd f
promised firmware board policy bytes text s (stacks.too_many w b which count h k r) e = let f : ⊥ = omega (arith, e) in absurd f
promised firmware board policy bytes text s (stacks.bounded w b a h k r) e = record {
  w = w;
  b = b;
  is_firmware = h;
  is_board = k;
  whole = r.whole (fits_by b.stack a e);
}

-- a firmware that has no plan is refused with no 0
plan_fails : (firmware board : List ℕ) (policy : Policy) (bytes text : List ℕ) (o : Outcome) → PlanAnswer firmware board policy bytes text o → o.status ≡ 0 → ⊥
plan_fails firmware board policy bytes text o (plans.no_firmware f h) e = omega (arith, e)
plan_fails firmware board policy bytes text o (plans.no_board w f h k) e = omega (arith, e)
plan_fails firmware board policy bytes text o (plans.too_many w b which count h k r) e = omega (arith, e)
plan_fails firmware board policy bytes text o (plans.meets_denied w b m h k r) e = omega (arith, e)
plan_fails firmware board policy bytes text o (plans.lacks_room w b lack h k r) e = omega (arith, e)

module _ (unique : TextsAreUnique) (one : BoardsAreOne) (told : Bool) (yes_told : IsTrue told) (old new : Held) (firmware board : List ℕ) (policy : Policy) (image : List ℕ) where
  follow : (bytes text : List ℕ) (o : Outcome) → HoldsWithin old (firmware_origin firmware) bytes → HoldsWithin old (file_origin board) text → Promises policy bytes text
      → CompileAnswer firmware board policy image bytes text o → o.status ≡ 0 → IsRewritten told o.written old new → IsFollowed policy old firmware board new image
  follow bytes text o hb ht g (answers.unplanned p u) e written = absurd (plan_fails firmware board policy bytes text p u e)
  follow bytes text o hb ht g (answers.compiled w b out h k t) e written =
      let same_w : g.w ≡ w = unique g.w w bytes g.is_firmware.is_text h.is_text in
      let same_b : g.b ≡ b = one text g.b b g.is_board k in
      let whole : ImagesRefineWhole policy w b =
      subst (ImagesRefineWhole policy w) same_b (subst (λ (v : PlainFirmware). ImagesRefineWhole policy v g.b) same_w g.whole) in
      record {
        bytes = bytes;
        text = text;
        has_bytes = hb;
        has_text = ht;
        w = w;
        b = b;
        is_firmware = h;
        is_board = k;
        i = t.image;
        out = out;
        is_text = t.is_text;
        held = written.1 yes_told;
        is_image = t.is_image;
        refines = whole t.image t.is_image;
      }

  compile_by : (bytes text : List ℕ) (o : Outcome) → HoldsWithin old (firmware_origin firmware) bytes → HoldsWithin old (file_origin board) text → Promises policy bytes text
      → AnswerToCompile firmware board policy image (HoldsWithin old) (Exceeds old) o → o.status ≡ 0 → IsRewritten told o.written old new → IsFollowed policy old firmware board new image
  compile_by bytes text o hb ht g (files.first_large x) e written = let f : ⊥ = omega (arith, e) in absurd f
  compile_by bytes text o hb ht g (files.second_large bytes1 h1 x) e written = let f : ⊥ = omega (arith, e) in absurd f
  compile_by bytes text o hb ht g (files.both_read bytes1 text1 o1 h1 t1 a) e written =
      follow bytes1 text1 o1 h1 t1
      (subst (Promises policy bytes1) (held_is_one old (file_origin board) text text1 ht t1)
      (subst (λ (z : List ℕ). Promises policy z text) (held_is_one old (firmware_origin firmware) bytes bytes1 hb h1) g)) a e written

  stack_by : (s o : Outcome) → AnswerToStack firmware board policy (HoldsWithin old) (Exceeds old) s → s.status ≡ 0
      → AnswerToCompile firmware board policy image (HoldsWithin old) (Exceeds old) o → o.status ≡ 0 → IsRewritten told o.written old new → IsFollowed policy old firmware board new image
  stack_by s o (files.first_large x) z a e written = let f : ⊥ = omega (arith, z) in absurd f
  stack_by s o (files.second_large bytes h x) z a e written = let f : ⊥ = omega (arith, z) in absurd f
  stack_by s o (files.both_read bytes text p h t b) z a e written = compile_by bytes text o h t (promised firmware board policy bytes text p b z) a e written

-- the answer to words that ask to compile
compile_answer : (Has : Origin → List ℕ → Type 0) (Exceed : Origin → Type 0) (words : List (List ℕ)) (firmware board : List ℕ) (policy : Policy) (image : List ℕ) (o : Outcome)
    → Asks words (Compile firmware board policy image) → Answers Has Exceed words o → AnswerToCompile firmware board policy image Has Exceed o
compile_answer Has Exceed words firmware board policy image o asks (answers.no_request u) = absurd (u (Compile firmware board policy image) asks)
compile_answer Has Exceed words firmware board policy image o asks (answers.to_request r p asked a) =
    subst (λ (q : Request). Answer q Has Exceed p) (requests_are_one words r (Compile firmware board policy image) asked asks) a

pub bounded_calls_are_followed : TextsAreUnique → BoardsAreOne → BoundedCallsAreFollowed
bounded_calls_are_followed unique one words v told is firmware board policy image asks s =
    stack_by unique one v.old.told told v.old.held v.new.held firmware board policy image s.outcome is.outcome s.answer s.ended
    (compile_answer (HoldsWithin v.old.held) (Exceeds v.old.held) words firmware board policy image is.outcome asks is.answer) is.ended is.all.held
