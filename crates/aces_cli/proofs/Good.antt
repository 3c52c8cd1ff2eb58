-- A good request has no outcome but the one that says that all was done.
use Rattle.std.proofs.Common.{◌≡◌, ℕ, ◌⊎◌, inl, inr, Bool, true, false, cond, nat_le, length, ◌<◌, ◌≤◌, IsSomeAnd, List, Option, Some, refl, sym, ◌∙◌, subst, arith}
use Rattle.ir_model.specs.Plain.{PlainFirmware}
use Rattle.plan_model.specs.declared.plan.Board.{Board}
use Rattle.plan_board.specs.declared.fault.BoardFault.{BoardFault}
use Rattle.plan_board.specs.declared.fault.BoardFault.TheVariants as board_fault
use Rattle.plan_board.specs.Reading.{IsRead, IsFault}
use Rattle.plan_board.specs.Laws.{BoardsAreNotRefused}
use Rattle.aces_reports.specs.declared.failure.Fault.{Fault}
use Rattle.aces_reports.specs.declared.failure.Fault.TheVariants as faults
use Rattle.aces_reports.specs.Faults.{is_want_of_memory}
use Rattle.plan.specs.declared.refusal.PlanningRefusal.{PlanningRefusal}
use Rattle.plan.specs.declared.refusal.PlanningRefusal.TheVariants as planning
use Rattle.plan_firmwares.specs.Plannable.{IsPlannable}
use Rattle.plan_firmwares.specs.Unplanned.{IsRefusedBy}
use Rattle.aces_stack.specs.Limited.{KeepsLimitsBy}
use Rattle.aces_stack.specs.Lines.{stack_status}
use Rattle.refine_stack.specs.declared.answer.StackAnswer.{StackAnswer}
use Rattle.refine_stack.specs.declared.answer.StackAnswer.TheVariants.{Cycle, Bound}
use Rattle.plan_model.specs.declared.policy.Policy.{Policy}
use Rattle.aces_words.specs.Requests.{Request, Origin, file_origin, firmware_origin}
use Rattle.aces_files.specs.Answers.{RunAnswer, BinAnswer}
use Rattle.aces_files.proofs.Answering.{by_file_ends, by_files_end}
use Rattle.aces_files.specs.Outcomes.{Outcome}
use Rattle.aces_files.specs.Contents.{IsContentFault}
use Rattle.aces_audit.specs.Answers.{AuditAnswer, TablesAnswer, audit_text, tables_text}
use Rattle.aces_audit.proofs.Answering.{image_done}
use Rattle.aces_firmwares.specs.Answers.{CheckAnswer, SourceAnswer}
use Rattle.aces_firmwares.specs.Firmwares.{IsFirmware}
use Rattle.aces_files.specs.Known.{Held, HoldsWithin, Exceeds}
use Rattle.aces_firmwares.specs.PlanAnswer as plans
use Rattle.aces_firmwares.specs.PlanAnswer.{PlanAnswer}
use Rattle.aces_plans.specs.Answers.{ListAnswer, StackAnswers, SymbolsAnswer, no_firmware, no_board, too_many, bounded}
use Rattle.aces_plans.specs.Answers as answers
use Rattle.aces_who.proofs.Answering.{who_done, good_help}
use Rattle.aces_who.specs.Answers.{WhoAnswer}
use Rattle.aces_selftest.proofs.Answering.{selftest_ends}
use Rattle.aces_inspection.specs.Answers.{WatchAnswer, StateAnswer}
use Rattle.aces_cli.proofs.Inspectable.{watch_ends, state_ends}
use Rattle.aces_why.specs.Answers.{WhyAnswer}
use Rattle.aces_why.proofs.WellDone.{why_done}
use Rattle.aces_where.specs.Answers.{WhereAnswer}
use Rattle.aces_where.proofs.Findable.{where_done}
use Rattle.aces_explain.specs.Answers.{ExplainAnswer}
use Rattle.aces_explain.specs.Plans.{ExplainPlanAnswer}
use Rattle.aces_explain.proofs.Explainable.{explain_done}
use Rattle.aces_explain.proofs.PlanAnswering.{explain_plan_done}
use Rattle.aces_cli.specs.Answer.{CompileAnswer, unplanned, compiled, Answer}
use Rattle.aces_cli.specs.Complete.{IsCompilable, IsBoundable, IsGood, run, bin, compile, check, source, list, stack, audit, tables, where_it_is, who, symbols, help, selftest, watch, state, why, explain, explain_plan, IsDoneBy, GoodRequestsAreDone}
use Rattle.aces_cli.proofs.Runnable.{Laws, is_image, run_done, bin_done}
use Rattle.aces_cli.proofs.SourceRunnable.{is_firmware, firmwares_are_one, check_done, source_done, is_faultless}

-- boards of texts
module _ (read : BoardsAreNotRefused) where
  board_has_no_fault : (t : List ℕ) (b : Board) (f : Fault) → IsRead t b → (first : BoardFault) → IsFault t first → IsContentFault (faults.Board first) f → ⊥
  board_has_no_fault t b f h first k q =
      let same : first ≡ board_fault.NoMemory = read t b first h k in
      let wrong : true ≡ false = subst (λ z. is_want_of_memory (faults.Board z) ≡ false) same q.1 in
      cc

-- a bound fits, or not
stack_ends : (size : ℕ) (a : StackAnswer) → (stack_status size a ≡ 0) ⊎ (stack_status size a ≡ 8)
stack_ends size (Cycle c) = inr refl
stack_ends size (Bound needed path) = by (nat_le needed size)
  where
    by : (t : Bool) → (◌≡◌ {A = ℕ} (cond t 0 8) 0) ⊎ (◌≡◌ {A = ℕ} (cond t 0 8) 8)
    by true = inl refl
    by false = inr refl

module _ (laws : Laws) where
  -- a firmware that has a plan is refused for nothing but want of memory
  planned_one : (policy : Policy) (bytes t : List ℕ) (w : PlainFirmware) (b : Board) (r : PlanningRefusal) → IsCompilable policy bytes t → IsFirmware w bytes → IsRead t b
      → IsRefusedBy policy w b r → r ≡ planning.NoMemory
  planned_one policy bytes t w b r g h k q =
      laws.planned policy w b r
      (subst (IsPlannable policy w) (laws.boards t g.board b g.is_board k)
      (subst (λ v. IsPlannable policy v g.board) (firmwares_are_one laws.unique laws.faultless g.firmware w bytes g.is_firmware h) g.plannable)) q

  plan_none : (firmware board : List ℕ) (policy : Policy) (bytes t : List ℕ) (o : Outcome) → IsCompilable policy bytes t → PlanAnswer firmware board policy bytes t o → ⊥
  plan_none firmware board policy bytes t o g (plans.no_firmware f k) = is_firmware laws.unique laws.faultless g.firmware bytes f g.is_firmware k
  plan_none firmware board policy bytes t o g (plans.no_board w f h k) = board_has_no_fault laws.read t g.board f g.is_board k.first k.found k.named
  plan_none firmware board policy bytes t o g (plans.too_many w b which count h k r) =
      let wrong : planning.Limit which count ≡ planning.NoMemory = planned_one policy bytes t w b (planning.Limit which count) g h k r in cc
  plan_none firmware board policy bytes t o g (plans.meets_denied w b m h k r) =
      let wrong : planning.Denied m ≡ planning.NoMemory = planned_one policy bytes t w b (planning.Denied m) g h k r in cc
  plan_none firmware board policy bytes t o g (plans.lacks_room w b lack h k r) =
      let wrong : planning.Room lack ≡ planning.NoMemory = planned_one policy bytes t w b (planning.Room lack) g h k r in cc

  list_done : (firmware board : List ℕ) (policy : Policy) (bytes t : List ℕ) (o : Outcome) → IsCompilable policy bytes t → ListAnswer firmware board policy bytes t o → o.status ≡ 0
  list_done firmware board policy bytes t o g (answers.unplanned p h) = absurd (plan_none firmware board policy bytes t o g h)
  list_done firmware board policy bytes t o g (answers.listed w b lines h k l) = refl

  symbols_done : (firmware board : List ℕ) (policy : Policy) (bytes t : List ℕ) (o : Outcome) → IsCompilable policy bytes t → SymbolsAnswer firmware board policy bytes t o → o.status ≡ 0
  symbols_done firmware board policy bytes t o g (answers.untold p h) = absurd (plan_none firmware board policy bytes t o g h)
  symbols_done firmware board policy bytes t o g (answers.told w b lines h k l) = refl

  within_one : (policy : Policy) (bytes t : List ℕ) (w : PlainFirmware) (b : Board) → IsBoundable policy bytes t → IsFirmware w bytes → IsRead t b → KeepsLimitsBy policy w b
  within_one policy bytes t w b g h k =
      subst (KeepsLimitsBy policy w) (laws.boards t g.board b g.is_board k)
      (subst (λ v. KeepsLimitsBy policy v g.board) (firmwares_are_one laws.unique laws.faultless g.firmware w bytes g.is_firmware h) g.limits)

  stack_done : (firmware board : List ℕ) (policy : Policy) (bytes t : List ℕ) (o : Outcome) → IsBoundable policy bytes t → StackAnswers firmware board policy bytes t o
      → (o.status ≡ 0) ⊎ (o.status ≡ 8)
  stack_done firmware board policy bytes t o g (no_firmware f k) = absurd (is_firmware laws.unique laws.faultless g.firmware bytes f g.is_firmware k)
  stack_done firmware board policy bytes t o g (no_board w f h k) = absurd (board_has_no_fault laws.read t g.board f g.is_board k.first k.found k.named)
  stack_done firmware board policy bytes t o g (too_many w b which count h k r) = absurd (laws.limited policy w b which count (within_one policy bytes t w b g h k) r)
  stack_done firmware board policy bytes t o g (bounded w b a h k s) = stack_ends b.stack a

  compile_done : (firmware board : List ℕ) (policy : Policy) (image bytes t : List ℕ) (o : Outcome) → IsCompilable policy bytes t
      → CompileAnswer firmware board policy image bytes t o → o.status ≡ 0
  compile_done firmware board policy image bytes t o g (unplanned p h) = absurd (plan_none firmware board policy bytes t o g h)
  compile_done firmware board policy image bytes t o g (compiled w b out h k l) = refl

  module _ (Has : Origin → List ℕ → Type 0) (Exceeds : Origin → Type 0) (one : (s : Origin) (a b : List ℕ) → Has s a → Has s b → a ≡ b) (fits : (s : Origin) (a : List ℕ) → Has s a → Exceeds s → ⊥) where
    good_is_done : (r : Request) (o : Outcome) → IsGood Has r → Answer r Has Exceeds o → IsDoneBy r o.status
    good_is_done r o (run image tape steps bytes t h k g) a =
        by_files_end Has Exceeds one fits (λ n. (n ≡ 0) ⊎ (n ≡ 7)) (file_origin image) (file_origin tape) (RunAnswer image tape steps) bytes t o h k (run_done laws image tape steps bytes t o g) a
    good_is_done r o (bin image file bytes i h g) a =
        by_file_ends Has Exceeds one fits (λ n. n ≡ 0) (file_origin image) (BinAnswer image file) bytes o h (bin_done laws image file bytes o i g) a
    good_is_done r o (compile firmware board policy image bytes t h k g) a =
        by_files_end Has Exceeds one fits (λ n. n ≡ 0) (firmware_origin firmware) (file_origin board) (CompileAnswer firmware board policy image) bytes t o h k (compile_done firmware board policy image bytes t o g) a
    good_is_done r o (check firmware bytes w h g) a =
        by_file_ends Has Exceeds one fits (λ n. n ≡ 0) (firmware_origin firmware) (CheckAnswer firmware) bytes o h (check_done laws firmware bytes o w g) a
    good_is_done r o (source firmware policy tape steps bytes t h k g) a =
        by_files_end Has Exceeds one fits (λ n. (n ≡ 0) ⊎ (n ≡ 7)) (firmware_origin firmware) (file_origin tape) (SourceAnswer firmware policy tape steps) bytes t o h k (source_done laws firmware policy tape steps bytes t o g) a
    good_is_done r o (where_it_is firmware policy tape steps bytes t h k g) a =
        by_files_end Has Exceeds one fits (λ n. n ≡ 0) (firmware_origin firmware) (file_origin tape) (WhereAnswer firmware policy tape steps) bytes t o h k (where_done firmware policy tape steps bytes t o (is_faultless laws bytes t g)) a
    good_is_done r o (list firmware board policy bytes t h k g) a =
        by_files_end Has Exceeds one fits (λ n. n ≡ 0) (firmware_origin firmware) (file_origin board) (ListAnswer firmware board policy) bytes t o h k (list_done firmware board policy bytes t o g) a
    good_is_done r o (stack firmware board policy bytes t h k g) a =
        by_files_end Has Exceeds one fits (λ n. (n ≡ 0) ⊎ (n ≡ 8)) (firmware_origin firmware) (file_origin board) (StackAnswers firmware board policy) bytes t o h k (stack_done firmware board policy bytes t o g) a
    good_is_done r o (audit image bytes i h g) a =
        by_file_ends Has Exceeds one fits (λ n. (n ≡ 0) ⊎ (n ≡ 8)) (file_origin image) (AuditAnswer image) bytes o h (image_done audit_text image bytes o (λ f k. is_image laws i bytes f g k)) a
    good_is_done r o (tables image bytes i h g) a =
        by_file_ends Has Exceeds one fits (λ n. (n ≡ 0) ⊎ (n ≡ 8)) (file_origin image) (TablesAnswer image) bytes o h (image_done tables_text image bytes o (λ f k. is_image laws i bytes f g k)) a
    good_is_done r o (who firmware board policy bytes t h k g) a =
        by_files_end Has Exceeds one fits (λ n. n ≡ 0) (firmware_origin firmware) (file_origin board) (WhoAnswer firmware board policy) bytes t o h k (who_done firmware board policy bytes t o (λ p. plan_none firmware board policy bytes t p g)) a
    good_is_done r o (symbols firmware board policy bytes t h k g) a =
        by_files_end Has Exceeds one fits (λ n. n ≡ 0) (firmware_origin firmware) (file_origin board) (SymbolsAnswer firmware board policy) bytes t o h k (symbols_done firmware board policy bytes t o g) a
    good_is_done r o help a = good_help Has Exceeds o a
    good_is_done r o (selftest seed size plan) a = selftest_ends laws.planned Has Exceeds seed size o plan a
    good_is_done r o (watch image tape steps address bytes t h k g) a =
        by_files_end Has Exceeds one fits (λ n. (n ≡ 0) ⊎ (n ≡ 7)) (file_origin image) (file_origin tape) (WatchAnswer image tape steps address) bytes t o h k (watch_ends laws image tape steps address bytes t o g) a
    good_is_done r o (state image tape steps bytes t h k g) a =
        by_files_end Has Exceeds one fits (λ n. n ≡ 0) (file_origin image) (file_origin tape) (StateAnswer image tape steps) bytes t o h k (state_ends laws image tape steps bytes t o g) a
    good_is_done r o (why firmware bytes w h g) a =
        by_file_ends Has Exceeds one fits (λ n. n ≡ 0) (firmware_origin firmware) (WhyAnswer firmware) bytes o h (why_done firmware bytes o (λ f k. is_firmware laws.unique laws.faultless w bytes f g k)) a
    good_is_done r o (explain firmware bytes w h g) a =
        by_file_ends Has Exceeds one fits (λ n. n ≡ 0) (firmware_origin firmware) (ExplainAnswer firmware) bytes o h (explain_done firmware bytes o (λ f k. is_firmware laws.unique laws.faultless w bytes f g k)) a
    good_is_done r o (explain_plan firmware board policy bytes t h k g) a =
        by_files_end Has Exceeds one fits (λ n. n ≡ 0) (firmware_origin firmware) (file_origin board) (ExplainPlanAnswer firmware board policy) bytes t o h k (explain_plan_done firmware board policy bytes t (λ p. plan_none firmware board policy bytes t p g) o) a

pub held_is_one : (held : Held) (s : Origin) (a b : List ℕ) → HoldsWithin held s a → HoldsWithin held s b → a ≡ b
held_is_one held s a b h k = let both : Some a ≡ Some b = sym h.there ∙ k.there in cc

held_fits : (held : Held) (s : Origin) (a : List ℕ) → HoldsWithin held s a → Exceeds held s → ⊥
held_fits held s a h e =
    let more : s.limit < length a = subst (λ (x : Option (List ℕ)). IsSomeAnd x (λ bytes. s.limit < length bytes)) h.there e in
    let within : length a ≤ s.limit = h.within in
    omega (arith, more, within)

pub good_requests_are_done : Laws → GoodRequestsAreDone
good_requests_are_done laws held r o g a = good_is_done laws (HoldsWithin held) (Exceeds held) (held_is_one held) (held_fits held) r o g a
