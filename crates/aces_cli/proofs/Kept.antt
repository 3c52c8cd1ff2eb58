-- An answer with a status other than 0 writes nothing.
use Rattle.std.proofs.Common.{◌≡◌, ◌≢◌, ℕ, List, None, refl}
use Rattle.plan_model.specs.declared.policy.Policy.{Policy}
use Rattle.aces_words.specs.Requests.{Request, Run, Bin, Compile, Check, Source, Where, Listing, Stack, Audit, Tables, Who, Symbols, Help, Selftest, Watch, State, Why, Explain, ExplainPlan, Origin, file_origin, firmware_origin}
use Rattle.aces_files.specs.Outcomes.{Outcome}
use Rattle.aces_files.specs.Answers.{RunAnswer, BinAnswer}
use Rattle.aces_files.proofs.Answering.{by_file_keeps, by_files_keep, run_writes_nothing, bin_writes_nothing}
use Rattle.aces_audit.specs.Answers.{AuditAnswer, TablesAnswer, audit_text, tables_text}
use Rattle.aces_audit.proofs.Answering.{image_writes_nothing}
use Rattle.aces_firmwares.specs.Answers.{CheckAnswer, SourceAnswer}
use Rattle.aces_firmwares.proofs.Answering.{check_writes_nothing, source_writes_nothing}
use Rattle.aces_plans.specs.Answers.{ListAnswer, StackAnswers, SymbolsAnswer}
use Rattle.aces_firmwares.proofs.Unplanned.{plan_writes_nothing}
use Rattle.aces_plans.proofs.Answering.{list_writes_nothing, stack_writes_nothing, symbols_write_nothing}
use Rattle.aces_who.proofs.Answering.{who_writes_nothing, help_writes_nothing}
use Rattle.aces_who.specs.Answers.{WhoAnswer}
use Rattle.aces_selftest.proofs.Answering.{selftest_writes_nothing}
use Rattle.aces_inspection.specs.Answers.{WatchAnswer, StateAnswer}
use Rattle.aces_inspection.proofs.Answering.{watch_writes_nothing, state_writes_nothing}
use Rattle.aces_why.specs.Answers.{WhyAnswer}
use Rattle.aces_why.proofs.Answering.{why_writes_nothing}
use Rattle.aces_where.specs.Answers.{WhereAnswer}
use Rattle.aces_where.proofs.Answering.{where_writes_nothing}
use Rattle.aces_explain.specs.Answers.{ExplainAnswer}
use Rattle.aces_explain.specs.Plans.{ExplainPlanAnswer}
use Rattle.aces_explain.proofs.Answering.{explain_writes_nothing}
use Rattle.aces_explain.proofs.PlanAnswering.{explain_plan_writes_nothing}
use Rattle.aces_cli.specs.Answer.{CompileAnswer, unplanned, compiled, Answer}

compile_writes_nothing : (firmware board : List ℕ) (policy : Policy) (image bytes text : List ℕ) (o : Outcome) → CompileAnswer firmware board policy image bytes text o
    → o.status ≢ 0 → o.written ≡ None
compile_writes_nothing firmware board policy image bytes text o (unplanned p h) n = plan_writes_nothing firmware board policy bytes text o h
compile_writes_nothing firmware board policy image bytes text o (compiled w b out h k l) n = absurd (n refl)

module _ (Has : Origin → List ℕ → Type 0) (Exceeds : Origin → Type 0) where
  pub writes_nothing : (r : Request) (o : Outcome) → Answer r Has Exceeds o → o.status ≢ 0 → o.written ≡ None
  writes_nothing (Run image tape steps) o a n =
      by_files_keep Has Exceeds (file_origin image) (file_origin tape) (RunAnswer image tape steps) (λ bytes text p b m. run_writes_nothing image tape steps bytes text p b) o a n
  writes_nothing (Bin image file) o a n = by_file_keeps Has Exceeds (file_origin image) (BinAnswer image file) (bin_writes_nothing image file) o a n
  writes_nothing (Compile firmware board policy image) o a n =
      by_files_keep Has Exceeds (firmware_origin firmware) (file_origin board) (CompileAnswer firmware board policy image) (compile_writes_nothing firmware board policy image) o a n
  writes_nothing (Check firmware) o a n = by_file_keeps Has Exceeds (firmware_origin firmware) (CheckAnswer firmware) (λ bytes p b m. check_writes_nothing firmware bytes p b) o a n
  writes_nothing (Source firmware policy tape steps) o a n =
      by_files_keep Has Exceeds (firmware_origin firmware) (file_origin tape) (SourceAnswer firmware policy tape steps) (λ bytes text p b m. source_writes_nothing firmware policy tape steps bytes text p b) o a n
  writes_nothing (Where firmware policy tape steps) o a n =
      by_files_keep Has Exceeds (firmware_origin firmware) (file_origin tape) (WhereAnswer firmware policy tape steps) (λ bytes text p b m. where_writes_nothing firmware policy tape steps bytes text p b) o a n
  writes_nothing (Listing firmware board policy) o a n =
      by_files_keep Has Exceeds (firmware_origin firmware) (file_origin board) (ListAnswer firmware board policy) (λ bytes text p b m. list_writes_nothing firmware board policy bytes text p b) o a n
  writes_nothing (Stack firmware board policy) o a n =
      by_files_keep Has Exceeds (firmware_origin firmware) (file_origin board) (StackAnswers firmware board policy) (λ bytes text p b m. stack_writes_nothing firmware board policy bytes text p b) o a n
  writes_nothing (Audit image) o a n = by_file_keeps Has Exceeds (file_origin image) (AuditAnswer image) (λ bytes p b m. image_writes_nothing audit_text image bytes p b) o a n
  writes_nothing (Tables image) o a n = by_file_keeps Has Exceeds (file_origin image) (TablesAnswer image) (λ bytes p b m. image_writes_nothing tables_text image bytes p b) o a n
  writes_nothing (Who firmware board policy) o a n =
      by_files_keep Has Exceeds (firmware_origin firmware) (file_origin board) (WhoAnswer firmware board policy) (λ bytes text p b m. who_writes_nothing firmware board policy bytes text p b) o a n
  writes_nothing (Symbols firmware board policy) o a n =
      by_files_keep Has Exceeds (firmware_origin firmware) (file_origin board) (SymbolsAnswer firmware board policy) (λ bytes text p b m. symbols_write_nothing firmware board policy bytes text p b) o a n
  writes_nothing Help o a n = help_writes_nothing Has Exceeds o a
  writes_nothing (Selftest seed size) o a n = selftest_writes_nothing Has Exceeds seed size o a
  writes_nothing (Watch image tape steps address) o a n =
      by_files_keep Has Exceeds (file_origin image) (file_origin tape) (WatchAnswer image tape steps address) (λ bytes text p b m. watch_writes_nothing image tape steps address bytes text p b) o a n
  writes_nothing (State image tape steps) o a n =
      by_files_keep Has Exceeds (file_origin image) (file_origin tape) (StateAnswer image tape steps) (λ bytes text p b m. state_writes_nothing image tape steps bytes text p b) o a n
  writes_nothing (Why firmware) o a n = by_file_keeps Has Exceeds (firmware_origin firmware) (WhyAnswer firmware) (λ bytes p b m. why_writes_nothing firmware bytes p b) o a n
  writes_nothing (Explain firmware) o a n = by_file_keeps Has Exceeds (firmware_origin firmware) (ExplainAnswer firmware) (λ bytes p b m. explain_writes_nothing firmware bytes p b) o a n
  writes_nothing (ExplainPlan firmware board policy) o a n =
      by_files_keep Has Exceeds (firmware_origin firmware) (file_origin board) (ExplainPlanAnswer firmware board policy) (λ bytes text p b m. explain_plan_writes_nothing firmware board policy bytes text p b) o a n
