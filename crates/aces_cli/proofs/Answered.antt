-- What the top call says, from what its command did.
use Rattle.std.proofs.Common.{◌≡◌, ℕ, ◌⊎◌, inl, inr, List, [], ◌++◌, None, Ok, Err, Result, IfErr, refl, ap, sym, ◌∙◌, subst, append-nil, arith}
use Rattle.base_outside.specs.Calls.{Call}
use Rattle.aces_reports.specs.declared.failure.Done.{Done}
use Rattle.aces_reports.specs.declared.failure.Done.TheVariants.{Completed, RunFailed, Negative, FaultTold, NoRoomTold}
use Rattle.aces_reports.specs.declared.failure.Failure.{Failure}
use Rattle.aces_reports.specs.declared.failure.Failure.TheVariants.{Refused, PastLimit, Denied, NoRoom, Unread, Unwritten, Unprinted, NoMemory}
use Rattle.aces_words.specs.Requests.{Request, Run, Bin, Compile, Check, Source, Where, Listing, Stack, Audit, Tables, Who, Symbols, Help, Selftest, Watch, State, Why, Explain, ExplainPlan, Asks, IsUsage, Origin, file_origin, firmware_origin}
use Rattle.aces_reports.specs.FaultLines.{usage_line}
use Rattle.base_outside.specs.Sinks.{SinkState, PutsLine}
use Rattle.aces_reports.specs.Ends.{status_of, line_of}
use Rattle.aces_files.specs.Outcomes.{Outcome, refused, past_limit, denied, no_room, usage}
use Rattle.aces_files.specs.CarriesOut.{NamesLast}
use Rattle.aces_files.specs.Effects.{World, Does, Quiet, IsCarriedOut, IsPart, IsPrintedInPart}
use Rattle.aces_files.specs.Answers.{RunAnswer, BinAnswer}
use Rattle.aces_files.proofs.Answering.{by_file_also, by_files_also}
use Rattle.aces_audit.specs.Answers.{AuditAnswer, TablesAnswer}
use Rattle.aces_firmwares.specs.Answers.{CheckAnswer, SourceAnswer}
use Rattle.aces_plans.specs.Answers.{ListAnswer, StackAnswers, SymbolsAnswer}
use Rattle.aces_who.specs.Answers.{WhoAnswer}
use Rattle.aces_who.proofs.Answering.{help_also}
use Rattle.aces_selftest.proofs.Answering.{selftest_also}
use Rattle.aces_inspection.specs.Answers.{WatchAnswer, StateAnswer}
use Rattle.aces_why.specs.Answers.{WhyAnswer}
use Rattle.aces_where.specs.Answers.{WhereAnswer}
use Rattle.aces_explain.specs.Answers.{ExplainAnswer}
use Rattle.aces_explain.specs.Plans.{ExplainPlanAnswer}
use Rattle.aces_cli.specs.Answer.{CompileAnswer, Answer, no_request, to_request}
use Rattle.aces_cli.specs.Endings.{IsPlain, IsAnswered, IsPartly, TellsUnread}
use Rattle.aces_cli.specs.Seen.{between}

-- answers from what is known are answers from what follows of it
module _ (Has Had : Origin → List ℕ → Type 0) (Exceeds Exceeded : Origin → Type 0)
    (also : (s : Origin) (bytes : List ℕ) → Has s bytes → Had s bytes) (large : (s : Origin) → Exceeds s → Exceeded s) where
  pub answer_also : (r : Request) (o : Outcome) → Answer r Has Exceeds o → Answer r Had Exceeded o
  answer_also (Run image tape steps) o a = by_files_also Has Had Exceeds Exceeded also large (file_origin image) (file_origin tape) (RunAnswer image tape steps) o a
  answer_also (Bin image file) o a = by_file_also Has Had Exceeds Exceeded also large (file_origin image) (BinAnswer image file) o a
  answer_also (Compile firmware board policy image) o a = by_files_also Has Had Exceeds Exceeded also large (firmware_origin firmware) (file_origin board) (CompileAnswer firmware board policy image) o a
  answer_also (Check firmware) o a = by_file_also Has Had Exceeds Exceeded also large (firmware_origin firmware) (CheckAnswer firmware) o a
  answer_also (Source firmware policy tape steps) o a = by_files_also Has Had Exceeds Exceeded also large (firmware_origin firmware) (file_origin tape) (SourceAnswer firmware policy tape steps) o a
  answer_also (Where firmware policy tape steps) o a = by_files_also Has Had Exceeds Exceeded also large (firmware_origin firmware) (file_origin tape) (WhereAnswer firmware policy tape steps) o a
  answer_also (Listing firmware board policy) o a = by_files_also Has Had Exceeds Exceeded also large (firmware_origin firmware) (file_origin board) (ListAnswer firmware board policy) o a
  answer_also (Stack firmware board policy) o a = by_files_also Has Had Exceeds Exceeded also large (firmware_origin firmware) (file_origin board) (StackAnswers firmware board policy) o a
  answer_also (Audit image) o a = by_file_also Has Had Exceeds Exceeded also large (file_origin image) (AuditAnswer image) o a
  answer_also (Tables image) o a = by_file_also Has Had Exceeds Exceeded also large (file_origin image) (TablesAnswer image) o a
  answer_also (Who firmware board policy) o a = by_files_also Has Had Exceeds Exceeded also large (firmware_origin firmware) (file_origin board) (WhoAnswer firmware board policy) o a
  answer_also (Symbols firmware board policy) o a = by_files_also Has Had Exceeds Exceeded also large (firmware_origin firmware) (file_origin board) (SymbolsAnswer firmware board policy) o a
  answer_also Help o a = help_also Has Had Exceeds Exceeded o a
  answer_also (Selftest seed size) o a = selftest_also Has Had Exceeds Exceeded seed size o a
  answer_also (Watch image tape steps address) o a = by_files_also Has Had Exceeds Exceeded also large (file_origin image) (file_origin tape) (WatchAnswer image tape steps address) o a
  answer_also (State image tape steps) o a = by_files_also Has Had Exceeds Exceeded also large (file_origin image) (file_origin tape) (StateAnswer image tape steps) o a
  answer_also (Why firmware) o a = by_file_also Has Had Exceeds Exceeded also large (firmware_origin firmware) (WhyAnswer firmware) o a
  answer_also (Explain firmware) o a = by_file_also Has Had Exceeds Exceeded also large (firmware_origin firmware) (ExplainAnswer firmware) o a
  answer_also (ExplainPlan firmware board policy) o a = by_files_also Has Had Exceeds Exceeded also large (firmware_origin firmware) (file_origin board) (ExplainPlanAnswer firmware board policy) o a

-- nothing is printed and written, and no fault rose
nothing_more : (old new : World) (o : Outcome) → Quiet old new → new.read_faults ≡ old.read_faults → o.printed ≡ [] → o.written ≡ None → IsCarriedOut old new o
nothing_more old new o q r p w = record {
  printed = λ t. ap (λ (s : SinkState). s.written) q.out ∙ sym (ap (λ l. old.out.written ++ l) p ∙ append-nil old.out.written);
  held = rw w q.held;
  read_faults = r;
  write_faults = q.write_faults;
  faults = ap (λ (s : SinkState). s.faults) q.out;
}

pub usage_answered : (Has : Origin → List ℕ → Type 0) (Exceeds : Origin → Type 0) (words : List (List ℕ)) (w : World) (err_old err_new : SinkState)
    → IsUsage words → PutsLine err_old err_new usage_line → IsAnswered Has Exceeds words (between w w err_old err_new) 2
usage_answered Has Exceeds words w err_old err_new u s = record {
  outcome = usage;
  answer = no_request u;
  ended = refl;
  all = nothing_more w w usage (record { held = refl; write_faults = refl; out = refl }) refl refl refl;
  says = s;
}

module _ (Has : Origin → List ℕ → Type 0) (Exceeds : Origin → Type 0) (words : List (List ℕ)) (r : Request) (asks : Asks words r)
    (old new : World) (err_old err_new : SinkState) where
  pub answered : (e : Result Done Failure) (s : ℕ) → s ≡ status_of e → Does (Answer r Has Exceeds) r old new e → PutsLine err_old err_new (line_of e)
      → IsPlain s → IsAnswered Has Exceeds words (between old new err_old err_new) s
  answered (Ok Completed) s q d l p = record {
    outcome = d.outcome;
    answer = to_request r d.outcome asks d.answer;
    ended = d.ended ∙ sym q;
    all = d.all;
    says = subst (PutsLine err_old err_new) (sym d.silent) l;
  }
  answered (Ok RunFailed) s q d l p = record {
    outcome = d.outcome;
    answer = to_request r d.outcome asks d.answer;
    ended = d.ended ∙ sym q;
    all = d.all;
    says = subst (PutsLine err_old err_new) (sym d.silent) l;
  }
  answered (Ok Negative) s q d l p = record {
    outcome = d.outcome;
    answer = to_request r d.outcome asks d.answer;
    ended = d.ended ∙ sym q;
    all = d.all;
    says = subst (PutsLine err_old err_new) (sym d.silent) l;
  }
  answered (Ok FaultTold) s q d l p = record {
    outcome = d.outcome;
    answer = to_request r d.outcome asks d.answer;
    ended = d.ended ∙ sym q;
    all = d.all;
    says = subst (PutsLine err_old err_new) (sym d.silent) l;
  }
  answered (Ok NoRoomTold) s q d l p = record {
    outcome = d.outcome;
    answer = to_request r d.outcome asks d.answer;
    ended = d.ended ∙ sym q;
    all = d.all;
    says = subst (PutsLine err_old err_new) (sym d.silent) l;
  }
  answered (Err (Refused name f)) s q d l p = record {
    outcome = refused name.now f;
    answer = to_request r (refused name.now f) asks d.answer;
    ended = sym q;
    all = nothing_more old new (refused name.now f) d.quiet d.read_faults refl refl;
    says = l;
  }
  answered (Err (PastLimit which count)) s q d l p = record {
    outcome = past_limit which count;
    answer = to_request r (past_limit which count) asks d.answer;
    ended = sym q;
    all = nothing_more old new (past_limit which count) d.quiet d.read_faults refl refl;
    says = l;
  }
  answered (Err (Denied said)) s q d l p = record {
    outcome = denied said;
    answer = to_request r (denied said) asks d.answer;
    ended = sym q;
    all = nothing_more old new (denied said) d.quiet d.read_faults refl refl;
    says = l;
  }
  answered (Err (NoRoom lack)) s q d l p = record {
    outcome = no_room lack;
    answer = to_request r (no_room lack) asks d.answer;
    ended = sym q;
    all = nothing_more old new (no_room lack) d.quiet d.read_faults refl refl;
    says = l;
  }
  answered (Err (Unread name)) s q d l p = absurd (p.no_read_fault q)
  answered (Err (Unwritten name)) s q d l p = absurd (p.no_write_fault q)
  answered (Err Unprinted) s q d l p = absurd (p.no_write_fault q)
  answered (Err NoMemory) s q d l p = absurd (p.no_want_of_memory q)

  part_of : IsPart (Answer r Has Exceeds) r old new → IsPartly Has Exceeds words (between old new err_old err_new)
  part_of p = record { outcome = p.outcome; answer = to_request r p.outcome asks p.answer; part = p.part }

  pub partly : (e : Result Done Failure) → status_of e ≡ 5 → Does (Answer r Has Exceeds) r old new e → IsPartly Has Exceeds words (between old new err_old err_new)
  partly (Ok Completed) q d = let f : ⊥ = omega (arith, q) in absurd f
  partly (Ok RunFailed) q d = let f : ⊥ = omega (arith, q) in absurd f
  partly (Ok Negative) q d = let f : ⊥ = omega (arith, q) in absurd f
  partly (Ok FaultTold) q d = let f : ⊥ = omega (arith, q) in absurd f
  partly (Ok NoRoomTold) q d = let f : ⊥ = omega (arith, q) in absurd f
  partly (Err (Refused name f)) q d = let f : ⊥ = omega (arith, q) in absurd f
  partly (Err (PastLimit which count)) q d = let f : ⊥ = omega (arith, q) in absurd f
  partly (Err (Denied said)) q d = let f : ⊥ = omega (arith, q) in absurd f
  partly (Err (NoRoom lack)) q d = let f : ⊥ = omega (arith, q) in absurd f
  partly (Err (Unread name)) q d = let f : ⊥ = omega (arith, q) in absurd f
  partly (Err (Unwritten name)) q d = part_of d.1
  partly (Err Unprinted) q d = part_of d.1
  partly (Err NoMemory) q d = let f : ⊥ = omega (arith, q) in absurd f

  in_part : (s : Request) → IsPrintedInPart (Answer r Has Exceeds) r old new s → (new.out ≡ old.out) ⊎ IsPartly Has Exceeds words (between old new err_old err_new)
  in_part (Run image tape steps) h = inl h
  in_part (Bin image file) h = inl h
  in_part (Compile firmware board policy image) h = inl h
  in_part (Check firmware) h = inl h
  in_part (Source firmware policy tape steps) h = elim h [ inl e ↦ inl e | inr p ↦ inr (part_of p) ]
  in_part (Where firmware policy tape steps) h = inl h
  in_part (Listing firmware board policy) h = inl h
  in_part (Stack firmware board policy) h = inl h
  in_part (Audit image) h = inl h
  in_part (Tables image) h = inl h
  in_part (Who firmware board policy) h = inl h
  in_part (Symbols firmware board policy) h = inl h
  in_part Help h = inl h
  in_part (Selftest seed size) h = inl h
  in_part (Watch image tape steps address) h = inl h
  in_part (State image tape steps) h = inl h
  in_part (Why firmware) h = inl h
  in_part (Explain firmware) h = inl h
  in_part (ExplainPlan firmware board policy) h = inl h

  pub printed_in_part : (e : Result Done Failure) → status_of e ≡ 6 → Does (Answer r Has Exceeds) r old new e → (new.out ≡ old.out) ⊎ IsPartly Has Exceeds words (between old new err_old err_new)
  printed_in_part (Ok Completed) q d = let f : ⊥ = omega (arith, q) in absurd f
  printed_in_part (Ok RunFailed) q d = let f : ⊥ = omega (arith, q) in absurd f
  printed_in_part (Ok Negative) q d = let f : ⊥ = omega (arith, q) in absurd f
  printed_in_part (Ok FaultTold) q d = let f : ⊥ = omega (arith, q) in absurd f
  printed_in_part (Ok NoRoomTold) q d = let f : ⊥ = omega (arith, q) in absurd f
  printed_in_part (Err (Refused name f)) q d = let f : ⊥ = omega (arith, q) in absurd f
  printed_in_part (Err (PastLimit which count)) q d = let f : ⊥ = omega (arith, q) in absurd f
  printed_in_part (Err (Denied said)) q d = let f : ⊥ = omega (arith, q) in absurd f
  printed_in_part (Err (NoRoom lack)) q d = let f : ⊥ = omega (arith, q) in absurd f
  printed_in_part (Err (Unread name)) q d = let f : ⊥ = omega (arith, q) in absurd f
  printed_in_part (Err (Unwritten name)) q d = let f : ⊥ = omega (arith, q) in absurd f
  printed_in_part (Err Unprinted) q d = let f : ⊥ = omega (arith, q) in absurd f
  printed_in_part (Err NoMemory) q d = in_part r d.1

module _ (A : Outcome → Type 0) (words : List (List ℕ)) (r : Request) (asks : Asks words r)
    (old new : World) (err_old err_new : SinkState) where
  pub unread : (calls : List Call) (e : Result Done Failure) → status_of e ≡ 4 → Does A r old new e → IfErr e (NamesLast calls) → PutsLine err_old err_new (line_of e)
      → TellsUnread calls words (between old new err_old err_new)
  unread calls (Ok Completed) q d n l = let f : ⊥ = omega (arith, q) in absurd f
  unread calls (Ok RunFailed) q d n l = let f : ⊥ = omega (arith, q) in absurd f
  unread calls (Ok Negative) q d n l = let f : ⊥ = omega (arith, q) in absurd f
  unread calls (Ok FaultTold) q d n l = let f : ⊥ = omega (arith, q) in absurd f
  unread calls (Ok NoRoomTold) q d n l = let f : ⊥ = omega (arith, q) in absurd f
  unread calls (Err (Refused name f)) q d n l = let f : ⊥ = omega (arith, q) in absurd f
  unread calls (Err (PastLimit which count)) q d n l = let f : ⊥ = omega (arith, q) in absurd f
  unread calls (Err (Denied said)) q d n l = let f : ⊥ = omega (arith, q) in absurd f
  unread calls (Err (NoRoom lack)) q d n l = let f : ⊥ = omega (arith, q) in absurd f
  unread calls (Err (Unread name)) q d n l = record { request = r; asks = asks; name = name.now; unread = d; last = n; says = l }
  unread calls (Err (Unwritten name)) q d n l = let f : ⊥ = omega (arith, q) in absurd f
  unread calls (Err Unprinted) q d n l = let f : ⊥ = omega (arith, q) in absurd f
  unread calls (Err NoMemory) q d n l = let f : ⊥ = omega (arith, q) in absurd f
