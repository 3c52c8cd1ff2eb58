-- The clauses of a call, from what its words and its command say.
use Rattle.std.proofs.Common.{◌≡◌, ℕ, inl, inr, List, [], Result, IfErr, All, IsTrue, refl, sym, ◌∙◌, subst, arith}
use Rattle.std.proofs.lemmas.List.Elements.{All-nil, All-weaker}
use Rattle.base_outside.specs.Calls.{Call}
use Rattle.base_outside.specs.Sinks.{SinkState, PutsLine}
use Rattle.aces_reports.specs.declared.failure.Done.{Done}
use Rattle.aces_reports.specs.declared.failure.Failure.{Failure}
use Rattle.aces_reports.specs.Ends.{status_of, line_of}
use Rattle.aces_reports.specs.FaultLines.{usage_line}
use Rattle.aces_words.specs.Requests.{Request, Asks, IsUsage, Origin}
use Rattle.aces_files.specs.Known.{HoldsWithin, Exceeds, WasRead, WasTooLarge, IsCallOf}
use Rattle.aces_files.specs.CarriesOut.{IsKnown, IsKnownLarge, NamesLast}
use Rattle.aces_files.specs.Effects.{World, Does}
use Rattle.aces_files.proofs.Ends.{did_also, held_stays}
use Rattle.aces_cli.specs.Answer.{Answer}
use Rattle.aces_cli.specs.Bounded.{BoundedCallsAreFollowed}
use Rattle.aces_cli.specs.Clauses.{Clauses}
use Rattle.aces_cli.specs.Complete.{GoodRequestsAreDone}
use Rattle.aces_cli.specs.Endings.{IsPlain, IsAnswered}
use Rattle.aces_cli.specs.Seen.{between}
use Rattle.aces_cli.proofs.Answered.{answer_also, usage_answered, answered, unread, partly, printed_in_part}
use Rattle.aces_cli.proofs.Kept.{writes_nothing}
use Rattle.aces_cli.proofs.Outside.{is_no_usage, read_faults_stay, write_faults_stay, unwritten, out_of_memory}
use Rattle.aces_cli.proofs.Settled.{is_plain, settled, complete}

-- the words are those of no request: no call was made on files, and nothing was printed
pub usage_stated : (words : List (List ℕ)) (w : World) (err_old err_new : SinkState) → IsUsage words → PutsLine err_old err_new usage_line
    → Clauses [] words (between w w err_old err_new) 2
usage_stated words w err_old err_new u line = record {
  usage = (λ e. u, λ v. refl);
  answer = λ told plain. usage_answered (HoldsWithin w.held) (Exceeds w.held) words w err_old err_new u line;
  by_calls = record {
    asked = All-nil _;
    unread = λ four. let f : ⊥ = omega (arith, four) in absurd f;
    answered = λ plain. usage_answered (WasRead []) (WasTooLarge []) words w err_old err_new u line;
    partly = λ five. let f : ⊥ = omega (arith, five) in absurd f;
    printed_in_part = λ six. inl refl;
  };
  read_faults = inr refl;
  unwritten = λ five. let f : ⊥ = omega (arith, five) in absurd f;
  write_faults = inr (refl, refl);
  partly = λ told five. let f : ⊥ = omega (arith, five) in absurd f;
  memory = λ six. let f : ⊥ = omega (arith, six) in absurd f;
  printed_in_part = λ told six. inl refl;
  settled = λ told none there. inl (is_plain 2 (inl (omega arith)));
  complete = λ told none r asks good. absurd (u r asks);
  bounded = λ told zero. let f : ⊥ = omega (arith, zero) in absurd f;
  kept = λ some whole. refl;
}

-- the words ask for something, and a command that made these calls on files carried it out by what it knew
module _ (words : List (List ℕ)) (r : Request) (asks : Asks words r) (old new : World) (err_old err_new : SinkState) (calls : List Call)
    (e : Result Done Failure) (s : ℕ) (ends : s ≡ status_of e) (line : PutsLine err_old err_new (line_of e))
    (of_request : All (IsCallOf r) calls) (last : IfErr e (NamesLast calls))
    (did : Does (Answer r (IsKnown old.told old.held calls) (IsKnownLarge old.told old.held calls)) r old new e) where
  abbrev known : Origin → List ℕ → Type 0
  known = IsKnown old.told old.held calls

  abbrev known_large : Origin → Type 0
  known_large = IsKnownLarge old.told old.held calls

  -- by the bytes that its calls gave
  by_bytes : Does (Answer r (WasRead calls) (WasTooLarge calls)) r old new e
  by_bytes =
      did_also (Answer r known known_large) (Answer r (WasRead calls) (WasTooLarge calls))
      (answer_also known (WasRead calls) known_large (WasTooLarge calls) (λ o b k. k.0) (λ o k. k.0) r) r old new e did

  -- by what the files held
  by_contents : IsTrue old.told → Does (Answer r (HoldsWithin old.held) (Exceeds old.held)) r old new e
  by_contents told =
      did_also (Answer r known known_large) (Answer r (HoldsWithin old.held) (Exceeds old.held))
      (answer_also known (HoldsWithin old.held) known_large (Exceeds old.held) (λ o b k. k.1 told) (λ o k. k.1 told) r) r old new e did

  answered_by_contents : IsTrue old.told → IsPlain s → IsAnswered (HoldsWithin old.held) (Exceeds old.held) words (between old new err_old err_new) s
  answered_by_contents told = answered (HoldsWithin old.held) (Exceeds old.held) words r asks old new err_old err_new e s ends (by_contents told) line

  pub request_stated : GoodRequestsAreDone → BoundedCallsAreFollowed → Clauses calls words (between old new err_old err_new) s
  request_stated good_law bounded_law = record {
    usage = (λ two. absurd (is_no_usage e (sym ends ∙ two)), λ u. absurd (u r asks));
    answer = answered_by_contents;
    by_calls = record {
      asked = All-weaker (IsCallOf r) (λ call. (q : Request) × Asks words q × IsCallOf q call) (λ call h. (r, asks, h)) calls of_request;
      unread = λ four. unread (Answer r (WasRead calls) (WasTooLarge calls)) words r asks old new err_old err_new calls e (sym ends ∙ four) by_bytes last line;
      answered = λ plain. answered (WasRead calls) (WasTooLarge calls) words r asks old new err_old err_new e s ends by_bytes line plain;
      partly = λ five. partly (WasRead calls) (WasTooLarge calls) words r asks old new err_old err_new e (sym ends ∙ five) by_bytes;
      printed_in_part = λ six. printed_in_part (WasRead calls) (WasTooLarge calls) words r asks old new err_old err_new e (sym ends ∙ six) by_bytes;
    };
    read_faults = elim (read_faults_stay (Answer r known known_large) r old new e did) [ inl four ↦ inl (ends ∙ four) | inr stay ↦ inr stay ];
    unwritten = λ five. unwritten (Answer r known known_large) r old new words asks err_old err_new e (sym ends ∙ five) did line;
    write_faults = elim (write_faults_stay (Answer r known known_large) r old new e did) [ inl five ↦ inl (ends ∙ five) | inr stay ↦ inr stay ];
    partly = λ told five. partly (HoldsWithin old.held) (Exceeds old.held) words r asks old new err_old err_new e (sym ends ∙ five) (by_contents told);
    memory = λ six. out_of_memory (Answer r known known_large) r old new words asks err_old err_new e (sym ends ∙ six) did line;
    printed_in_part = λ told six. printed_in_part (HoldsWithin old.held) (Exceeds old.held) words r asks old new err_old err_new e (sym ends ∙ six) (by_contents told);
    settled = λ told none there. settled words r asks old new err_old err_new told none e s ends (Answer r known known_large) did there;
    complete = λ told none q asked good. complete words r asks old new err_old err_new told none e s ends good_law (by_contents told) q asked good;
    bounded = λ told zero.
        bounded_law words (between old new err_old err_new) told
        (subst (IsAnswered (HoldsWithin old.held) (Exceeds old.held) words (between old new err_old err_new)) zero
        (answered_by_contents told (subst IsPlain (sym zero) (is_plain 0 (inl (omega arith))))));
    kept = λ some whole. held_stays (Answer r known known_large) (writes_nothing known known_large r) r old new e did (λ z. some (ends ∙ z)) (λ z. whole (ends ∙ z));
  }
