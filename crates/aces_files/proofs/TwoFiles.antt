-- What a command on two files did, by what its steps answered.
use Rattle.std.proofs.Common.{◌≡◌, ℕ, List, All, [], ◌∷◌, Bool, inl, inr, None, Ok, Err, Result, false, refl, sym, subst}
use Rattle.base_outside.specs.declared.files.Files as files
use Rattle.base_outside.specs.Calls.{Call}
use Rattle.base_outside.specs.Sinks.{SinkState}
use Rattle.aces_reports.specs.declared.failure.Done.{Done}
use Rattle.aces_reports.specs.declared.failure.Failure.{Failure}
use Rattle.aces_reports.specs.Ends.{status_of}
use Rattle.aces_words.specs.Requests.{Request, Origin, origins}
use Rattle.aces_files.specs.Answers.{AnswerByFiles, first_large, second_large, both_read}
use Rattle.aces_files.specs.CarriesOut.{CarriesOut, IsKnown, IsKnownLarge}
use Rattle.aces_files.specs.Effects.{Does, Quiet, world}
use Rattle.aces_files.specs.Known.{Held, IsNamed, IsMissing, IsCallOf}
use Rattle.aces_files.specs.Loads.{IsRefusal, ReadsEither, AreRead, AreNotRead}
use Rattle.aces_files.specs.Outcomes.{Outcome, done}
use Rattle.aces_files.specs.Tellings.{Prints}
use Rattle.aces_files.proofs.Asked.{first_named, reads_of_both}
use Rattle.aces_files.proofs.Unchanged as unchanged
use Rattle.aces_files.proofs.Ends.{load_failed, refusal_also, did_also, did_then, untouched_names}

module _ {F : Type 0} (of : files.Ghosts F) (old new : F) (s t : Origin) (r : Request) (takes : origins r ≡ s ∷ t ∷ [])
    (A : (bytes text : List ℕ) → Outcome → Type 0) where
  second_named : IsNamed (origins r) t.name
  second_named = subst (λ ss. IsNamed ss t.name) (sym takes) (inr (inl refl))

  pub asked : (calls : List Call) → All (ReadsEither s.name t.name) calls → All (IsCallOf r) calls
  asked calls h = reads_of_both r s.name t.name (first_named r s (t ∷ []) takes) second_named calls h

  -- a file was not read
  pub not_read : (out : SinkState) (e : Failure) → AreNotRead of old new s t e → CarriesOut (AnswerByFiles s t A) of old new r out out (Err e)
  not_read out e h =
      let large = IsKnownLarge of.told (of.held old) h.calls in
      let all = AnswerByFiles s t A (IsKnown of.told (of.held old) h.calls) large in
      let quiet : Quiet (world of old out) (world of new out) = record { held = h.same; write_faults = h.write_faults; out = refl } in (
        h.calls,
        h.are,
        asked h.calls h.reads,
        elim h.cause [
          | inl f ↦ load_failed all large r s (world of old out) (world of new out) quiet (first_named r s (t ∷ []) takes)
              (λ told n. subst (λ ss. IsMissing (of.held old) ss s.name) (sym takes) (inl (refl, n))) (λ x. first_large x) e f
          | inr f ↦ load_failed all large r t (world of old out) (world of new out) quiet second_named
              (λ told n. subst (λ ss. IsMissing (of.held old) ss t.name) (sym takes) (inr ((f.0.0, f.0.1.1 told), inl (refl, n)))) (λ x. second_large f.0.0 f.0.1 x) e f.1
        ],
        h.last,
      )

  module _ (bytes text : List ℕ) (h : AreRead of old new s t bytes text) where
    -- its answer, by these calls
    abbrev By : Outcome → Type 0
    By = AnswerByFiles s t A (IsKnown of.told (of.held old) h.calls) (IsKnownLarge of.told (of.held old) h.calls)

    answered : (o : Outcome) → A bytes text o → By o
    answered o a = both_read bytes text o h.first_known h.second_known a

    -- what both hold is refused
    pub refused : (out : SinkState) (e : Failure) → IsRefusal (A bytes text) e → CarriesOut (AnswerByFiles s t A) of old new r out out (Err e)
    refused out e f =
        unchanged.refused of old new r (AnswerByFiles s t A) h.calls h.are (asked h.calls h.reads) h.same h.read_faults h.write_faults out e
        (refusal_also (A bytes text) By answered e f)

    -- lines are printed, or not
    pub printed : (before after : SinkState) (lines : List ℕ) (d : Done) → A bytes text (done (status_of (Ok d)) lines None)
        → (e : Result Done Failure) → Prints before after lines d e → CarriesOut (AnswerByFiles s t A) of old new r before after e
    printed before after lines d a e p =
        unchanged.printed of old new r (AnswerByFiles s t A) h.calls h.are (asked h.calls h.reads) h.same h.read_faults h.write_faults before after lines d
        (answered (done (status_of (Ok d)) lines None) a) e p

    -- what is done with both touches no file
    pub did : (before after : SinkState) (e : Result Done Failure)
        → ((told : Bool) (held : Held) (reads writes : ℕ) → Does (A bytes text) r
        (record { told = told; held = held; read_faults = reads; write_faults = writes; out = before })
        (record { told = told; held = held; read_faults = reads; write_faults = writes; out = after }) e)
        → CarriesOut (AnswerByFiles s t A) of old new r before after e
    did before after e d =
        let w = world of old before in (
          h.calls,
          h.are,
          asked h.calls h.reads,
          did_then By r w (of.held new) (of.read_faults new) (of.write_faults new) after e h.same h.read_faults h.write_faults
              (did_also (A bytes text) By answered r w (record w { out = after }) e (d of.told (of.held old) (of.read_faults old) (of.write_faults old))),
          untouched_names h.calls (A bytes text) r (of.held old) before after e (d false (of.held old) 0 0),
        )
