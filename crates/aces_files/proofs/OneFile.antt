-- What a command on one file did, by what its steps answered.
use Rattle.std.proofs.Common.{◌≡◌, ℕ, List, All, [], ◌∷◌, inl, None, Ok, Err, Result, refl, sym, subst}
use Rattle.base_outside.specs.declared.files.Files as files
use Rattle.base_outside.specs.Calls.{Call}
use Rattle.base_outside.specs.Reading.{Reads}
use Rattle.base_outside.specs.Sinks.{SinkState}
use Rattle.aces_reports.specs.declared.failure.Done.{Done}
use Rattle.aces_reports.specs.declared.failure.Failure.{Failure}
use Rattle.aces_reports.specs.Ends.{status_of}
use Rattle.aces_words.specs.Requests.{Request, Origin, origins}
use Rattle.aces_files.specs.Answers.{AnswerByFile, too_large, read}
use Rattle.aces_files.specs.CarriesOut.{CarriesOut, IsKnown, IsKnownLarge}
use Rattle.aces_files.specs.Effects.{Quiet, world}
use Rattle.aces_files.specs.Known.{IsMissing, IsCallOf}
use Rattle.aces_files.specs.Loads.{IsRefusal, IsRead, IsNotRead}
use Rattle.aces_files.specs.Outcomes.{Outcome, done}
use Rattle.aces_files.specs.Tellings.{Prints}
use Rattle.aces_files.proofs.Asked.{first_named, reads_of}
use Rattle.aces_files.proofs.Unchanged as unchanged
use Rattle.aces_files.proofs.Ends.{load_failed, refusal_also}

module _ {F : Type 0} (of : files.Ghosts F) (old new : F) (s : Origin) (r : Request) (takes : origins r ≡ s ∷ []) (A : (bytes : List ℕ) → Outcome → Type 0) where
  pub asked : (calls : List Call) → All (Reads s.name) calls → All (IsCallOf r) calls
  asked calls h = reads_of r s.name (first_named r s [] takes) calls h

  -- the file was not read
  pub not_read : (out : SinkState) (e : Failure) → IsNotRead of old new s e → CarriesOut (AnswerByFile s A) of old new r out out (Err e)
  not_read out e h =
      let large = IsKnownLarge of.told (of.held old) h.calls in
      let all = AnswerByFile s A (IsKnown of.told (of.held old) h.calls) large in
      let quiet : Quiet (world of old out) (world of new out) = record { held = h.same; write_faults = h.write_faults; out = refl } in (
        h.calls,
        h.are,
        asked h.calls h.reads,
        load_failed all large r s (world of old out) (world of new out) quiet (first_named r s [] takes)
            (λ t n. subst (λ ss. IsMissing (of.held old) ss s.name) (sym takes) (inl (refl, n))) (λ x. too_large x) e h.cause,
        h.last,
      )

  module _ (bytes : List ℕ) (h : IsRead of old new s bytes) where
    -- its answer, by these calls
    abbrev By : Outcome → Type 0
    By = AnswerByFile s A (IsKnown of.told (of.held old) h.calls) (IsKnownLarge of.told (of.held old) h.calls)

    answered : (o : Outcome) → A bytes o → By o
    answered o a = read bytes o h.known a

    -- what it holds is refused
    pub refused : (out : SinkState) (e : Failure) → IsRefusal (A bytes) e → CarriesOut (AnswerByFile s A) of old new r out out (Err e)
    refused out e f =
        unchanged.refused of old new r (AnswerByFile s A) h.calls h.are (asked h.calls h.reads) h.same h.read_faults h.write_faults out e
        (refusal_also (A bytes) By answered e f)

    -- lines are printed, or not
    pub printed : (before after : SinkState) (lines : List ℕ) (d : Done) → A bytes (done (status_of (Ok d)) lines None)
        → (e : Result Done Failure) → Prints before after lines d e → CarriesOut (AnswerByFile s A) of old new r before after e
    printed before after lines d a e p =
        unchanged.printed of old new r (AnswerByFile s A) h.calls h.are (asked h.calls h.reads) h.same h.read_faults h.write_faults before after lines d
        (answered (done (status_of (Ok d)) lines None) a) e p
