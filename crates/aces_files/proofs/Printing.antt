-- A command that touches no file, and prints once or not at all.
use Rattle.std.proofs.Common.{ℕ, List, [], None, Ok, Err, true, false, refl}
use Rattle.std.proofs.lemmas.List.Elements.{All-nil}
use Rattle.base_outside.specs.declared.files.Files as files
use Rattle.aces_reports.specs.declared.failure.Done.{Done}
use Rattle.aces_reports.specs.declared.failure.Failure.{Failure}
use Rattle.aces_reports.specs.declared.failure.Failure.TheVariants.{Unprinted}
use Rattle.aces_reports.specs.Ends.{status_of}
use Rattle.base_outside.specs.Sinks.{SinkState, Puts}
use Rattle.aces_words.specs.Requests.{Request, Origin}
use Rattle.aces_files.specs.CarriesOut.{CarriesOut, IsKnown, IsKnownLarge}
use Rattle.aces_files.specs.Known.{IsCallOf}
use Rattle.aces_files.specs.Loads.{IsRefusal}
use Rattle.aces_files.specs.Outcomes.{Outcome, done}
use Rattle.aces_files.proofs.Unchanged as unchanged

module _ {F : Type 0} (of : files.Ghosts F) (fs : F) (r : Request)
    (Answer : (Has : Origin → List ℕ → Type 0) (Exceeds : Origin → Type 0) → Outcome → Type 0) where
  -- its answer, by no call at all
  abbrev By : Outcome → Type 0
  By = Answer (IsKnown of.told (of.held fs) []) (IsKnownLarge of.told (of.held fs) [])

  -- lines were printed
  pub printed : (before after : SinkState) (lines : List ℕ) (d : Done) → By (done (status_of (Ok d)) lines None)
      → Puts before after lines true → CarriesOut Answer of fs fs r before after (Ok d)
  printed before after lines d a p = unchanged.printed of fs fs r Answer [] refl (All-nil (IsCallOf r)) refl refl refl before after lines d a (Ok d) (refl, p)

  -- the output failed
  pub unprinted : (before after : SinkState) (lines : List ℕ) (d : Done) → By (done (status_of (Ok d)) lines None)
      → Puts before after lines false → CarriesOut Answer of fs fs r before after (Err Unprinted)
  unprinted before after lines d a p = unchanged.printed of fs fs r Answer [] refl (All-nil (IsCallOf r)) refl refl refl before after lines d a (Err Unprinted) p

  -- it was refused
  pub refused : (out : SinkState) (e : Failure) → IsRefusal By e → CarriesOut Answer of fs fs r out out (Err e)
  refused out e f = unchanged.refused of fs fs r Answer [] refl (All-nil (IsCallOf r)) refl refl refl out e f
