-- What a command did that changed no file: what it made of its files was refused, or it printed lines, or its output failed.
use Rattle.std.proofs.Common.{◌≡◌, List, ℕ, All, None, Ok, Err, Result, refl, ap, sym}
use Rattle.base_outside.specs.declared.files.Files as files
use Rattle.base_outside.specs.Calls.{Call, Calls}
use Rattle.base_outside.specs.Sinks.{SinkState}
use Rattle.aces_reports.specs.declared.failure.Done.{Done}
use Rattle.aces_reports.specs.declared.failure.Failure.{Failure}
use Rattle.aces_reports.specs.declared.failure.Failure.TheVariants.{Refused, PastLimit, Denied, NoRoom, Unread, Unwritten, Unprinted, NoMemory}
use Rattle.aces_reports.specs.Ends.{status_of}
use Rattle.aces_words.specs.Requests.{Request, Origin}
use Rattle.aces_files.specs.CarriesOut.{CarriesOut, IsKnown, IsKnownLarge}
use Rattle.aces_files.specs.Effects.{world}
use Rattle.aces_files.specs.Known.{IsCallOf}
use Rattle.aces_files.specs.Loads.{IsRefusal}
use Rattle.aces_files.specs.Outcomes.{Outcome, done}
use Rattle.aces_files.specs.Tellings.{Prints}
use Rattle.aces_files.proofs.Ends.{did_end, refusal_did, refusal_names}

module _ {F : Type 0} (of : files.Ghosts F) (old new : F) (r : Request)
    (Answer : (Has : Origin → List ℕ → Type 0) (Exceeds : Origin → Type 0) → Outcome → Type 0)
    (calls : List Call) (are : Calls of.called old calls new) (asked : All (IsCallOf r) calls)
    (same : of.held new ≡ of.held old) (same_reads : of.read_faults new ≡ of.read_faults old) (same_writes : of.write_faults new ≡ of.write_faults old) where
  -- its answer, by these calls
  abbrev By : Outcome → Type 0
  By = Answer (IsKnown of.told (of.held old) calls) (IsKnownLarge of.told (of.held old) calls)

  -- it was refused
  pub refused : (out : SinkState) (e : Failure) → IsRefusal By e → CarriesOut Answer of old new r out out (Err e)
  refused out e f = (
    calls,
    are,
    asked,
    refusal_did By r (world of old out) (world of new out) (record { held = same; write_faults = same_writes; out = refl }) same_reads e f,
    refusal_names calls By e f,
  )

  -- lines are printed, or not
  pub printed : (before after : SinkState) (lines : List ℕ) (d : Done) → By (done (status_of (Ok d)) lines None)
      → (e : Result Done Failure) → Prints before after lines d e → CarriesOut Answer of old new r before after e
  printed before after lines d a (Ok e) p = (
    calls,
    are,
    asked,
    did_end By r (world of old before) (world of new after) (done (status_of (Ok d)) lines None) e a (ap (λ x. status_of (Ok x)) (sym p.0)) refl
        (record { printed = p.1.1; held = same; read_faults = same_reads; write_faults = same_writes; faults = p.1.0 }),
    tt,
  )
  printed before after lines d a (Err (Refused name f)) p = absurd p
  printed before after lines d a (Err (PastLimit which count)) p = absurd p
  printed before after lines d a (Err (Denied said)) p = absurd p
  printed before after lines d a (Err (NoRoom lack)) p = absurd p
  printed before after lines d a (Err (Unread name)) p = absurd p
  printed before after lines d a (Err (Unwritten name)) p = absurd p
  printed before after lines d a (Err Unprinted) p = (
    calls,
    are,
    asked,
    (
      record { rose = p.0; held = same; read_faults = same_reads; write_faults = same_writes },
      record { outcome = done (status_of (Ok d)) lines None; answer = a; part = record { printed = p.1; held = same } },
    ),
    tt,
  )
  printed before after lines d a (Err NoMemory) p = absurd p
