-- A good request to check a firmware or to run its source has no outcome but the one that says that all was done.
use Rattle.std.proofs.Common.{◌≡◌, ℕ, ◌⊎◌, inl, inr, List, Option, Some, None, true, false, refl, sym, ◌∙◌, subst}
use Rattle.machine_devices.specs.Tape as tapes
use Rattle.ir_model.specs.declared.token.Excess.TheVariants as excess
use Rattle.ir_model.specs.Plain.{PlainFirmware}
use Rattle.ir_model.specs.Typing.{fault_of}
use Rattle.ir_model.specs.State.{SourceEnd, Returned, OutOfInput, Faulted}
use Rattle.ir_model.specs.Texts as firmwares
use Rattle.ir_program.specs.Windows.{windows_of}
use Rattle.ir_reader.specs.Laws as readers
use Rattle.ir_reader.specs.First.{IsFirst}
use Rattle.ir_reader.specs.declared.fault.TextFault.{TextFault}
use Rattle.ir_reader.specs.declared.fault.TextFault.TheVariants as text
use Rattle.aces_reports.specs.declared.failure.Fault.{Fault}
use Rattle.aces_reports.specs.declared.failure.Fault.TheVariants.{Text}
use Rattle.ir_output.specs.SourceRuns as source_runs
use Rattle.plan_model.specs.declared.policy.Policy.{Policy}
use Rattle.aces_files.specs.Contents.{IsContentFault}
use Rattle.aces_files.specs.Outcomes.{Outcome}
use Rattle.aces_firmwares.specs.Firmwares.{IsFirmware, IsNoFirmware, no_text, ill_typed}
use Rattle.aces_firmwares.specs.Answers.{CheckAnswer, SourceAnswer, no_firmware, no_tape, checked, ran}
use Rattle.aces_where.proofs.Findable.{IsFaultless}
use Rattle.aces_cli.specs.Complete.{IsSourceRunnable}
use Rattle.aces_cli.proofs.Runnable.{Laws, is_tape}

-- a text of a typed firmware has no fault, and its firmware is one
module _ (unique : readers.TextsAreUnique) (faultless : readers.TextsAreFaultless) where
  text_has_no_fault : (w : PlainFirmware) (bytes : List ℕ) (f : Fault) → firmwares.IsText w bytes → (first : TextFault) → IsFirst bytes first → IsContentFault (Text first) f → ⊥
  text_has_no_fault w bytes f h text.NoMemory k q = (let wrong : true ≡ false = q.1 in cc)
  text_has_no_fault w bytes f h (text.Utf8 at) k q = k.none h.utf8
  text_has_no_fault w bytes f h (text.Syntax pos) k q = faultless w bytes h (inl (pos, k))
  text_has_no_fault w bytes f h (text.NumberTooWide pos) k q = faultless w bytes h (inr (excess.TooWide, pos, k))
  text_has_no_fault w bytes f h (text.Limit which pos) k q = faultless w bytes h (inr (excess.Passes which, pos, k))

  pub firmwares_are_one : (v w : PlainFirmware) (bytes : List ℕ) → IsFirmware v bytes → IsFirmware w bytes → v ≡ w
  firmwares_are_one v w bytes h k = unique v w bytes h.is_text k.is_text

  pub is_firmware : (w : PlainFirmware) (bytes : List ℕ) (f : Fault) → IsFirmware w bytes → IsNoFirmware bytes f → ⊥
  is_firmware w bytes f h (no_text g k) = text_has_no_fault w bytes g h.is_text k.first k.found k.named
  is_firmware w bytes f h (ill_typed kind place k) =
      let q : fault_of k.firmware ≡ None = subst (λ v. fault_of v ≡ None) (unique w k.firmware bytes h.is_text k.is_text) h.typed in
      absurd (let wrong : None ≡ Some (record { kind = kind; place = place }) = sym q ∙ k.found in cc)

-- the ends of runs
source_ends : (e : Option SourceEnd) → (source_runs.end_status e ≡ 0) ⊎ (source_runs.end_status e ≡ 7)
source_ends None = inl refl
source_ends (Some Returned) = inl refl
source_ends (Some OutOfInput) = inl refl
source_ends (Some (Faulted f)) = inr refl

module _ (laws : Laws) where
  pub check_done : (firmware bytes : List ℕ) (o : Outcome) (w : PlainFirmware) → IsFirmware w bytes → CheckAnswer firmware bytes o → o.status ≡ 0
  check_done firmware bytes o w h (no_firmware f k) = absurd (is_firmware laws.unique laws.faultless w bytes f h k)
  check_done firmware bytes o w h (checked v k) = refl

  pub is_faultless : (bytes t : List ℕ) → IsSourceRunnable bytes t → IsFaultless bytes t
  is_faultless bytes t g =
      record {
        firmware = λ f k. is_firmware laws.unique laws.faultless g.firmware bytes f g.is_firmware k;
        tape = λ w f h k. is_tape (windows_of w) t f (subst (λ (z : PlainFirmware). tapes.first_fault t (windows_of z) ≡ None) (firmwares_are_one laws.unique laws.faultless g.firmware w bytes g.is_firmware h) g.tape) k;
      }

  pub source_done : (firmware : List ℕ) (policy : Policy) (tape : List ℕ) (steps : ℕ) (bytes t : List ℕ) (o : Outcome) → IsSourceRunnable bytes t
      → SourceAnswer firmware policy tape steps bytes t o → (o.status ≡ 0) ⊎ (o.status ≡ 7)
  source_done firmware policy tape steps bytes t o g (no_firmware f k) = absurd (is_firmware laws.unique laws.faultless g.firmware bytes f g.is_firmware k)
  source_done firmware policy tape steps bytes t o g (no_tape w f h k) =
      absurd (is_tape (windows_of w) t f (subst (λ (z : PlainFirmware). tapes.first_fault t (windows_of z) ≡ None) (firmwares_are_one laws.unique laws.faultless g.firmware w bytes g.is_firmware h) g.tape) k)
  source_done firmware policy tape steps bytes t o g (ran w compartments h k a) =
      source_ends (source_runs.source_end w compartments (tapes.queues_of t (windows_of w)) steps)
