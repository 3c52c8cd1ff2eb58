-- What the content of a firmware's file is, or by which fault it is none.
use Rattle.std.specs.Prelude.{◌≡◌, ℕ, List, Some}
use Rattle.aces_reports.specs.declared.failure.Fault.{Fault}
use Rattle.aces_reports.specs.declared.failure.Fault.TheVariants.{Text, Check}
use Rattle.ir_model.specs.declared.check.CheckKind.{CheckKind}
use Rattle.ir_model.specs.declared.check.CheckPlace.{CheckPlace}
use Rattle.ir_model.specs.Plain.{PlainFirmware}
use Rattle.ir_model.specs.Texts as firmwares
use Rattle.ir_model.specs.Typing.{IsTyped, fault_of}
use Rattle.ir_reader.specs.declared.fault.TextFault.{TextFault}
use Rattle.ir_reader.specs.First.{IsFirst}
use Rattle.ir_check_scopes.specs.declared.fault.CheckFault.TheVariants.{At}
use Rattle.aces_files.specs.Contents.{IsContentFault}

-- bytes are the text of no firmware, and this is their first fault
pub record IsNoText (bytes : List ℕ) (f : Fault) : Type 0 where
  pub first : TextFault
  pub found : IsFirst bytes first
  pub named : IsContentFault (Text first) f

-- bytes are the text of a firmware that isn't typed, and this is the first check that fails
pub record IsIllTyped (bytes : List ℕ) (kind : CheckKind) (place : CheckPlace) : Type 0 where
  pub firmware : PlainFirmware
  pub is_text : firmwares.IsText firmware bytes
  pub found : fault_of firmware ≡ Some (record { kind = kind; place = place })

-- bytes are the text of no typed firmware, by this fault
pub data IsNoFirmware (bytes : List ℕ) : Fault → Type 0 where
  no_text : (f : Fault) → IsNoText bytes f → IsNoFirmware bytes f
  ill_typed : (kind : CheckKind) (place : CheckPlace) → IsIllTyped bytes kind place → IsNoFirmware bytes (Check (At kind place))

-- bytes are the text of a typed firmware
pub record IsFirmware (w : PlainFirmware) (bytes : List ℕ) : Type 0 where
  pub is_text : firmwares.IsText w bytes
  pub typed : IsTyped w
