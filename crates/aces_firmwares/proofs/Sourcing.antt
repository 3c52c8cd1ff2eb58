-- A run of the source on the bytes of a firmware and of a tape.
use Rattle.std.proofs.Common.{◌≡◌, ℕ, List, None, map, ap, sym, ◌∙◌}
use Rattle.machine_devices.specs.declared.image.Window.{Window}
use Rattle.machine_devices.specs.Tape.{first_fault}
use Rattle.ir_model.specs.declared.firmware.Firmware.{Firmware}
use Rattle.ir_model.specs.declared.firmware.Peripheral.{Peripheral}
use Rattle.ir_model.specs.Plain.{firmware_of}
use Rattle.ir_program.specs.Windows.{window_of, windows_of}
use Rattle.plan_model.specs.declared.policy.Policy.{Policy}
use Rattle.plan_compartments.specs.Analyses.{AreCompartmentsBy}
use Rattle.aces_firmwares.specs.Firmwares.{IsFirmware}
use Rattle.aces_firmwares.specs.Answers.{SourceAnswer, ran, source_outcome}

-- the windows that are made of a firmware's peripherals
pub windows_made : (w v : Firmware) (periphs : List Peripheral) (made lent : List Window) → made ≡ map window_of periphs → periphs ≡ v.periphs → v ≡ w → lent ≡ made → lent ≡ windows_of (firmware_of w)
windows_made w v periphs made lent m p s l = l ∙ (m ∙ ap (map window_of) (p ∙ ap (λ (f : Firmware). f.periphs) s))

-- what is answered of a run
pub has_run : (firmware : List ℕ) (policy : Policy) (tape : List ℕ) (steps : ℕ) (bytes text : List ℕ) (w : Firmware) (compartments : List ℕ) (windows : List Window) → AreCompartmentsBy policy (firmware_of w) compartments → IsFirmware (firmware_of w) bytes → windows ≡ windows_of (firmware_of w)
    → first_fault text windows ≡ None → SourceAnswer firmware policy tape steps bytes text (source_outcome (firmware_of w) compartments text steps)
has_run firmware policy tape steps bytes text w compartments windows a f e h = ran (firmware_of w) compartments f (ap (first_fault text) (sym e) ∙ h) a
