-- Beyond the program's claim: only laws, proofs and functions inside the tool cite this file.
-- What a checker tells of checks in order.
use Rattle.std.specs.Prelude.{◌≡◌, Some, None, Result, Ok, Err}
use Rattle.ir_model.specs.declared.check.CheckKind.{CheckKind}
use Rattle.ir_model.specs.declared.check.CheckPlace.{CheckPlace}
use Rattle.ir_model.specs.Plain.{PlainFirmware}
use Rattle.ir_model.specs.Typing.{Checks, first_failing, fault_of}
use Rattle.ir_check_scopes.specs.declared.fault.CheckFault.{CheckFault}
use Rattle.ir_check_scopes.specs.declared.fault.CheckFault.TheVariants.{NoMemory, At}

-- the fault of the first that fails; want of memory may come at any time
abbrev pub Refused : Checks → CheckFault → Type 0
Refused cs (At k p) = first_failing cs ≡ Some (record { kind = k; place = p })
Refused cs NoMemory = Unit {0}

-- Ok where no check fails
abbrev pub Finds : {T : Type 0} → Checks → Result T CheckFault → Type 0
Finds cs (Ok x) = first_failing cs ≡ None
Finds cs (Err e) = Refused cs e

-- this fault, or want of memory
abbrev pub IsFault : CheckFault → CheckKind → CheckPlace → Type 0
IsFault (At l q) k p = (l ≡ k) × (q ≡ p)
IsFault NoMemory k p = Unit {0}

-- the firmware's fault, or want of memory
abbrev pub IsFaultOf : PlainFirmware → CheckFault → Type 0
IsFaultOf w (At k p) = fault_of w ≡ Some (record { kind = k; place = p })
IsFaultOf w NoMemory = Unit {0}
