-- The subject of the lines: a firmware by its names and by its numbers, and what was found of it.
use Rattle.std.specs.Prelude.{ℕ, List, [], get_or}
use Rattle.ir_model.specs.declared.object.ObjId.{ObjId}
use Rattle.ir_model.specs.Plain.{PlainFirmware, firmware_of}
use Rattle.ir_model.specs.Resolved.{Program}
use Rattle.ir_program.specs.Seen.{program_of}
use Rattle.aces_why.specs.declared.subject.Findings.{Findings}
use Rattle.aces_why.specs.declared.subject.Subject as code

pub record Subject : Type 0 where
  pub firmware : PlainFirmware
  pub program : Program
  pub found : Findings

abbrev pub subject_of : code.Subject → Subject
subject_of s = record { firmware = firmware_of s.firmware.now; program = program_of s.program.now; found = s.found.now }

-- the objects that a register of a function may stand for
abbrev pub objects_of : Subject → (func register : ℕ) → List ObjId
objects_of s f r = get_or (get_or s.found.sets f []) r []
