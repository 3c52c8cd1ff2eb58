-- What a listing speaks of.
use Rattle.ir_model.specs.Plain.{PlainFirmware, firmware_of}
use Rattle.ir_model.specs.Resolved.{Program}
use Rattle.ir_program.specs.Seen.{program_of}
use Rattle.plan_model.specs.declared.needs.Needs.{Needs}
use Rattle.plan_model.specs.declared.graph.Final.{Final}
use Rattle.plan_model.specs.declared.plan.Plan.{Plan}
use Rattle.plan_model.specs.declared.plan.Board.{Board}
use Rattle.plan_report.specs.declared.subject.Subject as code

-- a firmware by its names and by its numbers, what its functions need, the final graph of its compartments, and where all lies
-- on a board
pub record Subject : Type 0 where
  pub firmware : PlainFirmware
  pub program : Program
  pub needs : Needs
  pub graph : Final
  pub plan : Plan
  pub board : Board

abbrev pub subject_of : code.Subject → Subject
subject_of s =
    record {
      firmware = firmware_of s.firmware.now;
      program = program_of s.program.now;
      needs = s.needs.now;
      graph = s.graph.now;
      plan = s.plan.now;
      board = s.board.now;
    }
