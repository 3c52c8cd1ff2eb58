use Rattle.std.proofs.Common.{◌≡◌, ◌++◌, map, filter}
use Rattle.ir_model.specs.Plain.{firmware_of}
use Rattle.ir_program.specs.Seen.{program_of}
use Rattle.plan_model.specs.InitialGraph.{cover_of}
use Rattle.plan_model.specs.Covers.{is_inside}
use Rattle.plan_model.specs.Lists.{numbers_below}
use Rattle.plan_report.specs.Names.{spaced, periph_name}
use Rattle.plan_report.proofs.slots.put_periphs.Given as goal

abbrev pub invariant-loop-i : goal.invariant-loop-i
invariant-loop-i l = l.text ≡ l.initial.text ++ spaced (map (periph_name (firmware_of l.subject.firmware.now)) (filter (λ q. is_inside (cover_of (program_of l.subject.program.now) q) l.cover) (numbers_below l.i)))
