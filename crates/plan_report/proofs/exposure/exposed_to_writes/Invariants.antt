use Rattle.std.proofs.Common.{◌≡◌, take}
use Rattle.ir_program.specs.Seen.{program_of}
use Rattle.plan_model.specs.Exposure as exposure
use Rattle.plan_report.proofs.exposure.exposed_to_writes.Given as goal

abbrev pub invariant-loop-i : goal.invariant-loop-i
invariant-loop-i l = l.bytes ≡ exposure.exposed_to_writes (program_of l.subject.program.now) l.subject.needs.now l.subject.graph.now.groups (take l.i l.subject.graph.now.regions) l.compartment
