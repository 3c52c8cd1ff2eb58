use Rattle.std.proofs.Common.{◌≡◌, take}
use Rattle.ir_program.specs.Seen.{program_of}
use Rattle.plan_model.specs.Regions.{size_of}
use Rattle.plan_model.specs.Exposure.{never_reached}
use Rattle.plan_report.proofs.exposure.unreached_bytes.Given as goal

abbrev pub invariant-loop-i : goal.invariant-loop-i
invariant-loop-i l = l.bytes ≡ size_of (program_of l.subject.program.now) (never_reached l.subject.needs.now l.subject.graph.now.groups l.compartment (record l.region { globals = take l.i l.region.globals }))
