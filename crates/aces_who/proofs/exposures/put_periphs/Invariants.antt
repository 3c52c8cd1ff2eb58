use Rattle.std.proofs.Common.{◌≡◌, ◌++◌, ◌&&◌, flat_map, filter, not}
use Rattle.ir_program.specs.Seen.{program_of}
use Rattle.plan_model.specs.Groups.{uses}
use Rattle.plan_model.specs.Lists.{numbers_below}
use Rattle.plan_model.specs.Permission.{is_covered}
use Rattle.plan_report.specs.Subjects.{subject_of}
use Rattle.aces_who.specs.WhoLines.{exposed_periph_line}
use Rattle.aces_who.proofs.exposures.put_periphs.Given as goal

abbrev pub invariant-loop-periph : goal.invariant-loop-periph
invariant-loop-periph l = l.text ≡ l.initial.text ++ flat_map (exposed_periph_line (subject_of l.subject) l.compartment) (filter (λ q. is_covered (program_of l.subject.program.now) l.subject.graph.now l.compartment q && not (uses l.subject.needs.now l.subject.graph.now.groups l.compartment q)) (numbers_below l.periph))
