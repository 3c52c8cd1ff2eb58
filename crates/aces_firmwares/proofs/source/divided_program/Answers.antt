use Rattle.std.proofs.Common.{ap, ◌∙◌}
use Rattle.ir_program.specs.Seen.{program_of}
use Rattle.plan_model.specs.declared.groups.Groups.{Groups}
use Rattle.aces_firmwares.proofs.source.divided_program.Goals as goal

pub returns-clause-program : goal.returns-clause-program
returns-clause-program c = ap program_of c.into_parts-program.ensures.program ∙ c.in_ok-analysis.ensures.exact.program

pub returns-clause-compartments : goal.returns-clause-compartments
returns-clause-compartments c = record {
  needs = c.in_ok-analysis.analysis.needs;
  are_needs = c.in_ok-analysis.ensures.exact.needs;
  same = c.into_vec-compartments.ensures ∙ ap (λ (g : Groups). g.of) (c.into_parts-program.ensures.groups ∙ c.in_ok-analysis.ensures.exact.groups);
}
