use Rattle.std.proofs.Common.{ap, ◌∙◌, length, subst}
use Rattle.ir_model.specs.Plain.{firmware_of}
use Rattle.ir_model.specs.Resolved.{Program}
use Rattle.ir_model.specs.State.{start}
use Rattle.ir_program.specs.declared.program.Program.{Program as ProgramNow}
use Rattle.ir_program.specs.Seen.{program_of}
use Rattle.plan_model.specs.declared.groups.Groups.{Groups}
use Rattle.plan_firmwares.proofs.Counting.{each_resolved}
use Rattle.aces_selftest.specs.Counts.{IsSourceCount}
use Rattle.aces_selftest.specs.Answers.{source_limit}
use Rattle.aces_selftest.proofs.runs.run_source.Goals as goal

pub count_of_run-requires : goal.count_of_run-requires
count_of_run-requires c =
    record {
      firmware = firmware_of c.args.firmware.now;
      typed = c.firmware.ensures.typed;
      within = c.firmware.ensures.within;
      is = ap program_of c.into_parts-program.ensures.program ∙ c.in_ok-analysis.ensures.exact.program;
    }

pub returns : goal.returns
returns c =
    let a = c.in_ok-analysis.analysis in
    let h = c.in_ok-analysis.ensures.exact in
    let of = c.into_vec.result.items in
    let t = c.in_ok-count.count in
    let p = c.into_parts-program.ensures.program in
    record {
      functions = c.len-functions.ensures ∙ ap (λ (q : ProgramNow). length q.funcs) p ∙ each_resolved a.program (firmware_of c.args.firmware.now) h.program;
      compartments = of;
      are = record { needs = a.needs; are_needs = h.needs; same = c.into_vec.ensures ∙ ap (λ (g : Groups). g.of) (c.into_parts-program.ensures.groups ∙ h.groups) };
      count = subst (λ (q : Program). IsSourceCount q of source_limit (start q c.args.tape) t) (ap program_of p ∙ h.program) c.in_ok-count.ensures;
    }
