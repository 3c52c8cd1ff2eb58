use Rattle.std.proofs.Common.{◌++◌, ap, subst, ◌∙◌}
use Rattle.ir_model.specs.Plain.{firmware_of}
use Rattle.ir_program.specs.Seen.{program_of}
use Rattle.aces_why.specs.Findings.{AreFindingsOf}
use Rattle.aces_why.specs.Told.{reach_lines}
use Rattle.aces_why.proofs.telling.lines_of.Goals as goal

pub returns : goal.returns
returns c =
    let w = firmware_of c.args.firmware.now in
    let p = program_of c.args.program.now in
    let found = c.args.found.now in
    record {
      found = found;
      are_found = subst (λ q. AreFindingsOf q found) c.requires.program c.requires.found;
      same =
          c.into_bytes.ensures ∙ (c.in_ok-put_all.ensures ∙ (ap (λ t. t ++ reach_lines (record { firmware = w; program = p; found = found })) c.new-text.ensures
          ∙ ap (λ q. reach_lines (record { firmware = w; program = q; found = found })) c.requires.program));
    }
