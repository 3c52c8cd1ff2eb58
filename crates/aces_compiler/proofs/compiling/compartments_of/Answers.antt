use Rattle.std.proofs.Common.{length, ap, ◌∙◌}
use Rattle.ir_model.specs.Plain.{firmware_of}
use Rattle.aces_compiler.proofs.Parts.{answered_compartments}
use Rattle.aces_compiler.proofs.compiling.compartments_of.Goals as goal

pub returns-clause-are : goal.returns-clause-are
returns-clause-are g c =
    answered_compartments (firmware_of c.args.firmware.now) c.args.needs.now _ c.deref.result.now c.in_ok-made.made (ap length c.deref.ensures.value ∙ c.in_ok-facts.ensures.each) c.in_ok-made.ensures
