-- The shortest firmware is typed and within the limits.
use Rattle.std.proofs.Common.{refl, rules}
use Rattle.base_names.specs.Names.{is_name, is_reserved, reserved, declaration_words, instruction_words, type_words, operation_words, comparison_words}
use Rattle.ir_model.specs.Plain.{firmware_of}
use Rattle.ir_model.specs.Layout.{known}
use Rattle.ir_model.specs.Lines.{lines_of}
use Rattle.ir_model.specs.Canonical.{IsWithinLimits}
use Rattle.ir_model.specs.Rules.{inst_fits, term_fits}
use Rattle.ir_model.specs.Typing.{checks, fault_of, IsTyped}
use Rattle.example_machine.specs.Shortest.{shortest, ComputesShortest}

typed : IsTyped (firmware_of shortest)
unfolding fault_of checks known inst_fits term_fits
typed = refl

within : IsWithinLimits (firmware_of shortest)
unfolding lines_of is_name is_reserved reserved declaration_words instruction_words type_words operation_words comparison_words
within = record { words = search rules; tokens = search rules; structs = tt; functions = search rules }

pub computes_shortest : ComputesShortest
computes_shortest = record { typed = typed; within = within }
