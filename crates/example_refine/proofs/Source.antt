-- The source is typed, and numbered as that program.
use Rattle.std.proofs.Common.{◌≡◌, refl, rules}
use Rattle.base_names.specs.Names.{is_name, is_reserved, reserved, declaration_words, instruction_words, type_words, operation_words, comparison_words}
use Rattle.ir_model.specs.Layout.{known}
use Rattle.ir_model.specs.Lines.{lines_of}
use Rattle.ir_model.specs.Resolve.{resolve}
use Rattle.ir_model.specs.Canonical.{IsWithinLimits}
use Rattle.ir_model.specs.Rules.{inst_fits, term_fits}
use Rattle.ir_model.specs.Typing.{checks, fault_of, IsTyped}
use Rattle.example_refine.specs.TwoCompartments.{program}
use Rattle.example_refine.specs.Source.{firmware, IsItsSource}

typed : IsTyped firmware
unfolding fault_of checks known inst_fits term_fits
typed = refl

within : IsWithinLimits firmware
unfolding lines_of is_name is_reserved reserved declaration_words instruction_words type_words operation_words comparison_words
within = record { words = search rules; tokens = search rules; structs = search rules; functions = search rules }

numbered : resolve firmware ≡ program
unfolding resolve known
numbered = refl

pub is_its_source : IsItsSource
is_its_source = record { typed = typed; within = within; numbered = numbered }
