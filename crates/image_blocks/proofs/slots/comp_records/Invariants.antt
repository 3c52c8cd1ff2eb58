use Rattle.std.proofs.Common.{◌≡◌, map}
use Rattle.ir_program.specs.Seen.{program_of}
use Rattle.plan_model.specs.Lists.{numbers_below}
use Rattle.image_model.specs.LinkedTables as records
use Rattle.image_blocks.proofs.slots.comp_records.Given as goal

abbrev pub invariant-loop-compartment : goal.invariant-loop-compartment
invariant-loop-compartment l =
    l.all.items ≡ map (records.comp_record (program_of l.program) l.graph l.plan l.slots) (numbers_below l.compartment)
