use Rattle.std.proofs.Common.{◌≡◌, drop, fold}
use Rattle.ir_program.specs.Seen.{program_of}
use Rattle.plan_model.specs.Blocks.{offset_in_region}
use Rattle.image_model.specs.FirstWords as first_words
use Rattle.image_blocks.specs.Filling.{object_places}
use Rattle.image_blocks.proofs.fill.put_globals.Given as goal

-- what was made and what is left are the whole
abbrev pub invariant-loop-global : goal.invariant-loop-global
invariant-loop-global l =
    fold (λ mem x. first_words.with_global (program_of l.program) (object_places l.addresses) x (offset_in_region (program_of l.program) l.globals x) mem) l.memory (drop l.global-index l.globals)
    ≡ fold (λ mem x. first_words.with_global (program_of l.program) (object_places l.addresses) x (offset_in_region (program_of l.program) l.globals x) mem) l.initial.memory l.globals
