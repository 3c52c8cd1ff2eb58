use Rattle.std.proofs.Common.{◌≡◌, ◌++◌, drop, flat_map}
use Rattle.ir_program.specs.Seen.{program_of}
use Rattle.image_blocks.specs.declared.fill.Filled.{Filled}
use Rattle.image_model.specs.FirstWords as first_words
use Rattle.image_blocks.specs.Filling.{object_places}
use Rattle.image_blocks.proofs.fill.words_of.Given as goal

-- what was made and what is left are the whole
abbrev pub invariant-loop-block : goal.invariant-loop-block
invariant-loop-block l =
    l.words.items ++ flat_map (λ (b : Filled). first_words.first_words (program_of l.program) (object_places l.addresses) b.globals.now) (drop l.block-index l.blocks)
    ≡ flat_map (λ (b : Filled). first_words.first_words (program_of l.program) (object_places l.addresses) b.globals.now) l.blocks
