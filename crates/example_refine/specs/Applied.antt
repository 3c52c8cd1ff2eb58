-- Beyond the program's claim: only laws, proofs and functions inside the tool cite this file.
-- What the refinement says of this image.
use Rattle.monitor_model.specs.Invariant.{Invariant}
use Rattle.monitor_model.specs.Law.{Law}
use Rattle.monitor_model.specs.Layout.{initial_word_count}
use Rattle.refine_model.specs.Refines.{Refines}
use Rattle.example_refine.specs.TwoCompartments.{needs, groups, image, tables, setting}
use Rattle.example_refine.specs.Source.{firmware}

-- a monitor that kept its law here would be all that is left to ask
abbrev pub RefinesByLaw : Type 0
RefinesByLaw = Law setting (Invariant image tables) → Refines firmware needs groups 2048 (initial_word_count tables) image
