use Rattle.std.proofs.Common.{◌<◌, ℕ, get_or}
use Rattle.code_model.specs.Emitted.{IsNear}
use Rattle.image_linker.proofs.code.are_near.Given as goal

abbrev pub invariant-loop-entry : goal.invariant-loop-entry
invariant-loop-entry l = (k d : ℕ) → k < l.entry-index → IsNear l.from l.to (get_or l.entries k d)
