-- Beyond the program's claim: only laws, proofs and functions inside the tool cite this file.
-- How far a walk through a function has come.
use Rattle.std.specs.Prelude.{◌≡◌, ℕ, List}
use Rattle.ir_model.specs.Resolved.{NumberedFunc}
use Rattle.code_model.specs.declared.places.CallSite.{CallSite}
use Rattle.code_model.specs.Sizes.{place_offset}
use Rattle.code_offsets.specs.declared.walk.Reached.{Reached}

-- the offset is the distance of the place that was reached from the function's entry
pub record IsReached (g : NumberedFunc) (sites : List CallSite) (lent : ℕ) (r : Reached) : Type 0 where
  pub offset : r.offset ≡ place_offset g sites lent r.block r.place
