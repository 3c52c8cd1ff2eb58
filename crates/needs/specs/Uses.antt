-- Beyond the program's claim: only laws, proofs and functions inside the tool cite this file.
-- The uses by which an instruction reaches objects and functions.
use Rattle.std.specs.Prelude.{List, [], ◌∷◌, flat_map, Contains}
use Rattle.ir_model.specs.Resolved.{NumberedInst, Load, Store, Call, ICall, NumberedBlock, Here, Does, Ends}
use Rattle.needs.specs.declared.instructions.Use.TheVariants as uses
use Rattle.needs.specs.declared.instructions.Use.{Use}

abbrev pub used : NumberedInst → List Use
used (Load to from t) = uses.Load from ∷ []
used (Store to from t) = uses.Store to ∷ []
used (Call to g args) = uses.Call g ∷ []
used (ICall to r args) = uses.Indirect r ∷ []
used _ = []

abbrev pub uses_in : List NumberedBlock → List Use
uses_in bs = flat_map (λ (b : NumberedBlock). flat_map used b.insts) bs

-- the instruction at a place has this use
abbrev pub UsedAt : Here → Use → Type 0
UsedAt (Does i) u = Contains (used i) u
UsedAt (Ends t) u = ⊥
