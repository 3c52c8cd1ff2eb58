-- Beyond the program's claim: only laws, proofs and functions inside the tool cite this file.
-- The calls that a walk over a function has listed.
use Rattle.std.specs.Prelude.{ℕ, ◌<◌, List, ◌++◌}
use Rattle.std.specs.List.{AllZip}
use Rattle.ir_model.specs.Resolved.{Program}
use Rattle.ir_program.specs.declared.program.Operation.{Operation}
use Rattle.ir_program.specs.declared.program.Operation.TheVariants as operation
use Rattle.ir_laws.specs.Sets.{ObjectSets}
use Rattle.plan_model.specs.declared.needs.SiteNeed.{SiteNeed}
use Rattle.plan_model.specs.Calls.{CallPlace, IsSiteOf}

-- the register of a call is below `count`
abbrev pub CallsBelow : (count : ℕ) → Operation → Type 0
CallsBelow n (operation.ICall to r args) = r < n
CallsBelow n o = Unit {0}

-- behind the sites of any calls, those of more calls were put
abbrev pub Adds : Program → ObjectSets → (old new : List SiteNeed) → List CallPlace → Type 0
Adds p S old new places = (before : List CallPlace) → AllZip (IsSiteOf p S) before old → AllZip (IsSiteOf p S) (before ++ places) new
