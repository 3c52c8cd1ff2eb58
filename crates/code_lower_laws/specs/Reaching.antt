-- Beyond the program's claim: only laws, proofs and functions inside the tool cite this file.
-- Branches that reach their labels.
use Rattle.std.specs.Prelude.{◌≡◌, ℕ, ◌+◌, ◌^◌, ◌<◌, ◌≤◌, List, length, Option, None}
use Rattle.std.proofs.Math.ListN.{get_or}
use Rattle.machine_thumb_asm.specs.Finished.{first_far}
use Rattle.ir_model.specs.Resolved as ir
use Rattle.ir_model.specs.Resolved.{Program, NumberedTerm, NumberedFunc, func_at, no_block}
use Rattle.code_model.specs.declared.places.Places.{Places}
use Rattle.code_model.specs.Sizes.{function_size}
use Rattle.code_model.specs.FunctionCode.{lent, function_items, function_labels}
use Rattle.code_model.specs.CompartmentCode.{CodeGroups, CodePlaces, compartment_size, compartment_items, compartment_labels}

-- labels stand among others, from this number on
abbrev pub StandFrom : (places : List (Option ℕ)) → (first : ℕ) → (labels : List (Option ℕ)) → Type 0
StandFrom places first labels = (b : ℕ) → b < length labels → get_or places (first + b) None ≡ get_or labels b None

-- a block's end goes to blocks of the function
abbrev pub GoesInside : NumberedFunc → NumberedTerm → Type 0
GoesInside g (ir.Jump b) = b < length g.blocks
GoesInside g (ir.Branch on a b) = (a < length g.blocks) × (b < length g.blocks)
GoesInside g (ir.Ret r) = Unit {0}

abbrev pub JumpsInside : NumberedFunc → Type 0
JumpsInside g = (b : ℕ) → b < length g.blocks → GoesInside g (get_or g.blocks b no_block).term

-- a function of at most 2^20 bytes whose blocks have their labels: no branch of it is far
abbrev pub FunctionsReach : Type 0
FunctionsReach =
    (g : NumberedFunc) (q : Places) (first at : ℕ) (places : List (Option ℕ)) → StandFrom places first (function_labels g q at) → JumpsInside g →
    function_size g q.sites (lent g q) ≤ 2 ^ 20 → first_far places at (function_items g q first at) ≡ None

-- a compartment whose code has at most 2^20 bytes: no branch of it is far
abbrev pub CompartmentsReach : Type 0
CompartmentsReach =
    (p : Program) (groups : CodeGroups) (places : CodePlaces) (c : ℕ) → ((f : ℕ) → JumpsInside (func_at p f)) → compartment_size p groups c ≤ 2 ^ 20 →
    first_far (compartment_labels p groups places c) (get_or places.bases c 0) (compartment_items p groups places c) ≡ None
