-- Beyond the program's claim: only laws, proofs and functions inside the tool cite this file.
-- The locals that are lendable, by what the needs of each function list.
use Rattle.std.specs.Prelude.{◌≡◌, ◌≢◌, ℕ, ◌<◌, ◌^◌, ◌⊎◌, Bool, true, List, length, get_or}
use Rattle.ir_model.specs.declared.object.ObjId.{ObjId}
use Rattle.ir_model.specs.declared.object.ObjId.TheVariants.{Local}
use Rattle.ir_model.specs.Resolved.{Program, func_at}
use Rattle.plan_model.specs.declared.needs.FuncNeed.{FuncNeed}
use Rattle.plan_model.specs.Needs.{no_need}
use Rattle.need_lists.specs.AnyOf.{AnyOf}
use Rattle.needs.specs.Reaching.{Recurs}

-- the locals of each function have numbers below 2 ^ 32
abbrev pub HasFewLocals : Program → Type 0
HasFewLocals p = (f : ℕ) → length (func_at p f).locals < 2 ^ 32

-- an object that function `by` reaches is this local of another function
abbrev pub Lends : Program → (by : ℕ) → ℕ × ℕ → ObjId → Type 0
Lends p by x (Local f l) = (x ≡ (f, l)) × (f ≢ by) × (l < length (func_at p f).locals)
Lends p by x o = ⊥

-- function `by`, of these needs, may write a local of another function or, on a closed board, read it
abbrev pub IsLentBy : Program → (closed : Bool) → (by : ℕ) → FuncNeed → ℕ × ℕ → Type 0
IsLentBy p closed by n x = AnyOf (Lends p by x) n.written ⊎ ((closed ≡ true) × AnyOf (Lends p by x) n.read)

-- a local of function f
abbrev pub IsOwnOf : Program → (func : ℕ) → ℕ × ℕ → Type 0
IsOwnOf p f x = (x.0 ≡ f) × (x.1 < length (func_at p f).locals)

abbrev pub IsLendableFor : Program → (closed : Bool) → (func : ℕ) → FuncNeed → (recursive : Bool) → ℕ × ℕ → Type 0
IsLendableFor p closed f n recursive x = IsLentBy p closed f n x ⊎ ((recursive ≡ true) × IsOwnOf p f x)

-- a local is lendable for what one of the functions does
pub record IsLendableByNeeds (p : Program) (closed : Bool) (ns : List FuncNeed) (x : ℕ × ℕ) : Type 0 where
  pub func : ℕ
  pub there : func < length ns
  pub cause : IsLentBy p closed func (get_or ns func no_need) x ⊎ (Recurs ns func func × IsOwnOf p func x)
