-- Beyond the program's claim: only laws, proofs and functions inside the tool cite this file.
-- What the places of a program ask of sets of objects.
use Rattle.std.specs.Prelude.{◌≡◌, ℕ, Bool, true, false, List, [], ◌∷◌, ◌++◌, length, get_or, Option, Some, None}
use Rattle.std.specs.List.{flat_map}
use Rattle.ir_model.specs.Types.{PlainType}
use Rattle.ir_model.specs.Resolved.{Program, Value, Number, Code, Null, At, NumberedInst, Const, Move, Bin, Cmp, Addr, FAddr, Elem, Field, Load, Store, Call, ICall, NumberedTerm, Jump, Branch, Ret, NumberedBlock, func_at, global_at, register_type}
use Rattle.ir_model.specs.State.{Object, GlobalObject, FunctionObject, object_of}
use Rattle.ir_model.specs.Signatures.{signature}
use Rattle.ir_laws.specs.Sets.{Node, Register, Content, Outcome, ObjectSets, IsWithin, carries, named_object}
use Rattle.plan_model.specs.Lists.{numbers_below}

-- what is asked: that a node has an object; that it is passed on to another; that what the objects of a pointer hold is passed on to a
-- node, or a node to what they hold; that a node is passed on to a parameter of the functions of a pointer, where they are of a type, or what
-- these functions give to a node
pub data Demand : Type 0 where
  HasObject : (node : Node) (object : Object) → Demand
  PassesOn : (from to : Node) → Demand
  LoadsTo : (pointer to : Node) → Demand
  StoresFrom : (pointer from : Node) → Demand
  GivesTo : (pointer : Node) (called : PlainType) (from : Node) (place : ℕ) → Demand
  TakesFrom : (pointer : Node) (called : PlainType) (to : Node) → Demand

-- sets do what is asked
abbrev pub Meets : Program → ObjectSets → Demand → Type 0
Meets p S (HasObject n o) = S n o ≡ true
Meets p S (PassesOn a b) = IsWithin S a b
Meets p S (LoadsTo n to) = (o : Object) → S n o ≡ true → IsWithin S (Content o) to
Meets p S (StoresFrom n from) = (o : Object) → S n o ≡ true → IsWithin S from (Content o)
Meets p S (GivesTo n t from k) = (g : ℕ) → S n (FunctionObject g) ≡ true → signature p g ≡ t → carries (register_type p g k) ≡ true → IsWithin S from (Register g k)
Meets p S (TakesFrom n t to) = (g : ℕ) → S n (FunctionObject g) ≡ true → signature p g ≡ t → IsWithin S (Outcome g) to

-- what is asked only where values carry objects
abbrev pub where_carried : Bool → Demand → List Demand
where_carried true d = d ∷ []
where_carried false d = []

abbrev pub argument_passed : Program → (f g : ℕ) → (args : List ℕ) → ℕ → List Demand
argument_passed p f g args k = where_carried (carries (register_type p g k)) (PassesOn (Register f (get_or args k 0)) (Register g k))

abbrev pub result_passed : Program → (f g : ℕ) → Option ℕ → List Demand
result_passed p f g None = []
result_passed p f g (Some to) = where_carried (carries (register_type p f to)) (PassesOn (Outcome g) (Register f to))

abbrev pub argument_given : Program → (f r : ℕ) → (args : List ℕ) → ℕ → List Demand
argument_given p f r args k = GivesTo (Register f r) (register_type p f r) (Register f (get_or args k 0)) k ∷ []

abbrev pub result_taken : Program → (f r : ℕ) → Option ℕ → List Demand
result_taken p f r None = []
result_taken p f r (Some to) = where_carried (carries (register_type p f to)) (TakesFrom (Register f r) (register_type p f r) (Register f to))

abbrev pub inst_demands : Program → (f : ℕ) → NumberedInst → List Demand
inst_demands p f (Const to n) = []
inst_demands p f (Move to from) = where_carried (carries (register_type p f to)) (PassesOn (Register f from) (Register f to))
inst_demands p f (Bin op to a b) = []
inst_demands p f (Cmp op to a b) = []
inst_demands p f (Addr to of) = HasObject (Register f to) (named_object f of) ∷ []
inst_demands p f (FAddr to g) = HasObject (Register f to) (FunctionObject g) ∷ []
inst_demands p f (Elem to base i n) = PassesOn (Register f base) (Register f to) ∷ []
inst_demands p f (Field to base n) = PassesOn (Register f base) (Register f to) ∷ []
inst_demands p f (Load to from t) = where_carried (carries t) (LoadsTo (Register f from) (Register f to))
inst_demands p f (Store to from t) = where_carried (carries t) (StoresFrom (Register f to) (Register f from))
inst_demands p f (Call to g args) = flat_map (argument_passed p f g args) (numbers_below (length args)) ++ result_passed p f g to
inst_demands p f (ICall to r args) = flat_map (argument_given p f r args) (numbers_below (length args)) ++ result_taken p f r to

abbrev pub end_demands : Program → (f : ℕ) → NumberedTerm → List Demand
end_demands p f (Jump b) = []
end_demands p f (Branch on a b) = []
end_demands p f (Ret None) = []
end_demands p f (Ret (Some r)) = where_carried (carries (register_type p f r)) (PassesOn (Register f r) (Outcome f))

-- what an initial value of a global asks
abbrev pub value_demands : (global : ℕ) → Value → List Demand
value_demands g (Number n) = []
value_demands g (Code f) = HasObject (Content (GlobalObject g)) (FunctionObject f) ∷ []
value_demands g Null = []
value_demands g (At o k) = HasObject (Content (GlobalObject g)) (object_of o) ∷ []

abbrev pub block_demands : Program → (f : ℕ) → NumberedBlock → List Demand
block_demands p f b = flat_map (inst_demands p f) b.insts ++ end_demands p f b.term

abbrev pub func_demands : Program → (f : ℕ) → List Demand
func_demands p f = flat_map (block_demands p f) (func_at p f).blocks

abbrev pub global_demands : Program → (g : ℕ) → List Demand
global_demands p g = flat_map (value_demands g) (global_at p g).init

abbrev pub demands_of : Program → List Demand
demands_of p = flat_map (func_demands p) (numbers_below (length p.funcs)) ++ flat_map (global_demands p) (numbers_below (length p.globals))
