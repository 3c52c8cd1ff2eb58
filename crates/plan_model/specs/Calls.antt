-- The calls of a program: where they stand, which functions they may go to, and which functions reach which by calls.
use Rattle.std.specs.Prelude.{◌≡◌, ℕ, suc, List, [], ◌∷◌, length}
use Rattle.std.specs.List.{flat_map}
use Rattle.std.specs.Ordering.{nat_cmp}
use Rattle.ir_model.specs.Resolved.{Program, NumberedInst, Call, ICall, func_at, block_at, here}
use Rattle.ir_laws.specs.Sets.{ObjectSets, CallsAt}
use Rattle.plan_model.specs.declared.needs.SiteNeed.{SiteNeed}
use Rattle.plan_model.specs.Lists.{ListsExactly, numbers_below}

-- ---- where calls stand

-- a function, a block of it, and the place among the instructions of that block
pub record CallPlace : Type 0 where
  pub func : ℕ
  pub block : ℕ
  pub inst : ℕ

-- the calls among instructions that stand from a place on
abbrev pub calls_from : (func block inst : ℕ) → List NumberedInst → List CallPlace
calls_from f b k [] = []
calls_from f b k (Call to g args ∷ is) = record { func = f; block = b; inst = k } ∷ calls_from f b (suc k) is
calls_from f b k (ICall to r args ∷ is) = record { func = f; block = b; inst = k } ∷ calls_from f b (suc k) is
calls_from f b k (_ ∷ is) = calls_from f b (suc k) is

-- those of one function, block by block
abbrev pub calls_of : Program → (func : ℕ) → List CallPlace
calls_of p f = flat_map (λ (b : ℕ). calls_from f b 0 (block_at p f b).insts) (numbers_below (length (func_at p f).blocks))

-- all calls and indirect calls of a program, in the order of the text
abbrev pub call_places : Program → List CallPlace
call_places p = flat_map (calls_of p) (numbers_below (length p.funcs))

-- ---- where they go

-- the call at a place, with the functions that it may go to
pub record IsSiteOf (p : Program) (S : ObjectSets) (c : CallPlace) (s : SiteNeed) : Type 0 where
  pub func : s.func ≡ c.func
  pub block : s.block ≡ c.block
  pub inst : s.inst ≡ c.inst
  pub targets : ListsExactly nat_cmp (CallsAt p S c.func (here p c.func c.block c.inst)) s.targets

-- a call of function f may go to g
abbrev pub IsCallee : Program → ObjectSets → (f g : ℕ) → Type 0
IsCallee p S f g = (b : ℕ) × (k : ℕ) × CallsAt p S f (here p f b k) g

-- f may come to g by one call or more
pub data Reaches (p : Program) (S : ObjectSets) : (f g : ℕ) → Type 0 where
  directly : {f g : ℕ} → IsCallee p S f g → Reaches p S f g
  further : {f g h : ℕ} → IsCallee p S f g → Reaches p S g h → Reaches p S f h
