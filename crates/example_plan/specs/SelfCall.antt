-- Beyond the program's claim: only laws, proofs and functions inside the tool cite this file.
-- A function that calls itself, so that its local is lendable though no other function reaches it; and a constant, which it
-- reads and, as it has no right to, stores to.
use Rattle.std.specs.Prelude.{zero, [], ◌∷◌, true, false, None}
use Rattle.ir_model.specs.declared.object.ObjId.TheVariants.{Global}
use Rattle.ir_model.specs.Types.{U32, Pointer, none, nothing}
use Rattle.ir_model.specs.Layout.{one_cell}
use Rattle.ir_model.specs.Resolved.{Program, NumberedFunc, Number, Addr, Load, Store, Call, TheGlobal, Ret}
use Rattle.ir_model.specs.State.{GlobalObject}
use Rattle.ir_laws.specs.Sets.{ObjectSets, Register}
use Rattle.plan_model.specs.declared.needs.Needs.{Needs}
use Rattle.plan_model.specs.PointsTo.{IsLeast}
use Rattle.plan_model.specs.Needs.{AreNeeds}
use Rattle.example_plan.specs.Written.{need, site}

abbrev pub main : NumberedFunc
main =
    record {
      params = none;
      outcome = nothing;
      regs = Pointer U32 ∷ U32 ∷ [];
      locals = one_cell 4 U32 ∷ [];
      blocks = record {
        insts = Addr 0 (TheGlobal 0) ∷ Load 1 0 U32 ∷ Store 0 1 U32 ∷ Call None 0 [] ∷ [];
        term = Ret None;
      } ∷ [];
    }

abbrev pub program : Program
program =
    record {
      globals = record { constant = true; shape = one_cell 4 U32; init = Number 7 ∷ [] } ∷ [];
      periphs = [];
      funcs = main ∷ [];
      files = 0 ∷ [];
      main = 0;
    }

-- the pointer has the constant
abbrev pub sets : ObjectSets
sets (Register zero zero) (GlobalObject zero) = true
sets _ _ = false

-- a constant is not written
abbrev pub needs : Needs
needs =
    record {
      funcs = need [] (Global 0 ∷ []) [] (0 ∷ []) ∷ [];
      sites = site 0 0 3 (0 ∷ []) ∷ [];
      lendable = (0, 0) ∷ [];
      closed = false;
    }

pub record HasSelfCall : Type 0 where
  pub least : IsLeast program sets
  pub needs_by_them : AreNeeds program sets false needs
