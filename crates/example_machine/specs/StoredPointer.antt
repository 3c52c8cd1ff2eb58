-- Beyond the program's claim: only laws, proofs and functions inside the tool cite this file.
-- A firmware that stores a pointer through a pointer and loads it again, and sets of objects for it.
use Rattle.std.specs.Prelude.{zero, suc, [], ◌∷◌, true, false, None, codes}
use Rattle.ir_model.specs.declared.firmware.Inst.TheVariants as inst
use Rattle.ir_model.specs.declared.firmware.Term.TheVariants.{Ret}
use Rattle.ir_model.specs.Types.{U32, Pointer, nothing}
use Rattle.ir_model.specs.Plain.{PlainFunc, PlainFirmware}
use Rattle.ir_model.specs.Resolve.{resolve}
use Rattle.ir_model.specs.State.{GlobalObject}
use Rattle.ir_model.specs.Canonical.{IsWithinLimits}
use Rattle.ir_model.specs.Typing.{IsTyped}
use Rattle.ir_laws.specs.Sets.{ObjectSets, Register, Content, Closed}

abbrev pub stored_main : PlainFunc
stored_main =
    record {
      name = codes "main";
      params = [];
      outcome = nothing;
      locals = [];
      regs = record { name = codes "a"; ty = Pointer (Pointer U32) } ∷ record { name = codes "b"; ty = Pointer U32 } ∷ record { name = codes "c"; ty = Pointer U32 } ∷ [];
      blocks = record {
        label = codes "b0";
        insts = inst.Addr (codes "a") (codes "slot")
            ∷ inst.Addr (codes "b") (codes "x")
            ∷ inst.Store (codes "a") (codes "b")
            ∷ inst.Load (codes "c") (codes "a")
            ∷ [];
        term = Ret None;
      } ∷ [];
    }

abbrev pub stored : PlainFirmware
stored =
    record {
      structs = [];
      periphs = [];
      globals = record { name = codes "slot"; constant = false; ty = Pointer U32; init = [] } ∷ record { name = codes "x"; constant = false; ty = U32; init = [] } ∷ [];
      files = record { name = codes "m"; funcs = stored_main ∷ [] } ∷ [];
    }

-- register a has `slot`; b, c and the contents of `slot` have `x`; nothing else has an object
abbrev pub stored_sets : ObjectSets
stored_sets (Register zero zero) (GlobalObject zero) = true
stored_sets (Register zero (suc zero)) (GlobalObject (suc zero)) = true
stored_sets (Register zero (suc (suc zero))) (GlobalObject (suc zero)) = true
stored_sets (Content (GlobalObject zero)) (GlobalObject (suc zero)) = true
stored_sets _ _ = false

-- so what the laws of runs ask for can be met, also by sets that do not have every object
pub record MeetsLaws : Type 0 where
  pub typed : IsTyped stored
  pub within : IsWithinLimits stored
  pub closed : Closed (resolve stored) stored_sets
