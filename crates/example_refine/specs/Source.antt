-- Beyond the program's claim: only laws, proofs and functions inside the tool cite this file.
-- The firmware of two compartments as a source.
use Rattle.std.specs.Prelude.{◌≡◌, [], ◌∷◌, false, None, codes}
use Rattle.ir_model.specs.declared.firmware.Cell.TheVariants.{Word}
use Rattle.ir_model.specs.declared.firmware.Inst.TheVariants as inst
use Rattle.ir_model.specs.declared.firmware.Term.TheVariants.{Ret}
use Rattle.ir_model.specs.Types.{U32, Pointer, nothing}
use Rattle.ir_model.specs.Plain.{PlainFunc, PlainFirmware}
use Rattle.ir_model.specs.Resolve.{resolve}
use Rattle.ir_model.specs.Canonical.{IsWithinLimits}
use Rattle.ir_model.specs.Typing.{IsTyped}
use Rattle.example_refine.specs.TwoCompartments.{program}

abbrev pub main : PlainFunc
main = record {
  name = codes "main";
  params = [];
  outcome = nothing;
  locals = record { name = codes "x"; ty = U32 } ∷ [];
  regs = record { name = codes "p"; ty = Pointer U32 } ∷ record { name = codes "v"; ty = U32 } ∷ [];
  blocks = record {
    label = codes "b0";
    insts = inst.Addr (codes "p") (codes "x") ∷ inst.Call None (codes "writer") (codes "p" ∷ []) ∷ inst.Load (codes "v") (codes "p") ∷ [];
    term = Ret None;
  } ∷ [];
}

abbrev pub writer : PlainFunc
writer = record {
  name = codes "writer";
  params = record { name = codes "p"; ty = Pointer U32 } ∷ [];
  outcome = nothing;
  locals = [];
  regs = record { name = codes "q"; ty = Pointer U32 } ∷ record { name = codes "v"; ty = U32 } ∷ record { name = codes "t"; ty = Pointer U32 } ∷ [];
  blocks = record {
    label = codes "b0";
    insts = inst.Addr (codes "q") (codes "gain")
        ∷ inst.Load (codes "v") (codes "q")
        ∷ inst.Store (codes "p") (codes "v")
        ∷ inst.Addr (codes "t") (codes "TIM")
        ∷ inst.Store (codes "t") (codes "v")
        ∷ [];
    term = Ret None;
  } ∷ [];
}

abbrev pub firmware : PlainFirmware
firmware = record {
  structs = [];
  periphs = record { name = codes "TIM"; base = 0x40010000; size = 128 } ∷ [];
  globals = record { name = codes "gain"; constant = false; ty = U32; init = Word 7 ∷ [] } ∷ [];
  files = record { name = codes "first"; funcs = main ∷ [] } ∷ record { name = codes "second"; funcs = writer ∷ [] } ∷ [];
}

pub record IsItsSource : Type 0 where
  pub typed : IsTyped firmware
  pub within : IsWithinLimits firmware
  pub numbered : resolve firmware ≡ program
