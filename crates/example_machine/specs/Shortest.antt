-- Beyond the program's claim: only laws, proofs and functions inside the tool cite this file.
-- The shortest firmware that is typed has one function, which returns.
use Rattle.std.specs.Prelude.{[], ◌∷◌, None, codes}
use Rattle.ir_model.specs.declared.firmware.Term.TheVariants.{Ret}
use Rattle.ir_model.specs.declared.firmware.Firmware.{Firmware}
use Rattle.ir_model.specs.Plain.{firmware_of}
use Rattle.ir_model.specs.Canonical.{IsWithinLimits}
use Rattle.ir_model.specs.Typing.{IsTyped}

abbrev pub shortest : Firmware
shortest =
    record {
      structs = [];
      periphs = [];
      globals = [];
      files = record {
        name = codes "m";
        funcs = record {
          name = codes "main";
          params = [];
          «result» = None;
          locals = [];
          regs = [];
          blocks = record { label = codes "b0"; insts = []; term = Ret None } ∷ [];
        } ∷ [];
      } ∷ [];
    }

pub record ComputesShortest : Type 0 where
  pub typed : IsTyped (firmware_of shortest)
  pub within : IsWithinLimits (firmware_of shortest)
