-- Beyond the program's claim: only laws, proofs and functions inside the tool cite this file.
-- Two functions that call each other across compartments: where their frames stand on a stack of 2,048 bytes.
use Rattle.std.specs.Prelude.{◌≡◌, ℕ, List, [], ◌∷◌, false, None}
use Rattle.ir_model.specs.Types.{PlainTypes, PlainType, U32, none, more, nothing}
use Rattle.ir_model.specs.Resolved.{Program, NumberedFunc, Call, Ret}
use Rattle.ir_laws.specs.Moves.{Where}
use Rattle.plan_model.specs.declared.needs.Needs.{Needs}
use Rattle.plan_model.specs.declared.groups.Groups.{Groups}
use Rattle.refine_model.specs.StackLimit.{position, limit_by, site_of, HaveRoom}
use Rattle.example_plan.specs.Written.{need, site}

-- a function of so many registers that calls another by its first instruction
abbrev pub calling : PlainTypes → List PlainType → (callee : ℕ) → NumberedFunc
calling params regs callee =
    record {
      params = params;
      outcome = nothing;
      regs = regs;
      locals = [];
      blocks = record { insts = Call None callee (0 ∷ []) ∷ []; term = Ret None } ∷ [];
    }

-- `main` and pong stand in one file, ping in the other
abbrev pub program : Program
program =
    record {
      globals = [];
      periphs = [];
      funcs = calling none (U32 ∷ []) 2 ∷ calling (more U32 none) (U32 ∷ U32 ∷ []) 2 ∷ calling (more U32 none) (U32 ∷ U32 ∷ []) 1 ∷ [];
      files = 0 ∷ 0 ∷ 1 ∷ [];
      main = 0;
    }

abbrev pub needs : Needs
needs =
    record {
      funcs = need [] [] [] (2 ∷ []) ∷ need [] [] [] (2 ∷ []) ∷ need [] [] [] (1 ∷ []) ∷ [];
      sites = site 0 0 0 (2 ∷ []) ∷ site 1 0 0 (2 ∷ []) ∷ site 2 0 0 (1 ∷ []) ∷ [];
      lendable = [];
      closed = false;
    }

abbrev pub groups : Groups
groups = record { of = 0 ∷ 0 ∷ 1 ∷ []; count = 2 }

-- a frame that waits at its function's call
abbrev pub waits : (func number : ℕ) → Where
waits f n = record { func = f; block = 0; place = 0; number = n }

-- `main`, and up to seven crossings above it
abbrev pub one : List Where
one = waits 0 0 ∷ []

abbrev pub two : List Where
two = waits 2 1 ∷ one

abbrev pub three : List Where
three = waits 1 2 ∷ two

abbrev pub eight : List Where
eight = waits 2 7 ∷ waits 1 6 ∷ waits 2 5 ∷ waits 1 4 ∷ waits 2 3 ∷ three

-- frames of 8 and of 16 bytes; each crossing takes 32 bytes and what is left of an eighth, which is 256 bytes. The eighth
-- crossing finds no eighth left
pub record ComputesPositions : Type 0 where
  pub first : position program needs groups 2048 one ≡ 2040
  pub second : position program needs groups 2048 two ≡ 1776
  pub third : position program needs groups 2048 three ≡ 1520
  pub last : position program needs groups 2048 eight ≡ 240
  pub room : HaveRoom program needs groups 2048 eight
  pub beyond : limit_by program needs groups 2048 (site_of program needs groups 2048 eight) 240 ≡ 0
