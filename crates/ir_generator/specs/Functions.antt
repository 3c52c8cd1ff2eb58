-- The functions of a generated firmware.
use Rattle.std.specs.Prelude.{ℕ, List, [], ◌∷◌, ◌++◌, map, Option, Some, None, codes}
use Rattle.std.specs.List.{range_with_len}
use Rattle.ir_model.specs.declared.firmware.BinOp.TheVariants as op
use Rattle.ir_model.specs.declared.firmware.Inst.{Inst}
use Rattle.ir_model.specs.declared.firmware.Inst.TheVariants.{Addr, Load, Store, Bin, Call}
use Rattle.ir_model.specs.declared.firmware.Term.TheVariants.{Jump, Ret}
use Rattle.ir_model.specs.declared.firmware.Block.{Block}
use Rattle.ir_model.specs.Types.{U32, Pointer, nothing, gives}
use Rattle.ir_model.specs.Plain.{PlainBinding, PlainFunc}
use Rattle.ir_generator.specs.declared.choices.Body.{Body}
use Rattle.ir_generator.specs.declared.choices.Body.TheVariants.{Adds, Stores, Calls, Lends}
use Rattle.ir_generator.specs.Names.{port_name, global_name, test_name}

-- `n: u32`, and `n: *u32`
abbrev pub word : List ℕ → PlainBinding
word n = record { name = n; ty = U32 }

abbrev pub pointer : List ℕ → PlainBinding
pointer n = record { name = n; ty = Pointer U32 }

abbrev pub block : (label : List ℕ) → List Inst → Option (List ℕ) → Block
block l is v = record { label = l; insts = is; term = Ret v }

-- a block that goes to `b1`
abbrev pub before_b1 : (label : List ℕ) → List Inst → Block
before_b1 l is = record { label = l; insts = is; term = Jump (codes "b1") }

-- adds v to a global
abbrev pub adding : ℕ → List Inst
adding a =
    Addr (codes "p") (global_name a)
    ∷ Load (codes "w") (codes "p")
    ∷ Bin op.Add (codes "w") (codes "w") (codes "v")
    ∷ Store (codes "p") (codes "w")
    ∷ []

-- stores v to a peripheral
abbrev pub storing : ℕ → List Inst
storing a = Addr (codes "p") (port_name a) ∷ Store (codes "p") (codes "v") ∷ []

-- calls `ta` with v
abbrev pub calling : ℕ → List Inst
calling a = Call (Some (codes "w")) (test_name a) (codes "v" ∷ []) ∷ Bin op.Xor (codes "w") (codes "w") (codes "v") ∷ []

-- keeps v in x, and lends x
abbrev pub lending : List Inst
lending =
    Addr (codes "p") (codes "x")
    ∷ Store (codes "p") (codes "v")
    ∷ Call None (codes "s0") (codes "p" ∷ [])
    ∷ Load (codes "v") (codes "p")
    ∷ []

abbrev pub locals_by : Body → List PlainBinding
locals_by (Adds a) = []
locals_by (Stores a) = []
locals_by (Calls a) = []
locals_by Lends = word (codes "x") ∷ []

abbrev pub regs_by : Body → List PlainBinding
regs_by (Adds a) = pointer (codes "p") ∷ word (codes "w") ∷ []
regs_by (Stores a) = pointer (codes "p") ∷ []
regs_by (Calls a) = word (codes "w") ∷ []
regs_by Lends = pointer (codes "p") ∷ []

abbrev pub code_by : Body → List Inst
code_by (Adds a) = adding a
code_by (Stores a) = storing a
code_by (Calls a) = calling a
code_by Lends = lending

-- the register that is returned
abbrev pub value_by : Body → List ℕ
value_by (Adds a) = codes "w"
value_by (Stores a) = codes "v"
value_by (Calls a) = codes "w"
value_by Lends = codes "v"

-- `tn(v: u32) -> u32`
abbrev pub test_with : ℕ → (locals regs : List PlainBinding) → List Block → PlainFunc
test_with n ls rs bs =
    record { name = test_name n; params = word (codes "v") ∷ []; outcome = gives U32; locals = ls; regs = rs; blocks = bs }

abbrev pub test_func : ℕ → Body → PlainFunc
test_func n b = test_with n (locals_by b) (regs_by b) (block (codes "b0") (code_by b) (Some (value_by b)) ∷ [])

abbrev pub doubling : List Inst
doubling =
    Load (codes "w") (codes "p") ∷ Bin op.Add (codes "w") (codes "w") (codes "w") ∷ Store (codes "p") (codes "w") ∷ []

-- `s0(p: *u32)` doubles the word that is lent to it
abbrev pub support : PlainFunc
support =
    record {
      name = codes "s0";
      params = pointer (codes "p") ∷ [];
      outcome = nothing;
      locals = [];
      regs = word (codes "w") ∷ [];
      blocks = block (codes "b0") doubling None ∷ [];
    }

-- `v = call tn(v)`
abbrev pub call_test : ℕ → Inst
call_test n = Call (Some (codes "v")) (test_name n) (codes "v" ∷ [])

abbrev pub beginning : List Inst
beginning = Addr (codes "p") (port_name 0) ∷ Addr (codes "q") (port_name 1) ∷ []

abbrev pub turn : (size : ℕ) → List Inst
turn size = Load (codes "v") (codes "p") ∷ map call_test (range_with_len 0 size) ++ Store (codes "q") (codes "v") ∷ []

-- `main` hands each word of P0 through all functions in order, and then to P1, for ever
abbrev pub main : (size : ℕ) → PlainFunc
main size =
    record {
      name = codes "main";
      params = [];
      outcome = nothing;
      locals = [];
      regs = pointer (codes "p") ∷ pointer (codes "q") ∷ word (codes "v") ∷ [];
      blocks = before_b1 (codes "b0") beginning ∷ before_b1 (codes "b1") (turn size) ∷ [];
    }
