-- Beyond the program's claim: only laws, proofs and functions inside the tool cite this file.
-- Instructions, block ends, globals, peripherals and functions of the code as the definition's, and how many cells they have.
use Rattle.std.specs.Prelude.{ℕ, List, length, map}
use Rattle.ir_model.specs.Types.{type_of}
use Rattle.ir_model.specs.Plain.{func_of}
use Rattle.ir_model.specs.Layout.{Known, Shape, shape}
use Rattle.ir_model.specs.Resolve.{row_from, filled}
use Rattle.ir_model.specs.Resolved as plain
use Rattle.ir_model.specs.Resolved.{NumberedInst, NumberedTerm, NumberedBlock, NumberedGlobal, NumberedWindow, NumberedFunc}
use Rattle.ir_program.specs.declared.program.Target.{Target}
use Rattle.ir_program.specs.declared.program.Target.TheVariants as target
use Rattle.ir_program.specs.declared.program.Operation.{Operation}
use Rattle.ir_program.specs.declared.program.Operation.TheVariants as operation
use Rattle.ir_program.specs.declared.program.Exit.{Exit}
use Rattle.ir_program.specs.declared.program.Exit.TheVariants as exit
use Rattle.ir_program.specs.declared.program.Sequence.{Sequence}
use Rattle.ir_program.specs.declared.program.Storage.{Storage}
use Rattle.ir_program.specs.declared.program.Variable.{Variable}
use Rattle.ir_program.specs.declared.program.Span.{Span}
use Rattle.ir_program.specs.declared.program.Routine.{Routine}
use Rattle.ir_program.specs.Values.{value_of}
use Rattle.ir_program.specs.Storages.{pointee_of, shape_of}

abbrev pub target_of : Target → plain.Named
target_of (target.Global g) = plain.TheGlobal g
target_of (target.Periph p) = plain.ThePeriph p
target_of (target.Local l) = plain.TheLocal l

abbrev pub operation_of : List Known → Operation → NumberedInst
operation_of ks (operation.Const to v) = plain.Const to v
operation_of ks (operation.Move to from) = plain.Move to from
operation_of ks (operation.Bin op to a b) = plain.Bin op to a b
operation_of ks (operation.Cmp op to a b) = plain.Cmp op to a b
operation_of ks (operation.Addr to of) = plain.Addr to (target_of of)
operation_of ks (operation.FAddr to f) = plain.FAddr to f
operation_of ks (operation.Elem to base index t) = plain.Elem to base index (shape ks (pointee_of t)).size
operation_of ks (operation.Field to base offset) = plain.Field to base offset
operation_of ks (operation.Load to from t) = plain.Load to from (pointee_of t)
operation_of ks (operation.Store to from t) = plain.Store to from (pointee_of t)
operation_of ks (operation.Call to f args) = plain.Call to f args
operation_of ks (operation.ICall to f args) = plain.ICall to f args

abbrev pub exit_of : Exit → NumberedTerm
exit_of (exit.Jump b) = plain.Jump b
exit_of (exit.Branch on a b) = plain.Branch on a b
exit_of (exit.Ret v) = plain.Ret v

abbrev pub sequence_of : List Known → Sequence → NumberedBlock
sequence_of ks s = record { insts = map (operation_of ks) s.operations; term = exit_of s.exit }

-- behind the first values that are kept, the cells hold 0 or null
abbrev pub variable_of : List Known → Variable → NumberedGlobal
variable_of ks v =
    let it : Shape = shape_of ks v.storage in
    record { constant = v.constant; shape = it; init = filled it.cells (map value_of v.init) }

abbrev pub span_of : Span → NumberedWindow
span_of w = record { base = w.base; size = w.size }

abbrev pub routine_of : List Known → Routine → NumberedFunc
routine_of ks r =
    record {
      params = row_from (func_of r.source.now).params;
      outcome = (func_of r.source.now).outcome;
      regs = map (λ t. type_of t.now) r.registers;
      locals = map (shape_of ks) r.locals;
      blocks = map (sequence_of ks) r.blocks;
    }

-- how many cells there are of a global, and of each local, by their types
abbrev pub cell_count : NumberedGlobal → ℕ
cell_count g = length g.shape.cells

abbrev pub cell_counts : NumberedFunc → List ℕ
cell_counts f = map (λ (s : Shape). length s.cells) f.locals

-- how many the code keeps
abbrev pub global_count : Variable → ℕ
global_count v = v.storage.cells

abbrev pub local_counts : Routine → List ℕ
local_counts r = map (λ (s : Storage). s.cells) r.locals
