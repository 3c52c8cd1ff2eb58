-- Beyond the program's claim: only laws, proofs and functions inside the tool cite this file.
-- What globals and locals are made of, and types that may be missing.
use Rattle.std.specs.Prelude.{List, Option, Some, None}
use Rattle.std.specs.Borrow.{Bor}
use Rattle.ir_model.specs.declared.types.Ty as types
use Rattle.ir_model.specs.Types.{PlainType, U32, type_of}
use Rattle.ir_model.specs.Layout.{Known, Shape, shape}
use Rattle.ir_program.specs.declared.program.Storage.{Storage}

-- a type that may be missing: then it is u32
abbrev pub pointee_of : Option (Bor types.Ty) → PlainType
pointee_of None = U32
pointee_of (Some t) = type_of t.now

-- size and alignment stand in the code, and the cells are those of the type
abbrev pub shape_of : List Known → Storage → Shape
shape_of ks s = record { size = s.size; align = s.align; cells = (shape ks (type_of s.ty.now)).cells }
