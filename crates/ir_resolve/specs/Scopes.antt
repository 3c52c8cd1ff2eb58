-- Beyond the program's claim: only laws, proofs and functions inside the tool cite this file.
-- Names with their numbers as the definition's.
use Rattle.std.specs.Prelude.{◌≡◌, ◌≤◌, List, map, length}
use Rattle.std.specs.List.{All}
use Rattle.std.specs.Borrow.{Bor}
use Rattle.ir_model.specs.declared.firmware.Func.{Func}
use Rattle.ir_model.specs.declared.firmware.Global.{Global}
use Rattle.ir_model.specs.declared.firmware.Binding.{Binding}
use Rattle.ir_model.specs.declared.types.Ty.{Ty}
use Rattle.ir_model.specs.Types.{type_of}
use Rattle.ir_model.specs.Plain.{PlainFunc, struct_of, func_of, names_of, types_of, regs_of}
use Rattle.ir_model.specs.Layout.{Known, known, shape}
use Rattle.ir_model.specs.TextLimits.{periph_limit, global_limit, function_limit, local_limit}
use Rattle.ir_model.specs.FewItems.{HasFewLocals}
use Rattle.ir_model.specs.Typing.{object_limit}
use Rattle.ir_model.specs.Resolve as resolving
use Rattle.ir_model.specs.Resolve.{labels_of}
use Rattle.ir_resolve.specs.declared.names.Scope as code
use Rattle.ir_resolve.specs.declared.names.FuncNames.{FuncNames}

abbrev pub scope_of : code.Scope → resolving.Scope
scope_of s = record { known = known (map struct_of s.layouts); globals = s.globals; periphs = s.periphs; funcs = s.funcs }

-- the function whose names these are
abbrev pub named_func : FuncNames → PlainFunc
named_func t = func_of t.source.now

-- names that are those of their function
pub record AreFuncNames (t : FuncNames) : Type 0 where
  pub registers : t.registers ≡ names_of (regs_of (named_func t))
  pub types : map (λ u. type_of u.now) t.types ≡ types_of (regs_of (named_func t))
  pub locals : t.locals ≡ names_of (named_func t).locals
  pub few : length t.locals ≤ local_limit
  pub labels : t.labels ≡ labels_of (named_func t)

-- names that are as few as the limits of a text allow
pub record AreFew (s : code.Scope) : Type 0 where
  pub funcs : length s.funcs ≤ function_limit
  pub globals : length s.globals ≤ global_limit
  pub periphs : length s.periphs ≤ periph_limit

-- a type of which an object may be
abbrev pub IsSmall : List Known → Ty → Type 0
IsSmall ks t = (shape ks (type_of t)).size ≤ object_limit

abbrev pub AreSmallGlobals : List Known → List Global → Type 0
AreSmallGlobals ks gs = All (λ (g : Global). IsSmall ks g.ty) gs

abbrev pub AreSmallBindings : List Known → List Binding → Type 0
AreSmallBindings ks ss = All (λ (s : Binding). IsSmall ks s.ty) ss

-- a function with few locals, and small ones
pub record IsSmallFunc (ks : List Known) (f : Func) : Type 0 where
  pub few : HasFewLocals f
  pub small : AreSmallBindings ks f.locals

abbrev pub AreSmallFuncs : List Known → List (Bor Func) → Type 0
AreSmallFuncs ks fs = All (λ (f : Bor Func). IsSmallFunc ks f.now) fs
