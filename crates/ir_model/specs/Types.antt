-- Types as plain data, without places in memory, and when two are equal.
use Rattle.std.specs.Prelude.{ℕ, List, [], ◌∷◌, Option, Some, None, Box, Bool, true, false, ◌&&◌, nat_eq, bytes_eq}
use Rattle.std.specs.Global.{Global}
use Rattle.ir_model.specs.declared.types.Ty as code

mutual
  pub data PlainType : Type 0 where
    U8 : PlainType
    U16 : PlainType
    U32 : PlainType
    Pointer : (target : PlainType) → PlainType
    Array : (count : ℕ) → (element : PlainType) → PlainType
    Named : (name : List ℕ) → PlainType
    Callee : (params : PlainTypes) → (result : PlainResult) → PlainType

  pub data PlainTypes : Type 0 where
    none : PlainTypes
    more : PlainType → PlainTypes → PlainTypes

  pub data PlainResult : Type 0 where
    nothing : PlainResult
    gives : PlainType → PlainResult

abbrev mutual
  pub type_of : code.Ty → PlainType
  type_of code.U8 = U8
  type_of code.U16 = U16
  type_of code.U32 = U32
  type_of (code.Ptr' p t) = Pointer (type_of t)
  type_of (code.Array' n p t) = Array n (type_of t)
  type_of (code.Named n) = Named n
  type_of (code.Callee' s r h) = Callee (row_of r) (held_of h)

  pub row_of : {m : _} → code.Row_of-Ty m → PlainTypes
  row_of code.end_of-Ty = none
  row_of (code.more_of-Ty t r) = more (type_of t) (row_of r)

  pub held_of : code.Held-Signature-result → PlainResult
  held_of code.None' = nothing
  held_of (code.Some' p t) = gives (type_of t)

abbrev pub boxed_result_of : Option (Box code.Ty Global) → PlainResult
boxed_result_of None = nothing
boxed_result_of (Some b) = gives (type_of b.value)

abbrev pub result_of : Option code.Ty → PlainResult
result_of None = nothing
result_of (Some t) = gives (type_of t)

abbrev pub types_from : List PlainType → PlainTypes
types_from [] = none
types_from (t ∷ ts) = more t (types_from ts)

-- equal types: structs by their names
abbrev mutual
  pub same : PlainType → PlainType → Bool
  same U8 U8 = true
  same U16 U16 = true
  same U32 U32 = true
  same (Pointer t) (Pointer u) = same t u
  same (Array n t) (Array m u) = nat_eq n m && same t u
  same (Named a) (Named b) = bytes_eq a b
  same (Callee a r) (Callee b s) = same_row a b && same_result r s
  same _ _ = false

  pub same_row : PlainTypes → PlainTypes → Bool
  same_row none none = true
  same_row (more t a) (more u b) = same t u && same_row a b
  same_row _ _ = false

  pub same_result : PlainResult → PlainResult → Bool
  same_result nothing nothing = true
  same_result (gives t) (gives u) = same t u
  same_result _ _ = false

abbrev pub is_integer : PlainType → Bool
is_integer U8 = true
is_integer U16 = true
is_integer U32 = true
is_integer _ = false

-- the types of registers
abbrev pub is_register_type : PlainType → Bool
is_register_type U32 = true
is_register_type (Pointer _) = true
is_register_type (Callee _ _) = true
is_register_type _ = false

-- how many bytes an integer, a pointer or a function's address has
abbrev pub width_of : PlainType → ℕ
width_of U8 = 1
width_of U16 = 2
width_of _ = 4

-- what a pointer type points to, and what its elements are
abbrev pub target_of : PlainType → PlainType
target_of (Pointer t) = t
target_of _ = U32

abbrev pub element_of : PlainType → PlainType
element_of (Array n t) = t
element_of t = t
