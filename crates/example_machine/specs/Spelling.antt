-- Beyond the program's claim: only laws, proofs and functions inside the tool cite this file.
-- Canonical texts, line by line.
use Rattle.std.specs.Prelude.{◌≡◌, ◌++◌, ℕ, List, [], ◌∷◌, length, map, flat_map, Option, Some, None, true, codes}
use Rattle.std.specs.Fmt.{decimal}
use Rattle.ir_model.specs.declared.firmware.BinOp.TheVariants.{Add}
use Rattle.ir_model.specs.declared.firmware.CmpOp.TheVariants.{Slt}
use Rattle.ir_model.specs.declared.firmware.Inst.TheVariants as inst
use Rattle.ir_model.specs.declared.firmware.Term.TheVariants.{Jump, Branch, Ret}
use Rattle.ir_model.specs.declared.firmware.Cell.TheVariants.{Word, Function, Address}
use Rattle.ir_model.specs.declared.token.TextLimit.TheVariants as limit
use Rattle.ir_model.specs.Types.{PlainType, U8, U16, U32, Pointer, Array, Named, Callee, none, more, nothing, gives}
use Rattle.ir_model.specs.Plain.{PlainFunc}
use Rattle.ir_model.specs.Tokens.{Marked}
use Rattle.ir_model.specs.declared.token.Excess.{Excess}
use Rattle.ir_model.specs.declared.token.Excess.TheVariants.{Passes, TooWide}
use Rattle.ir_model.specs.Lines.{type_tokens, periph_line, global_line, inst_line}
use Rattle.ir_model.specs.Canonical.{canonical, line_bytes}
use Rattle.example_machine.specs.Written.{binding, struct, periph, global, block, func, file, firmware, only_main}

abbrev pub lines : List (List ℕ) → List ℕ
lines ls = flat_map (λ (l : List ℕ). l ++ 10 ∷ []) ls

-- each form without a number
abbrev pub each_form : PlainFunc
each_form =
    func (codes "f") (binding (codes "a") U32 ∷ binding (codes "p") (Pointer U8) ∷ []) (gives U32)
    (binding (codes "x") (Pointer (Named (codes "S"))) ∷ [])
    (binding (codes "h") (Callee (more U32 (more (Pointer U8) none)) (gives U32)) ∷ binding (codes "k") (Callee none nothing) ∷ [])
    (block (codes "one")
    (inst.Move (codes "a") (codes "b")
    ∷ inst.Bin Add (codes "a") (codes "b") (codes "c")
    ∷ inst.Cmp Slt (codes "a") (codes "b") (codes "c")
    ∷ inst.Addr (codes "a") (codes "b")
    ∷ inst.FAddr (codes "a") (codes "b")
    ∷ inst.Elem (codes "a") (codes "b") (codes "c")
    ∷ inst.Field (codes "a") (codes "b") (codes "c")
    ∷ inst.Load (codes "a") (codes "b")
    ∷ inst.Store (codes "a") (codes "b")
    ∷ inst.Call (Some (codes "a")) (codes "b") (codes "c" ∷ codes "d" ∷ [])
    ∷ inst.Call None (codes "b") []
    ∷ inst.ICall (Some (codes "a")) (codes "b") []
    ∷ inst.ICall None (codes "b") (codes "c" ∷ [])
    ∷ [])
    (Jump (codes "two"))
    ∷ block (codes "two") [] (Branch (codes "a") (codes "one") (codes "two"))
    ∷ block (codes "three") [] (Ret (Some (codes "a")))
    ∷ [])

-- what the tokens of a type pass
abbrev pub passed : PlainType → List (Option Excess)
passed t = map (λ (m : Marked). m.excess) (type_tokens None 0 t)

pub record ComputesSpelling : Type 0 where
  pub shortest : canonical (only_main [] [] [] [] []) ≡ lines (codes "file m {" ∷ codes "func main ( ) {" ∷ codes "b0 :" ∷ codes "ret" ∷ codes "}" ∷ codes "}" ∷ [])
  pub shortest_length : length (canonical (only_main [] [] [] [] [])) ≡ 38
  pub nothing_at_all : canonical (firmware [] [] [] []) ≡ []
  pub each_line : canonical
      (firmware (struct (codes "S") (binding (codes "a") U16 ∷ binding (codes "b") (Pointer (Named (codes "S"))) ∷ []) ∷ [])
      []
      (record (global (codes "c") U8 []) { constant = true }
      ∷ global (codes "d") U32 []
      ∷ global (codes "e") (Pointer U32) (Address (codes "d") ∷ [])
      ∷ global (codes "t") (Callee none nothing) (Function (codes "g") ∷ [])
      ∷ [])
      (file (codes "m.c") [] ∷ file (codes "n.c") (each_form ∷ []) ∷ []))
      ≡ lines
      (codes "struct S { a : u16 , b : * S }"
      ∷ codes "const global c : u8"
      ∷ codes "global d : u32"
      ∷ codes "global e : * u32 = { addr d }"
      ∷ codes "global t : fn ( ) = { fn g }"
      ∷ codes "file m.c {"
      ∷ codes "}"
      ∷ codes "file n.c {"
      ∷ codes "func f ( a : u32 , p : * u8 ) -> u32 {"
      ∷ codes "local x : * S"
      ∷ codes "reg h : fn ( u32 , * u8 ) -> u32"
      ∷ codes "reg k : fn ( )"
      ∷ codes "one :"
      ∷ codes "a = b"
      ∷ codes "a = add b , c"
      ∷ codes "a = slt b , c"
      ∷ codes "a = addr b"
      ∷ codes "a = faddr b"
      ∷ codes "a = elem b , c"
      ∷ codes "a = field b , c"
      ∷ codes "a = load b"
      ∷ codes "store a , b"
      ∷ codes "a = call b ( c , d )"
      ∷ codes "call b ( )"
      ∷ codes "a = icall b ( )"
      ∷ codes "icall b ( c )"
      ∷ codes "jump two"
      ∷ codes "two :"
      ∷ codes "branch a one two"
      ∷ codes "three :"
      ∷ codes "ret a"
      ∷ codes "}"
      ∷ codes "}"
      ∷ [])
  -- each form with a number
  pub periph_text : line_bytes (periph_line 0 (periph (codes "P") 0x40000000 32)) ≡ codes "periph P " ++ (decimal 0x40000000 ++ (32 ∷ decimal 32 ++ (10 ∷ [])))
  pub array_text : line_bytes (global_line 0 (global (codes "c") (Array 2 U8) (Word 1 ∷ Word 0 ∷ [])))
      ≡ codes "global c : [ " ++ (decimal 2 ++ (codes " ] u8 = { " ++ (decimal 1 ++ (codes " , " ++ (decimal 0 ++ (codes " }" ++ (10 ∷ [])))))))
  pub number_text : line_bytes (inst_line None (inst.Const (codes "a") 0xFFFFFFFF)) ≡ codes "a = " ++ (decimal 0xFFFFFFFF ++ (10 ∷ []))
  -- eight types in one another, and nine
  pub depth_eight : passed (Pointer (Pointer (Pointer (Pointer (Pointer (Pointer (Pointer U8))))))) ≡ None ∷ None ∷ None ∷ None ∷ None ∷ None ∷ None ∷ None ∷ []
  pub depth_nine : passed (Pointer (Pointer (Pointer (Pointer (Pointer (Pointer (Pointer (Pointer U8))))))))
      ≡ None ∷ None ∷ None ∷ None ∷ None ∷ None ∷ None ∷ None ∷ Some (Passes limit.Depth) ∷ []
  -- the length of an array stands in brackets, and is a limit's only where it is no more than 32 bits
  pub longest_array : passed (Array 65536 U8) ≡ None ∷ None ∷ None ∷ None ∷ []
  pub array_too_long : passed (Array 65537 U8) ≡ None ∷ Some (Passes limit.Array) ∷ None ∷ None ∷ []
  pub empty_array : passed (Array 0 U8) ≡ None ∷ Some (Passes limit.Array) ∷ None ∷ None ∷ []
  pub array_too_wide : passed (Array 0x100000000 U8) ≡ None ∷ Some TooWide ∷ None ∷ None ∷ []
  -- the fifth parameter
  pub fifth_parameter : passed (Callee (more U8 (more U8 (more U8 (more U8 (more (Pointer U8) none))))) nothing)
      ≡ None ∷ None ∷ None ∷ None ∷ None ∷ None ∷ None ∷ None ∷ None ∷ None ∷ Some (Passes limit.Param) ∷ None ∷ None ∷ []
