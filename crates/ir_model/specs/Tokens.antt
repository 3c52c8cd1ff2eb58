-- Tokens of a firmware text, and their spelling.
use Rattle.std.specs.Prelude.{ℕ, List, codes, Option}
use Rattle.std.specs.Fmt.{decimal}
use Rattle.base_names.specs.declared.reserved.TheConstants as reserved
use Rattle.ir_model.specs.declared.firmware.BinOp.{BinOp}
use Rattle.ir_model.specs.declared.firmware.BinOp.TheVariants.{Add, Sub, Mul, Udiv, Sdiv, Urem, Srem, And, Or, Xor, Bic, Shl, Shr, Sar}
use Rattle.ir_model.specs.declared.firmware.CmpOp.{CmpOp}
use Rattle.ir_model.specs.declared.firmware.CmpOp.TheVariants.{Eq, Ne, Ult, Ule, Slt, Sle}
use Rattle.ir_model.specs.declared.token.Keyword.{Keyword}
use Rattle.ir_model.specs.declared.token.Keyword.TheVariants as key
use Rattle.ir_model.specs.declared.token.Mark.{Mark}
use Rattle.ir_model.specs.declared.token.Mark.TheVariants as mark
use Rattle.ir_model.specs.declared.token.Excess.{Excess}

pub data Token : Type 0 where
  Name : (word : List ℕ) → Token
  Number : (n : ℕ) → Token
  Key : (word : Keyword) → Token
  Operation : (op : BinOp) → Token
  Comparison : (op : CmpOp) → Token
  Sign : (mark : Mark) → Token

-- a token, and what it passes if it does
pub record Marked : Type 0 where
  pub token : Token
  pub excess : Option Excess

abbrev pub keyword_bytes : Keyword → List ℕ
keyword_bytes key.Struct = reserved.STRUCT.now
keyword_bytes key.Periph = reserved.PERIPH.now
keyword_bytes key.Const = reserved.CONST.now
keyword_bytes key.Global = reserved.GLOBAL.now
keyword_bytes key.File = reserved.FILE.now
keyword_bytes key.Func = reserved.FUNC.now
keyword_bytes key.Local = reserved.LOCAL.now
keyword_bytes key.Reg = reserved.REG.now
keyword_bytes key.Addr = reserved.ADDR.now
keyword_bytes key.Faddr = reserved.FADDR.now
keyword_bytes key.Elem = reserved.ELEM.now
keyword_bytes key.Field = reserved.FIELD.now
keyword_bytes key.Load = reserved.LOAD.now
keyword_bytes key.Store = reserved.STORE.now
keyword_bytes key.Call = reserved.CALL.now
keyword_bytes key.Icall = reserved.ICALL.now
keyword_bytes key.Jump = reserved.JUMP.now
keyword_bytes key.Branch = reserved.BRANCH.now
keyword_bytes key.Ret = reserved.RET.now
keyword_bytes key.Fn = reserved.FN.now
keyword_bytes key.U8 = reserved.U8.now
keyword_bytes key.U16 = reserved.U16.now
keyword_bytes key.U32 = reserved.U32.now

abbrev pub operation_bytes : BinOp → List ℕ
operation_bytes Add = reserved.ADD.now
operation_bytes Sub = reserved.SUB.now
operation_bytes Mul = reserved.MUL.now
operation_bytes Udiv = reserved.UDIV.now
operation_bytes Sdiv = reserved.SDIV.now
operation_bytes Urem = reserved.UREM.now
operation_bytes Srem = reserved.SREM.now
operation_bytes And = reserved.AND.now
operation_bytes Or = reserved.OR.now
operation_bytes Xor = reserved.XOR.now
operation_bytes Bic = reserved.BIC.now
operation_bytes Shl = reserved.SHL.now
operation_bytes Shr = reserved.SHR.now
operation_bytes Sar = reserved.SAR.now

abbrev pub comparison_bytes : CmpOp → List ℕ
comparison_bytes Eq = reserved.EQ.now
comparison_bytes Ne = reserved.NE.now
comparison_bytes Ult = reserved.ULT.now
comparison_bytes Ule = reserved.ULE.now
comparison_bytes Slt = reserved.SLT.now
comparison_bytes Sle = reserved.SLE.now

abbrev pub mark_bytes : Mark → List ℕ
mark_bytes mark.OpenBrace = codes "{"
mark_bytes mark.CloseBrace = codes "}"
mark_bytes mark.Open = codes "("
mark_bytes mark.Close = codes ")"
mark_bytes mark.OpenSquare = codes "["
mark_bytes mark.CloseSquare = codes "]"
mark_bytes mark.Comma = codes ","
mark_bytes mark.Colon = codes ":"
mark_bytes mark.Equal = codes "="
mark_bytes mark.Star = codes "*"
mark_bytes mark.Arrow = codes "->"

-- how a token is written in the canonical text: numbers are decimal and unsigned
abbrev pub token_bytes : Token → List ℕ
token_bytes (Name w) = w
token_bytes (Number n) = decimal n
token_bytes (Key k) = keyword_bytes k
token_bytes (Operation op) = operation_bytes op
token_bytes (Comparison op) = comparison_bytes op
token_bytes (Sign m) = mark_bytes m
