-- The first fault of bytes, in the words of texts.
use Rattle.std.specs.Prelude.{ℕ, List, Result, Ok, Err}
use Rattle.ir_model.specs.declared.firmware.Firmware.{Firmware}
use Rattle.ir_model.specs.declared.token.Excess.TheVariants as excess
use Rattle.ir_model.specs.Texts.{SyntaxAt, PassesAt, NotUtf8At}
use Rattle.ir_reader.specs.declared.fault.TextFault.{TextFault}
use Rattle.ir_reader.specs.declared.fault.TextFault.TheVariants as text

-- the fault that is named is the first of the bytes
abbrev pub IsFirst : List ℕ → TextFault → Type 0
IsFirst bytes (text.Utf8 at) = NotUtf8At bytes at
IsFirst bytes (text.Syntax pos) = SyntaxAt bytes pos
IsFirst bytes (text.NumberTooWide pos) = PassesAt bytes excess.TooWide pos
IsFirst bytes (text.Limit which pos) = PassesAt bytes (excess.Passes which) pos
IsFirst bytes text.NoMemory = Unit {0}

-- read, unless memory runs out
abbrev pub IsAccepted : Result Firmware TextFault → Type 0
IsAccepted (Ok x) = Unit {0}
IsAccepted (Err text.NoMemory) = Unit {0}
IsAccepted (Err (text.Utf8 at)) = ⊥
IsAccepted (Err (text.Syntax pos)) = ⊥
IsAccepted (Err (text.NumberTooWide pos)) = ⊥
IsAccepted (Err (text.Limit which pos)) = ⊥
