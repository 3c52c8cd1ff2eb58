-- How the value of a register is told: a number, nothing, a function, or an object with an offset in bytes.
use Rattle.std.specs.Prelude.{ℕ, List, ◌++◌, codes, nat_lt, if◌then◌else◌}
use Rattle.std.specs.Fmt.{decimal}
use Rattle.machine_lines.specs.Lines.{hexadecimal}
use Rattle.ir_model.specs.Plain.{PlainFirmware}
use Rattle.ir_model.specs.Resolved.{OfGlobal, OfPeriph, OfLocal, Value, Number, Code, Null, At}
use Rattle.plan_report.specs.Names.{global_name, periph_name, func_name, local_name}

-- the offset in a peripheral's window has four digits, as in the lines of events; one that is larger than any window has eight
abbrev pub port_digits : (offset : ℕ) → ℕ
port_digits k = if nat_lt k 65536 then 4 else 8

abbrev pub port_text : (offset : ℕ) → List ℕ
port_text k = codes " 0x" ++ hexadecimal (port_digits k) k

-- the offset as a number of bytes behind the first
abbrev pub behind_text : (offset : ℕ) → List ℕ
behind_text k = codes " " ++ decimal k

abbrev pub global_text : PlainFirmware → (global offset : ℕ) → List ℕ
global_text w g k = codes " global " ++ global_name w g ++ behind_text k

abbrev pub periph_text : PlainFirmware → (periph offset : ℕ) → List ℕ
periph_text w q k = codes " periph " ++ periph_name w q ++ port_text k

-- the address of a local's byte, of whatever frame
abbrev pub local_text : PlainFirmware → (func local offset : ℕ) → List ℕ
local_text w f l k = codes " local " ++ func_name w f ++ codes "." ++ local_name w f l ++ behind_text k

abbrev pub value_text : PlainFirmware → Value → List ℕ
value_text w (Number n) = codes " 0x" ++ hexadecimal 8 n
value_text w Null = codes " null"
value_text w (Code f) = codes " func " ++ func_name w f
value_text w (At (OfGlobal g) k) = global_text w g k
value_text w (At (OfPeriph q) k) = periph_text w q k
value_text w (At (OfLocal f n l) k) = local_text w f l k
