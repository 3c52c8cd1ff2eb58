-- What `check` prints.
use Rattle.std.specs.Prelude.{ℕ, List, length}
use Rattle.ir_model.specs.Plain.{PlainFirmware, funcs_of}
use Rattle.machine_lines.specs.Lines as lines

-- how many functions, globals and peripherals a firmware has
abbrev pub count_line : PlainFirmware → List ℕ
count_line w = lines.count_line (length (funcs_of w)) (length w.globals) (length w.periphs)
