-- The firmware of a seed and a size.
use Rattle.std.specs.Prelude.{ℕ, ◌+◌, ◌*◌, ◌%◌, min, List, [], ◌∷◌, ◌++◌, map, codes, false, nat_eq, if◌then◌else◌}
use Rattle.std.specs.List.{range_with_len}
use Rattle.ir_model.specs.declared.firmware.Peripheral.{Peripheral}
use Rattle.ir_model.specs.Types.{U32}
use Rattle.ir_model.specs.Plain.{PlainGlobal, PlainFunc, PlainFile, PlainFirmware}
use Rattle.ir_generator.specs.declared.choices.Choice.{Choice}
use Rattle.ir_generator.specs.Choices.{choices}
use Rattle.ir_generator.specs.Names.{port_name, global_name, file_name}
use Rattle.ir_generator.specs.Functions.{main, test_func, support}

abbrev pub port : ℕ → Peripheral
port k = record { name = port_name k; base = 0x40000000 + 0x10000 * k; size = 1024 }

abbrev pub global : ℕ → PlainGlobal
global n = record { name = global_name n; constant = false; ty = U32; init = [] }

-- how many files hold the functions that are drawn
abbrev pub file_count : ℕ
file_count = 16

-- a function stands in the file that has its number modulo 16
abbrev pub held_here : (number file : ℕ) → Choice → List PlainFunc
held_here n j c = if nat_eq (n % file_count) j then test_func n c.body ∷ [] else []

-- the functions of a file, from the function of this number on
abbrev pub held_from : (number file : ℕ) → List Choice → List PlainFunc
held_from n j [] = []
held_from n j (c ∷ cs) = held_here n j c ++ held_from (n + 1) j cs

abbrev pub test_file : List Choice → ℕ → PlainFile
test_file cs j = record { name = file_name j; funcs = held_from 0 j cs }

abbrev pub main_file : (size : ℕ) → PlainFile
main_file size = record { name = codes "m.c"; funcs = main size ∷ [] }

abbrev pub support_file : PlainFile
support_file = record { name = codes "s.c"; funcs = support ∷ [] }

-- the firmware, by what its functions do
abbrev pub firmware_by : (size : ℕ) → List Choice → PlainFirmware
firmware_by size cs =
    record {
      structs = [];
      periphs = map port (range_with_len 0 4);
      globals = map global (range_with_len 0 size);
      files = main_file size ∷ map (test_file cs) (range_with_len 0 (min size file_count)) ++ support_file ∷ [];
    }

abbrev pub made : (seed size : ℕ) → PlainFirmware
made seed size = firmware_by size (choices seed size size)
