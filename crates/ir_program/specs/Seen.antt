-- Beyond the program's claim: only laws, proofs and functions inside the tool cite this file.
-- A program of the code as the definition's program.
use Rattle.std.specs.Prelude.{List, map}
use Rattle.ir_model.specs.Plain.{struct_of}
use Rattle.ir_model.specs.Layout.{Known, known}
use Rattle.ir_model.specs.Resolved as plain
use Rattle.ir_program.specs.declared.program.Program as programs
use Rattle.ir_program.specs.Parts.{variable_of, span_of, routine_of}

-- the structs of a program, laid out
abbrev pub known_of : programs.Program → List Known
known_of p = known (map struct_of p.layouts)

abbrev pub program_of : programs.Program → plain.Program
program_of p =
    record {
      globals = map (variable_of (known_of p)) p.globals;
      periphs = map span_of p.periphs;
      funcs = map (routine_of (known_of p)) p.funcs;
      files = p.files;
      main = p.main;
    }
