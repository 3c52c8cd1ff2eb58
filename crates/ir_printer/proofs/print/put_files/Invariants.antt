use Rattle.std.proofs.Common.{◌≡◌, ◌++◌, take, map, flat_map}
use Rattle.ir_model.specs.Plain.{file_of}
use Rattle.ir_grammar.specs.Spelling.{spell_file}
use Rattle.ir_printer.specs.Pieces.{as_bytes}
use Rattle.ir_printer.proofs.print.put_files.Given as goal

abbrev pub invariant-loop-file : goal.invariant-loop-file
invariant-loop-file l = l.out.items ≡ l.initial.out.items ++ flat_map (spell_file as_bytes) (map file_of (take l.file-index l.files))
