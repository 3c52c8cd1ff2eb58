use Rattle.std.proofs.Common.{◌≡◌, [], ◌∷◌, Some, IsUtf8, arith}
use Rattle.std.proofs.lemmas.Grind.{common_steps}
use Rattle.ir_model.specs.Plain.{firmware_of}
use Rattle.ir_reader.specs.Machine.{fault, Structs}
use Rattle.ir_reader.specs.Parts.{AllHaveBlocks}
use Rattle.ir_reader.specs.Reading.{Passes, HasFields}
use Rattle.ir_reader.specs.Scan.{placed}
use Rattle.ir_grammar.specs.Spelling.{spell_firmware}
use Rattle.ir_reader.specs.Spelling.{as_found}
use Rattle.ir_reader.proofs.Lefts.{fault_in}
use Rattle.ir_reader.proofs.Texts.{text_from}
use Rattle.ir_reader.proofs.reader.read_utf8.Goals as goal

pub placed_fault-requires-clause-within : goal.placed_fault-requires-clause-within
placed_fault-requires-clause-within c =
    let f : fault (Structs 0 ∷ []) (placed c.args.text.now) ≡ Some c.in-Err-Fault.fault = grind (arith, common_steps) in
    fault_in c.args.text.now (Structs 0 ∷ []) c.in-Err-Fault.fault f

pub returns-in-Ok-clause-found : goal.returns-in-Ok-clause-found
returns-in-Ok-clause-found c =
    let utf8 : IsUtf8 c.args.text.now = grind (arith, common_steps) in
    let fields : HasFields (firmware_of c.in-Ok.firmware).structs = grind (arith, common_steps) in
    let blocks : AllHaveBlocks (firmware_of c.in-Ok.firmware).files = grind (arith, common_steps) in
    let read : Passes [] (spell_firmware as_found) (Structs 0 ∷ []) [] (placed c.args.text.now) [] (firmware_of c.in-Ok.firmware) = grind (arith, common_steps) in
    text_from c.args.text.now (firmware_of c.in-Ok.firmware) utf8 fields blocks read
