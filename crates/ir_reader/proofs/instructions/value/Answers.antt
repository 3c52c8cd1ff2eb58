use Rattle.std.proofs.Common.{◌≡◌, ◌∷◌, arith}
use Rattle.std.proofs.lemmas.Grind.{common_steps}
use Rattle.ir_model.specs.Tokens.{Key}
use Rattle.ir_reader.specs.Found.{Is}
use Rattle.ir_reader.specs.Scan.{placed}
use Rattle.ir_reader.proofs.Values.{value_from}
use Rattle.ir_reader.proofs.instructions.value.Goals as goal

pub returns-in-Key : goal.returns-in-Key
returns-in-Key c =
    let e : placed c.args.text.now ≡ record { found = Is (Key c.in-Key.word); left = c.lex-left.result.1 } ∷ placed c.lex-left.result.2.now = grind (arith, common_steps) in
    value_from c.args.to c.in-Key.word c.lex-left.result.1 (placed c.args.text.now) c.lex-left.result.2.now placed c.value_of_word.result e c.value_of_word.ensures
