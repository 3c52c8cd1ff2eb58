use Rattle.std.proofs.Common.{◌≡◌, ◌<◌, [], ◌∷◌, ◌++◌, map, length, arith, false, ◌∙◌}
use Rattle.std.proofs.lemmas.Grind.{common_steps}
use Rattle.ir_model.specs.declared.token.Keyword.TheVariants as key
use Rattle.ir_model.specs.declared.token.Mark.TheVariants as mark
use Rattle.ir_model.specs.Types.{type_of}
use Rattle.ir_reader.specs.Found.{finds}
use Rattle.ir_reader.specs.Machine.{Gives}
use Rattle.ir_reader.specs.Reading.{mark_first}
use Rattle.ir_reader.specs.Scan.{placed}
use Rattle.ir_grammar.specs.Spelling.{spell_type}
use Rattle.ir_reader.specs.Spelling.{Name, Key, Sign, as_found}
use Rattle.ir_reader.specs.Fronts.{front}
use Rattle.ir_grammar.proofs.Separated.{spell_types}
use Rattle.ir_reader.proofs.Ends.{row_ends}
use Rattle.ir_model.proofs.NoExcess.{counted_none}
use Rattle.ir_reader.proofs.Separated.{read_more, read_closed}
use Rattle.ir_reader.proofs.types.+types.Goals as goal

pub row-loop-behind-preserved : goal.row-loop-behind-preserved
row-loop-behind-preserved t c =
    let before = c.loop-behind.types.items in
    let pushed : c.push-in-Some-behind_mark.new.self.items ≡ c.loop-behind.types.items ++ c.in_ok-next.next ∷ [] = grind (arith, common_steps) in
    let comma : finds (placed c.loop-behind.rest.now) ≡ Sign mark.Comma ∷ finds (placed c.in-Some-behind_mark.behind.now) = grind (arith, common_steps) in
    let below : length c.loop-behind.types.items < 4 = grind (arith, common_steps, counted_none) in
    record {
      spelled = rw pushed (read_more (spell_type as_found) type_of c.loop-behind.types.items c.in_ok-next.next _ _ _ _ c.loop-behind.invariant.some c.loop-behind.invariant.spelled comma (c.in_ok-next.ensures.read.spelled));
      passed = λ st. grind (arith, common_steps);
      some = grind (arith, common_steps);
      limit = grind (arith, common_steps);
    }

pub row-returns : goal.row-returns
row-returns t c =
    let none : mark_first mark.Comma (placed c.loop-behind.rest.now) ≡ false = grind (arith, common_steps) in
    record {
      spelled = rw (spell_types as_found (map type_of c.loop-behind.types.items)) (read_closed _ _ _ _ (Sign mark.Close ∷ []) c.loop-behind.invariant.spelled c.in_ok-rest.ensures.spelled);
      passed = λ st. c.loop-behind.invariant.passed st ∙ (row_ends c.args.around (length c.loop-behind.types.items) st (placed c.loop-behind.rest.now) none ∙ c.in_ok-rest.ensures.passed (Gives c.args.around ∷ st));
    }

pub ty-returns-in-Mark-Star-clause-read : goal.ty-returns-in-Mark-Star-clause-read
ty-returns-in-Mark-Star-clause-read t c =
    let e : placed c.args.text.now ≡ front (Sign mark.Star) c.lex-left.result.1 (placed c.lex-left.result.2.now) = grind (arith, common_steps) in
    rw e c.pointer.ensures.read

pub ty-returns-in-Mark-OpenSquare-clause-read : goal.ty-returns-in-Mark-OpenSquare-clause-read
ty-returns-in-Mark-OpenSquare-clause-read t c =
    let e : placed c.args.text.now ≡ front (Sign mark.OpenSquare) c.lex-left.result.1 (placed c.lex-left.result.2.now) = grind (arith, common_steps) in
    rw e c.array.ensures.read

pub ty-returns-in-Key-Fn-clause-read : goal.ty-returns-in-Key-Fn-clause-read
ty-returns-in-Key-Fn-clause-read t c =
    let e : placed c.args.text.now ≡ front (Key key.Fn) c.lex-left.result.1 (placed c.lex-left.result.2.now) = grind (arith, common_steps) in
    rw e c.function.ensures.read

pub ty-returns-in-Name-clause-read : goal.ty-returns-in-Name-clause-read
ty-returns-in-Name-clause-read t c =
    let e : placed c.args.text.now ≡ front (Name c.in-Name.word.now) c.lex-left.result.1 (placed c.lex-left.result.2.now) = grind (arith, common_steps) in
    rw e c.named.ensures.read
