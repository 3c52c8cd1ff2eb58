use Rattle.std.proofs.Common.{◌≡◌, ◌<◌, [], ◌∷◌, ◌++◌, length, arith, false, ◌∙◌}
use Rattle.std.proofs.lemmas.Grind.{common_steps}
use Rattle.ir_model.specs.declared.token.Mark.TheVariants as mark
use Rattle.ir_model.specs.Plain.{binding_of}
use Rattle.ir_reader.specs.Found.{finds}
use Rattle.ir_reader.specs.Reading.{mark_first}
use Rattle.ir_reader.specs.Scan.{placed}
use Rattle.ir_grammar.specs.Spelling.{spell_binding}
use Rattle.ir_reader.specs.Spelling.{Sign, as_found}
use Rattle.ir_reader.proofs.Ends.{fields_end}
use Rattle.ir_model.proofs.NoExcess.{counted_none}
use Rattle.ir_reader.proofs.Separated.{read_more, read_closed}
use Rattle.ir_reader.proofs.bindings.fields.Goals as goal

pub loop-behind-preserved : goal.loop-behind-preserved
loop-behind-preserved c =
    let pushed : c.push-in-Some.new.self.items ≡ c.loop-behind.fields.items ++ c.in_ok-next.next ∷ [] = grind (arith, common_steps) in
    let comma : finds (placed c.loop-behind.rest.now) ≡ Sign mark.Comma ∷ finds (placed c.in-Some.behind.now) = grind (arith, common_steps) in
    let below : length c.loop-behind.fields.items < 64 = grind (arith, common_steps, counted_none) in
    record {
      spelled = rw pushed (read_more (spell_binding as_found) binding_of c.loop-behind.fields.items c.in_ok-next.next _ _ _ _ c.loop-behind.invariant.some c.loop-behind.invariant.spelled comma (c.in_ok-next.ensures.read.spelled));
      passed = λ st. grind (arith, common_steps);
      some = grind (arith, common_steps);
      limit = grind (arith, common_steps);
    }

pub returns-clause-read : goal.returns-clause-read
returns-clause-read c =
    let none : mark_first mark.Comma (placed c.loop-behind.rest.now) ≡ false = grind (arith, common_steps) in
    record {
      spelled = read_closed _ _ _ _ (Sign mark.CloseBrace ∷ []) c.loop-behind.invariant.spelled c.in_ok-rest.ensures.spelled;
      passed = λ st. c.loop-behind.invariant.passed st ∙ (fields_end (length c.loop-behind.fields.items) st (placed c.loop-behind.rest.now) none ∙ c.in_ok-rest.ensures.passed (st));
    }
