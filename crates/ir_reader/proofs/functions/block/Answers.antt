use Rattle.std.proofs.Common.{◌≡◌, ◌+◌, [], ◌∷◌, Err, arith}
use Rattle.std.proofs.lemmas.Grind.{common_steps}
use Rattle.ir_reader.specs.Machine as expected
use Rattle.ir_reader.specs.Scan.{placed}
use Rattle.ir_reader.proofs.Values.{fails_after}
use Rattle.ir_reader.proofs.Ends.{first_is}
use Rattle.ir_reader.proofs.functions.block.Goals as goal

pub returns-in_err-insts-clause-read : goal.returns-in_err-insts-clause-read
returns-in_err-insts-clause-read c =
    let same : c.from_residual-in_err-insts.result ≡ Err c.in_err-insts.field-0.0 = grind (arith, common_steps) in
    rw same (fails_after (expected.First c.args.before c.args.instructions ∷ []) (expected.Insts (c.args.before + 1) c.args.instructions ∷ []) (placed c.args.text.now) (placed c.in_ok-rest.rest.now) c.in_err-insts.field-0.0
    (λ st. grind (arith, common_steps, first_is c.args.before c.args.instructions st (placed c.args.text.now))) (c.in_err-insts.ensures.read (c.args.before + 1)))

pub returns-clause-read : goal.returns-clause-read
returns-clause-read c =
    let r = c.in_ok-insts.ensures.read (c.args.before + 1) in
    record {
      spelled = let s = r.spelled in grind (arith, common_steps);
      passed = λ st. let p = r.passed st in grind (arith, common_steps, first_is c.args.before c.args.instructions st (placed c.args.text.now));
    }
