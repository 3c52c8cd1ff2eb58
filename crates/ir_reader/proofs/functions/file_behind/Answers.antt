use Rattle.std.proofs.Common.{◌≡◌, [], ◌∷◌, Err, arith}
use Rattle.std.proofs.lemmas.Grind.{common_steps}
use Rattle.ir_reader.specs.Machine as expected
use Rattle.ir_reader.specs.Scan.{placed}
use Rattle.ir_reader.proofs.Values.{fails_after}
use Rattle.ir_reader.specs.Parts.{file_rest}
use Rattle.ir_reader.proofs.functions.file_behind.Goals as goal

pub returns-in_err-funcs-clause-read : goal.returns-in_err-funcs-clause-read
returns-in_err-funcs-clause-read c =
    let same : c.from_residual-in_err-funcs.result ≡ Err c.in_err-funcs.field-0.0 = grind (arith, common_steps) in
    rw same (λ k. fails_after (file_rest k c.args.functions) (expected.Funcs k c.args.functions ∷ []) (placed c.args.text.now) (placed c.in_ok-rest.rest.now) c.in_err-funcs.field-0.0
    (λ st. grind (arith, common_steps)) (c.in_err-funcs.ensures.read k))

pub returns-clause-read : goal.returns-clause-read
returns-clause-read c = λ k.
    let r = c.in_ok-funcs.ensures.read k in
    record {
      spelled = let s = r.spelled in grind (arith, common_steps);
      passed = λ st. let p = r.passed st in grind (arith, common_steps);
    }
