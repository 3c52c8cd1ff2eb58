use Rattle.std.proofs.Common.{◌≡◌, ◌<◌, ◌+◌, [], ◌∷◌, length, Err, arith}
use Rattle.std.proofs.lemmas.Grind.{common_steps}
use Rattle.ir_reader.specs.Machine as expected
use Rattle.ir_reader.specs.Parts.{file_rest}
use Rattle.ir_reader.specs.Scan.{placed}
use Rattle.ir_model.proofs.NoExcess.{counted_none}
use Rattle.ir_reader.proofs.Separated.{each_push}
use Rattle.ir_reader.proofs.Values.{fails_after}
use Rattle.ir_reader.proofs.functions.files.Goals as goal

pub returns-in_err-left-clause-read : goal.returns-in_err-left-clause-read
returns-in_err-left-clause-read c =
    let same : c.from_residual.result ≡ Err c.in_err-left.field-0.0 = grind (arith, common_steps) in
    rw same (fails_after (expected.Files 0 0 ∷ []) (expected.Files (length c.loop-files.files.items) c.loop-files.functions ∷ []) (placed c.args.text.now) (placed c.loop-files.rest.now) c.in_err-left.field-0.0
    c.loop-files.invariant.passed (c.in_err-left.ensures (length c.loop-files.files.items) c.loop-files.functions))

pub returns-in_err-next-clause-read : goal.returns-in_err-next-clause-read
returns-in_err-next-clause-read c =
    let same : c.from_residual-in_err-next.result ≡ Err c.in_err-next.field-0.0 = grind (arith, common_steps) in
    let n : length c.loop-files.files.items < 1024 = grind (arith, common_steps, counted_none) in
    rw same (fails_after (expected.Files 0 0 ∷ []) (file_rest (length c.loop-files.files.items + 1) c.loop-files.functions) (placed c.args.text.now) (placed c.in-Some.behind.now) c.in_err-next.field-0.0
    (λ st. let q = c.loop-files.invariant.passed st in grind (arith, common_steps)) (c.in_err-next.ensures.read (length c.loop-files.files.items + 1)))

pub loop-files-preserved : goal.loop-files-preserved
loop-files-preserved c =
    let r = c.in_ok-next.ensures.read (length c.loop-files.files.items + 1) in
    let n : length c.loop-files.files.items < 1024 = grind (arith, common_steps, counted_none) in
    record {
      spelled = let s = r.spelled in let i = c.loop-files.invariant.spelled in grind (arith, common_steps);
      passed = λ st. let p = r.passed st in let q = c.loop-files.invariant.passed st in grind (arith, common_steps);
      limit = grind (arith, common_steps);
      functions = grind (arith, common_steps);
      blocks = grind (arith, common_steps, each_push);
    }
