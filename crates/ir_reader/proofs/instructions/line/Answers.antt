use Rattle.std.proofs.Common.{◌≡◌, ◌∷◌}
use Rattle.std.proofs.lemmas.Grind.{common_steps}
use Rattle.std.proofs.Common.{arith}
use Rattle.std.proofs.Common.{Err}
use Rattle.ir_model.specs.Tokens.{Key}
use Rattle.ir_model.specs.declared.token.Keyword.TheVariants as key
use Rattle.ir_reader.specs.Found.{Is}
use Rattle.ir_reader.specs.Scan.{placed}
use Rattle.ir_reader.proofs.Values.{ret_fails}
use Rattle.ir_reader.proofs.instructions.line.Goals as goal

pub returns-in_ok-register-in-Key-Ret-clause-read : goal.returns-in_ok-register-in-Key-Ret-clause-read
returns-in_ok-register-in-Key-Ret-clause-read c = λ k.
    let p = c.in_ok-register-in-Key-Ret.ensures k c.args.before in
    record {
      spelled = grind (arith, common_steps, p.spelled);
      passed = λ st. grind (arith, common_steps, p.passed st);
    }

pub returns-in_err-register-in-Key-Ret-clause-read : goal.returns-in_err-register-in-Key-Ret-clause-read
returns-in_err-register-in-Key-Ret-clause-read c =
    let same : c.from_residual-in_err-register-in-Key-Ret.result ≡ Err c.in_err-register-in-Key-Ret.field-0.0 = grind (arith, common_steps) in
    let e : placed c.args.text.now ≡ record { found = Is (Key key.Ret); left = c.lex-left.result.1 } ∷ placed c.lex-left.result.2.now = grind (arith, common_steps) in
    rw same (λ k. ret_fails c.lex-left.result.1 c.args.before k (placed c.args.text.now) (placed c.lex-left.result.2.now) c.in_err-register-in-Key-Ret.field-0.0 e (c.in_err-register-in-Key-Ret.ensures))
