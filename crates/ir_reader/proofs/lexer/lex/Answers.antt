use Rattle.ir_reader.proofs.Scanning.{begins_from}
use Rattle.ir_reader.proofs.lexer.lex.Goals as goal

pub returns-clause-begins : goal.returns-clause-begins
returns-clause-begins c =
    let t = c.token-len.ensures in
    begins_from c.args.text.now c.skip-text.result.now c.split_at.result.1.now c.token-len.result.0 c.token-len.result.1
    c.skip-text.ensures.same c.skip-text.ensures.starts t.token t.len t.some c.split_at.ensures.back t.goes_on
