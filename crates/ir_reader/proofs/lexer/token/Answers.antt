use Rattle.std.proofs.Common.{◌≡◌, true}
use Rattle.base_names.specs.Names.{begins_word}
use Rattle.ir_reader.proofs.Scanning.{word_run}
use Rattle.ir_reader.proofs.lexer.token.Goals as goal

pub word-requires : goal.word-requires
word-requires c =
    let h : begins_word c.args.first ≡ true = cc in
    word_run c.args.text.now c.args.first c.args.behind.now c.run_len-len.result c.requires h c.run_len-len.ensures.len
