use Rattle.std.proofs.Common.{◌≡◌, Ok, Err, true, false, ap, sym, ◌∙◌, arith}
use Rattle.std.specs.Fmt.{decimal}
use Rattle.std.proofs.lemmas.Fmt.{parse-decimal}
use Rattle.aces_words.proofs.numbers.number.Goals as goal

pub returns-in_default-clause-none : goal.returns-in_default-clause-none
returns-in_default-clause-none c n h e =
    let r : c.parse.result ≡ Ok n = parse-decimal 32 n c.args.word.now c.parse.result h (omega arith) (sym e) c.parse.ensures.value.0 in
    let f : Ok n ≡ Err c.in_default.field-0 = sym r ∙ c.in_default.is in cc

pub returns-else-spells-clause-none : goal.returns-else-spells-clause-none
returns-else-spells-clause-none c n h e =
    let r : c.parse.result ≡ Ok n = parse-decimal 32 n c.args.word.now c.parse.result h (omega arith) (sym e) c.parse.ensures.value.0 in
    let s : Ok c.in-Ok.number ≡ Ok n = sym c.in-Ok.is ∙ r in
    let same : n ≡ c.in-Ok.number = cc in
    let t : c.spells.result ≡ true = c.spells.ensures.1 (c.as_bytes.ensures.value ∙ sym e ∙ ap decimal same) in
    let f : false ≡ true = sym c.if-spells.false ∙ t in cc
