use Rattle.std.proofs.Common.{◌∙◌, sym, string_bytes, Global, arith}
use Rattle.aces_words.proofs.Words.{named, word_then, no_more, word_at}
use Rattle.aces_words.proofs.command.selftest_of.Goals as goal

pub returns-in_err-seed-in-len3-clause-none : goal.returns-in_err-seed-in-len3-clause-none
returns-in_err-seed-in-len3-clause-none c =
    rw c.from_residual.ensures (λ seed size asks. c.in_err-seed-in-len3.ensures.none seed asks.within.0
    (word_at (string_bytes {Z = Global}) 1 c.args.words.now c.seed-item.result _ _ (omega (arith, c.in-len3.len_at_least)) c.seed-item.is c.as_str-in-len3.ensures.value asks.spelled))

pub returns-in_err-size-in-len3-clause-none : goal.returns-in_err-size-in-len3-clause-none
returns-in_err-size-in-len3-clause-none c =
    rw c.from_residual-in_err-size-in-len3.ensures (λ seed size asks. c.in_err-size-in-len3.ensures.none size asks.within.1 asks.within.2
    (word_at (string_bytes {Z = Global}) 2 c.args.words.now c.size-item.result _ _ (omega (arith, c.in-len3.len_at_least)) c.size-item.is c.as_str-in-len3-2.ensures.value asks.spelled))

pub returns-in_ok-size-in-len3-clause-command : goal.returns-in_ok-size-in-len3-clause-command
returns-in_ok-size-in-len3-clause-command c = record {
  within = (c.in_ok-seed-in-len3.ensures.fits, c.in_ok-size-in-len3.ensures.least, c.in_ok-size-in-len3.ensures.most);
  spelled = word_then (string_bytes {Z = Global}) 0 c.args.words.now c.name-item.result _ _ (omega (arith, c.in-len3.len_at_least)) c.name-item.is (named (string_bytes {Z = Global}) c.name-item.result c.as_str.result.now _ c.as_str.ensures.value (sym c.eq.ensures ∙ c.if-eq.true))
      (word_then (string_bytes {Z = Global}) 1 c.args.words.now c.seed-item.result _ _ (omega (arith, c.in-len3.len_at_least)) c.seed-item.is (c.in_ok-seed-in-len3.ensures.number ∙ c.as_str-in-len3.ensures.value)
      (word_then (string_bytes {Z = Global}) 2 c.args.words.now c.size-item.result _ _ (omega (arith, c.in-len3.len_at_least)) c.size-item.is (c.in_ok-size-in-len3.ensures.size ∙ c.as_str-in-len3-2.ensures.value)
      (no_more (string_bytes {Z = Global}) 3 c.args.words.now (omega (arith, c.in-len3.len_below)))));
}
