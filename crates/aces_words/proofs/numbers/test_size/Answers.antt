use Rattle.std.proofs.Common.{◌≡◌, sym, ◌∙◌, arith}
use Rattle.std.proofs.lemmas.Fmt.{decimal_injective}
use Rattle.aces_words.proofs.numbers.test_size.Goals as goal

pub returns-in_default-clause-none : goal.returns-in_default-clause-none
returns-in_default-clause-none c n least most e =
    let found = c.in_ok-size.size in
    let fits = c.in_ok-size.ensures.fits in
    let same : n ≡ found = decimal_injective n found (omega (arith, most)) (omega (arith, fits)) (e ∙ sym c.in_ok-size.ensures.number) in
    let other = c.in_default in
    omega (arith, same, least, most, other)

pub returns-in_default-2-clause-none : goal.returns-in_default-2-clause-none
returns-in_default-2-clause-none c n least most e =
    let found = c.in_ok-size.size in
    let fits = c.in_ok-size.ensures.fits in
    let same : n ≡ found = decimal_injective n found (omega (arith, most)) (omega (arith, fits)) (e ∙ sym c.in_ok-size.ensures.number) in
    let other = c.in_default in
    omega (arith, same, least, most, other)
