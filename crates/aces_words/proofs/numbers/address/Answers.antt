use Rattle.std.proofs.Common.{◌≡◌, true, false, sym, ◌∙◌, ap}
use Rattle.aces_words.specs.Requests.{address_of, value_of}
use Rattle.aces_words.proofs.Addresses.{signed, unsigned}
use Rattle.aces_words.proofs.numbers.address.Goals as goal

pub returns-then-is_signed : goal.returns-then-is_signed
returns-then-is_signed c =
    let h = c.is_signed.ensures.0 c.if-is_signed.true in
    sym (signed c.as_bytes-digits.result.now h.0 h.1) ∙ ap address_of c.as_bytes-digits.ensures.value

pub returns-else-is_signed : goal.returns-else-is_signed
returns-else-is_signed c =
    c.value.ensures ∙ ap value_of c.read_numeral.ensures
    ∙ unsigned c.as_bytes-digits.result.now (λ h. let f : false ≡ true = sym c.if-is_signed.false ∙ c.is_signed.ensures.1 h in cc)
    ∙ ap address_of c.as_bytes-digits.ensures.value
