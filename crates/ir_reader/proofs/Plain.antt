-- The lines of a firmware without their marks are its spelling.
use Rattle.std.proofs.Common.{◌≡◌, [], ◌∷◌, ◌++◌, List, refl, sym, ap, ◌∙◌, map}
use Rattle.ir_model.specs.Plain.{PlainFirmware}
use Rattle.ir_model.specs.Lines.{Line, lines_of}
use Rattle.ir_model.specs.Texts.{joined, tokens}
use Rattle.ir_grammar.specs.Spelling.{spell_firmware}
use Rattle.ir_grammar.proofs.Spelled.{behind, whole, wholes, firmware_put}
use Rattle.ir_reader.specs.Found.{Is, End}
use Rattle.ir_reader.specs.Spelling.{Spelling, as_found}
use Rattle.ir_reader.proofs.Theorem.{text_of}

abbrev found : Line → Spelling
found ms = map Is (tokens ms)

found_append : (a b : Line) → found (a ++ b) ≡ found a ++ found b
found_append [] b = refl
found_append (m ∷ ms) b = ap (λ z. Is m.token ∷ z) (found_append ms b)

behind_found : (ms : Line) → behind as_found ms [] ≡ found ms
behind_found [] = refl
behind_found (m ∷ ms) = ap (λ z. Is m.token ∷ z) (behind_found ms)

whole_found : (l : Line) → whole as_found l ≡ found l
whole_found [] = refl
whole_found (m ∷ ms) = ap (λ z. Is m.token ∷ z) (behind_found ms)

wholes_found : (ls : List Line) → wholes as_found ls ≡ found (joined ls)
wholes_found [] = refl
wholes_found (l ∷ ls) = rw (whole_found l, wholes_found ls) (sym (found_append l (joined ls)))

-- the tokens of a firmware and the end of its text
pub firmware_plain : (w : PlainFirmware) → text_of (joined (lines_of w)) ≡ spell_firmware as_found w
firmware_plain w = ap (λ z. z ++ End ∷ []) (sym (wholes_found (lines_of w))) ∙ firmware_put as_found w
