-- The canonical text is the spelling of the firmware, in bytes.
use Rattle.std.proofs.Common.{◌≡◌, [], ◌∷◌, ◌++◌, List, refl, sym, ap, ◌∙◌, flat_map, append-nil}
use Rattle.ir_model.specs.Plain.{PlainFirmware}
use Rattle.ir_model.specs.Tokens.{Marked, token_bytes}
use Rattle.ir_model.specs.Lines.{Line, lines_of}
use Rattle.ir_model.specs.Canonical.{line_bytes, canonical}
use Rattle.ir_grammar.specs.Spelling.{spell_firmware}
use Rattle.ir_grammar.proofs.Spelled.{whole, wholes, firmware_put}
use Rattle.ir_printer.specs.Pieces.{first, next, as_bytes}

line_behind : (m : Marked) (ms : Line) → line_bytes (m ∷ ms) ≡ whole as_bytes (m ∷ ms)
unfolding first next
line_behind m [] = refl
line_behind m (n ∷ ms) = ap (λ z. token_bytes m.token ++ 32 ∷ z) (line_behind n ms)

line_is : (l : Line) → line_bytes l ≡ whole as_bytes l
line_is [] = refl
line_is (m ∷ ms) = line_behind m ms

lines_are : (ls : List Line) → flat_map line_bytes ls ≡ wholes as_bytes ls
lines_are [] = refl
lines_are (l ∷ ls) = rw (line_is l, lines_are ls) refl

pub canonical_spelled : (w : PlainFirmware) → canonical w ≡ spell_firmware as_bytes w
unfolding canonical
canonical_spelled w = lines_are (lines_of w) ∙ (sym (append-nil (wholes as_bytes (lines_of w))) ∙ firmware_put as_bytes w)
