-- A firmware has its canonical text among its texts.
use Rattle.std.proofs.Common.{List, [], ◌∷◌, flat_map}
use Rattle.std.proofs.lemmas.Str.{IsUtf8-from_ascii}
use Rattle.ir_model.specs.Plain.{PlainFirmware}
use Rattle.ir_model.specs.Tokens.{Token, Name, Number, Key, Operation, Comparison, Sign, Marked}
use Rattle.ir_model.specs.Lines.{Line, lines_of}
use Rattle.ir_model.specs.Canonical.{PassesNothing, IsProper, line_bytes, canonical, IsWithinLimits}
use Rattle.base_laws.specs.Lists.{Each}
use Rattle.ir_model.specs.Texts.{IsText}
use Rattle.ir_model.proofs.NoExcess.{IsNarrow}
use Rattle.ir_text_laws.proofs.Spelled.{AreSpelled, token_spelled, lines_lead, lines_ascii}
use Rattle.ir_text_laws.proofs.Widths.{IsKept, AreKept, lines_kept}

narrow : (m : Marked) → IsKept m.token m.excess → PassesNothing m → IsNarrow m.token
narrow m k p = by_token m.token k
  where
    by_token : (t : Token) → IsKept t m.excess → IsNarrow t
    by_token (Number n) h = h p
    by_token (Name w) h = tt
    by_token (Key w) h = tt
    by_token (Operation o) h = tt
    by_token (Comparison o) h = tt
    by_token (Sign s) h = tt

line_spelled : (l : Line) → Each (λ (m : Marked). IsProper m.token) l → Each PassesNothing l → AreKept l → AreSpelled l
line_spelled [] w p k = tt
line_spelled (m ∷ ms) w p k = (token_spelled m.token w.0 (narrow m k.0 p.0), line_spelled ms w.1 p.1 k.1)

lines_spelled : (ls : List Line) → Each (Each (λ (m : Marked). IsProper m.token)) ls → Each (Each PassesNothing) ls → Each AreKept ls → Each AreSpelled ls
lines_spelled [] w p k = tt
lines_spelled (l ∷ ls) w p k = (line_spelled l w.0 p.0 k.0, lines_spelled ls w.1 p.1 k.1)

pub canonical_is_text : (w : PlainFirmware) → IsWithinLimits w → IsText w (canonical w)
unfolding canonical
canonical_is_text w h =
    let spelled : Each AreSpelled (lines_of w) = lines_spelled (lines_of w) h.words h.tokens (lines_kept w) in
    record {
      utf8 = IsUtf8-from_ascii (flat_map line_bytes (lines_of w)) (lines_ascii (lines_of w) spelled);
      spelled = lines_lead (lines_of w) spelled;
      limits = h;
    }
