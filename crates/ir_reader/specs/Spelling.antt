-- Beyond the program's claim: only laws, proofs and functions inside the tool cite this file.
-- The tokens of the parts of a firmware, without what they pass, as what is found at their places.
use Rattle.std.specs.Prelude.{ℕ, List, [], ◌∷◌}
use Rattle.ir_model.specs.declared.token.Keyword.{Keyword}
use Rattle.ir_model.specs.declared.token.Mark.{Mark}
use Rattle.ir_model.specs.Tokens as model
use Rattle.ir_grammar.specs.Spelling.{Glyphs}
use Rattle.ir_reader.specs.Found.{Found, Is, End}

abbrev pub Spelling : Type 0
Spelling = List Found

abbrev pub as_found : Glyphs Found
as_found = record { first = λ t. Is t ∷ []; next = λ t. Is t ∷ []; line_end = []; text_end = End ∷ [] }

abbrev pub Name : List ℕ → Found
Name w = Is (model.Name w)

abbrev pub Number : ℕ → Found
Number n = Is (model.Number n)

abbrev pub Key : Keyword → Found
Key k = Is (model.Key k)

abbrev pub Sign : Mark → Found
Sign m = Is (model.Sign m)
