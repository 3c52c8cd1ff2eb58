-- What is told of a text that is no further one of the grammar: the token that stands there, and which ones may.
use Rattle.std.specs.Prelude.{ℕ, ◌-◌, List, [], ◌∷◌, ◌++◌, length, take, drop, flat_map, codes, Some, None}
use Rattle.std.specs.List.{take_while}
use Rattle.base_names.specs.Names.{continues_word}
use Rattle.ir_model.specs.Tokens.{Token, Name, Number, Key, Operation, Comparison, Sign, keyword_bytes, operation_bytes, comparison_bytes, mark_bytes}
use Rattle.ir_reader.specs.Found.{Found, Is, Bad, End}
use Rattle.ir_expected_tokens.specs.declared.grammar.Class.{Class}
use Rattle.ir_expected_tokens.specs.declared.grammar.Symbol.{Symbol}
use Rattle.ir_expected_tokens.specs.Grammar.{class_word}
use Rattle.ir_expected_tokens.specs.Expected.{expected_of}
use Rattle.ir_expected_tokens.specs.Stuck.{stuck_in}

-- bytes of a name or a number that are shown at most
abbrev pub shown : List ℕ → List ℕ
shown bytes = take 64 bytes

-- a byte, and those behind it that may stand in a word
abbrev pub run : List ℕ → List ℕ
run [] = []
run (b ∷ bs) = b ∷ take_while continues_word bs

-- a token with which a text begins; a number is told as it stands there
abbrev pub token_words : (text : List ℕ) → Token → List ℕ
token_words text (Name w) = codes "name " ++ shown w
token_words text (Number n) = codes "number " ++ shown (run text)
token_words text (Key k) = codes "reserved " ++ keyword_bytes k
token_words text (Operation op) = codes "reserved " ++ operation_bytes op
token_words text (Comparison op) = codes "reserved " ++ comparison_bytes op
token_words text (Sign m) = codes "mark " ++ mark_bytes m

abbrev pub found_words : (text : List ℕ) → Found → List ℕ
found_words text (Is t) = token_words text t
found_words text Bad = codes "bytes"
found_words text End = codes "end"

-- `found`, and what a text begins with
abbrev pub found_line : (text : List ℕ) → Found → List ℕ
found_line text f = codes "found " ++ found_words text f ++ codes "\n"

-- a space and the word of a class
abbrev pub spaced : Class → List ℕ
spaced c = codes " " ++ class_word c

-- `expected`, and the classes that may stand where these are expected
abbrev pub expected_line : List Symbol → List ℕ
expected_line ss = codes "expected" ++ flat_map spaced (expected_of ss) ++ codes "\n"

-- so many bytes of a text from its end
abbrev pub last_bytes : List ℕ → ℕ → List ℕ
last_bytes text left = drop (length text - left) text

-- the lines of a text, where it has a place at which it is no further one of the grammar
abbrev pub syntax_lines : (text : List ℕ) → List ℕ
syntax_lines text =
    elim (stuck_in text) [
      | None ↦ []
      | Some s ↦ found_line (last_bytes text s.1.left) s.1.found ++ expected_line s.0
    ]
