-- The words of the lines that tell what was found and what was expected.
use Rattle.std.specs.Prelude.{ℕ, List, ◌++◌, codes}
use Rattle.std.specs.Fmt.{decimal}
use Rattle.machine_lines.specs.Lines.{line_feed}
use Rattle.ir_model.specs.Types.{PlainType, PlainResult, nothing, gives}
use Rattle.ir_grammar.specs.Spelling.{spell_type}
use Rattle.ir_printer.specs.Pieces.{as_bytes}

-- a type as in the canonical text, each of its tokens behind a space
abbrev pub type_text : PlainType → List ℕ
type_text t = spell_type as_bytes t

-- ---- what was found

abbrev pub found : (words : List ℕ) → List ℕ
found ws = codes "found " ++ ws ++ line_feed

-- a name with its type
abbrev pub found_typed : (name : List ℕ) → PlainType → List ℕ
found_typed n t = codes "found " ++ n ++ codes ":" ++ type_text t ++ line_feed

abbrev pub found_type : PlainType → List ℕ
found_type t = codes "found" ++ type_text t ++ line_feed

abbrev pub found_bytes : ℕ → List ℕ
found_bytes n = codes "found " ++ decimal n ++ codes " bytes" ++ line_feed

-- ---- what was expected

abbrev pub expected : (words : List ℕ) → List ℕ
expected ws = codes "expected " ++ ws ++ line_feed

abbrev pub expected_type : PlainType → List ℕ
expected_type t = codes "expected" ++ type_text t ++ line_feed

-- a result, or none
abbrev pub expected_result : PlainResult → List ℕ
expected_result nothing = expected (codes "nothing")
expected_result (gives t) = expected_type t
