-- What is told of a board's text that is refused: the fault with its line, that line, and the rule.
use Rattle.std.specs.Prelude.{ℕ, ◌+◌, List, [], ◌++◌, take, get_or, Option, Some, None, option_and_then, codes}
use Rattle.std.specs.Fmt.{decimal}
use Rattle.std.specs.Str.Lines.{strip_carriage_return}
use Rattle.machine_lines.specs.Lines.{line_feed}
use Rattle.plan_board.specs.declared.fault.BoardFault.{BoardFault}
use Rattle.plan_board.specs.declared.fault.BoardFault.TheVariants.{NoMemory, NotToml, Missing, Kind, Range, DeniedKind, DeniedRange, Extra}
use Rattle.plan_board.specs.Keys.{path_of}
use Rattle.aces_explain.specs.KeyLines.{lines_of, key_line}
use Rattle.aces_explain.specs.BoardRules.{rule_of}
use Rattle.aces_explain.specs.Explanations.{rule_line}

-- ---- a fault

-- its words, as `list` has them behind the name of the file
abbrev pub words_of : BoardFault → List ℕ
words_of NoMemory = codes "out of memory"
words_of NotToml = codes "not TOML"
words_of (Missing k) = codes "missing " ++ path_of k
words_of (Kind k) = codes "kind " ++ path_of k
words_of (Range k) = codes "range " ++ path_of k
words_of (DeniedKind path) = codes "kind " ++ path
words_of (DeniedRange path) = codes "range " ++ path
words_of (Extra path) = codes "extra " ++ path

-- the path of a key that stands in the text
abbrev pub standing : BoardFault → Option (List ℕ)
standing NoMemory = None
standing NotToml = None
standing (Missing k) = None
standing (Kind k) = Some (path_of k)
standing (Range k) = Some (path_of k)
standing (DeniedKind path) = Some path
standing (DeniedRange path) = Some path
standing (Extra path) = Some path

-- the line of it, if there is one; from 0
abbrev pub place_of : List (List ℕ) → BoardFault → Option ℕ
place_of lines e = option_and_then (λ p. key_line p lines) (standing e)

-- ---- lines

-- the most bytes that are shown of a line
abbrev pub shown_limit : ℕ
shown_limit = 120

-- a line without the carriage return at its end, if it has one
abbrev pub without_return : (line : List ℕ) → List ℕ
without_return line = strip_carriage_return line

abbrev pub shown : (line : List ℕ) → List ℕ
shown line = take shown_limit (without_return line)

-- where a line of a number stands, counted from 1
abbrev pub place_text : Option ℕ → List ℕ
place_text None = []
place_text (Some k) = codes ":" ++ decimal (k + 1)

abbrev pub head_line : (name : List ℕ) → Option ℕ → BoardFault → List ℕ
head_line name place e = name ++ place_text place ++ codes ": " ++ words_of e ++ line_feed

abbrev pub shown_line : List (List ℕ) → Option ℕ → List ℕ
shown_line lines None = []
shown_line lines (Some k) = shown (get_or lines k []) ++ line_feed

-- ---- all of it

-- what is told, by the lines of the text
abbrev pub told_in : (name : List ℕ) → (lines : List (List ℕ)) → BoardFault → List ℕ
told_in name lines e =
    head_line name (place_of lines e) e ++ shown_line lines (place_of lines e) ++ rule_line (rule_of e)

unfoldable pub board_told : (name text : List ℕ) → BoardFault → List ℕ
board_told name text e = told_in name (lines_of text) e
