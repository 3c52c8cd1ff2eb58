-- What is told of the first fault of a firmware's text: where it stands and what it is, the line of the text with a mark at the column, what
-- was found and expected there, and the rule.
use Rattle.std.specs.Prelude.{ℕ, List, ◌++◌, codes}
use Rattle.std.specs.Fmt.{decimal}
use Rattle.ir_model.specs.declared.token.Pos.{Pos}
use Rattle.ir_model.specs.declared.token.Excess.{Excess}
use Rattle.ir_model.specs.declared.token.Excess.TheVariants.{TooWide, Passes}
use Rattle.ir_model.specs.Typing.{Failing}
use Rattle.aces_reports.specs.FaultLines.{line_feed, limit_word, kind_text, place_text}
use Rattle.aces_explain.specs.Excerpt.{excerpt}
use Rattle.aces_explain.specs.Expected.{expected_line}
use Rattle.aces_explain.specs.RuleTexts.{utf8_rule, syntax_rule, excess_rule, check_rule}

-- a file's name, and a line and a column of it
abbrev pub position_text : (name : List ℕ) → Pos → List ℕ
position_text name pos = name ++ codes ":" ++ decimal pos.line ++ codes ":" ++ decimal pos.col ++ codes ": "

-- what a token passes, and which check fails where
abbrev pub excess_text : Excess → List ℕ
excess_text TooWide = codes "number too wide"
excess_text (Passes which) = codes "limit " ++ limit_word which

abbrev pub failing_text : Failing → List ℕ
failing_text f = kind_text f.kind ++ codes " in " ++ place_text f.place

-- the first line: what is wrong, and where
abbrev pub syntax_line : (name : List ℕ) → Pos → List ℕ
syntax_line name pos = position_text name pos ++ codes "syntax" ++ line_feed

abbrev pub passed_line : (name : List ℕ) → Excess → Pos → List ℕ
passed_line name excess pos = position_text name pos ++ excess_text excess ++ line_feed

abbrev pub check_line : (name : List ℕ) → Failing → Pos → List ℕ
check_line name failing pos = position_text name pos ++ failing_text failing ++ line_feed

-- the last line: the rule
abbrev pub rule_line : (rule : List ℕ) → List ℕ
rule_line rule = codes "rule " ++ rule ++ line_feed

-- the bytes of the file of this name are not UTF-8 from this byte on
abbrev pub utf8_told : (name : List ℕ) → (at : ℕ) → List ℕ
utf8_told name at = name ++ codes ": byte " ++ decimal at ++ codes ": not UTF-8" ++ line_feed ++ rule_line utf8_rule

-- no text goes on there as these bytes do; `details` are the lines of what was found and expected
abbrev pub syntax_told : (name bytes : List ℕ) → Pos → (details : List ℕ) → List ℕ
syntax_told name bytes pos details = syntax_line name pos ++ excerpt bytes pos ++ details ++ rule_line syntax_rule

-- a token passes this there
abbrev pub passed_told : (name bytes : List ℕ) → Excess → Pos → List ℕ
passed_told name bytes excess pos = passed_line name excess pos ++ excerpt bytes pos ++ expected_line excess ++ rule_line (excess_rule excess)

-- a check fails, and its item begins there
abbrev pub check_told : (name bytes : List ℕ) → Failing → Pos → (details : List ℕ) → List ℕ
check_told name bytes failing pos details =
    check_line name failing pos ++ excerpt bytes pos ++ details ++ rule_line (check_rule failing.kind failing.place)
