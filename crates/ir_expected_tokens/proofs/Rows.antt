-- Lines of texts that were worked out by hand.
use Rattle.std.proofs.Common.{◌≡◌, [], codes, refl}
use Rattle.base_numerals.specs.Numerals.{numeral}
use Rattle.ir_reader.specs.Scan.{placed}
use Rattle.ir_expected_tokens.specs.SyntaxLines.{syntax_lines}

-- a struct without a field
no_field : syntax_lines (codes "struct s { }") ≡ codes "found mark }\nexpected name\n"
unfolding placed
no_field = refl

-- a reserved word as a label
reserved_label : syntax_lines (codes "file m { func f() { add: ret } }") ≡ codes "found reserved add\nexpected local reg name\n"
unfolding placed
reserved_label = refl

nothing : syntax_lines (codes "") ≡ []
unfolding placed
nothing = refl

-- a file that is not closed
open_file : syntax_lines (codes "file m { func f() { b0: jump b1 }") ≡ codes "found end\nexpected func }\n"
unfolding placed
open_file = refl

-- bytes of no token behind `ret`
no_token : syntax_lines (codes "file m { func f() { b: ret + } }") ≡ codes "found bytes\nexpected name }\n"
unfolding placed
no_token = refl

-- a label behind `ret`, and a result
label : syntax_lines (codes "file m { func f() { b: ret c: ret d ret } }") ≡ codes "found reserved ret\nexpected name }\n"
unfolding placed
label = refl

-- a number is told as it stands there
number_shown : syntax_lines (codes "global g: u32 = 0x07") ≡ codes "found number 0x07\nexpected {\n"
unfolding placed numeral
number_shown = refl
