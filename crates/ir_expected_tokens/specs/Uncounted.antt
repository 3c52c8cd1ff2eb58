-- Beyond the program's claim: only laws, proofs and functions inside the tool cite this file.
-- What the machine that reads texts expects, without its numbers.
use Rattle.std.specs.Prelude.{List, [], ◌∷◌, flat_map}
use Rattle.ir_model.specs.declared.token.Keyword.TheVariants as key
use Rattle.ir_model.specs.declared.token.Mark.TheVariants as mark
use Rattle.ir_reader.specs.Machine
use Rattle.ir_expected_tokens.specs.declared.grammar.Class.TheVariants as class
use Rattle.ir_expected_tokens.specs.declared.grammar.Part.TheVariants as part
use Rattle.ir_expected_tokens.specs.declared.grammar.Symbol.{Symbol}
use Rattle.ir_expected_tokens.specs.declared.grammar.Symbol.TheVariants.{Token, Part}

-- files, and the end of the text
abbrev pub files : List Symbol
files = Part part.Files ∷ Token class.End ∷ []

-- the blocks behind the first of a function, and its closing brace
abbrev pub blocks : List Symbol
blocks = Part part.Blocks ∷ Token (class.Mark mark.CloseBrace) ∷ []

-- all blocks of a function, and its closing brace; and with the registers and the locals before them
abbrev pub first : List Symbol
first = Part part.Block ∷ blocks

abbrev pub regs : List Symbol
regs = Part part.Regs ∷ first

-- a function from behind its parameters
abbrev pub body : List Symbol
body = Part part.Gives ∷ Token (class.Mark mark.OpenBrace) ∷ Part part.Locals ∷ regs

-- a symbol of the machine in symbols of the grammar
abbrev pub uncounted : Machine.Symbol → List Symbol
uncounted (Machine.Word x) = Token class.Name ∷ []
uncounted (Machine.Mk m) = Token (class.Mark m) ∷ []
uncounted (Machine.Kw word) = Token (class.Key key.Global) ∷ []
uncounted Machine.Num = Token class.Number ∷ []
uncounted Machine.Len = Token class.Number ∷ []
uncounted (Machine.Ty x d) = Part part.Type ∷ []
uncounted (Machine.Row d) = Part part.Types ∷ Token (class.Mark mark.Close) ∷ Part part.Gives ∷ []
uncounted (Machine.MoreRow d n) = Part part.MoreTypes ∷ Token (class.Mark mark.Close) ∷ Part part.Gives ∷ []
uncounted (Machine.Gives d) = Part part.Gives ∷ []
uncounted (Machine.MoreFields n) = Part part.MoreFields ∷ Token (class.Mark mark.CloseBrace) ∷ []
uncounted Machine.Params = Part part.Params ∷ Token (class.Mark mark.Close) ∷ body
uncounted (Machine.MoreParams n) = Part part.MoreParams ∷ Token (class.Mark mark.Close) ∷ body
uncounted (Machine.Locals n p) = Part part.Locals ∷ regs
uncounted (Machine.Regs n) = Part part.Regs ∷ first
uncounted (Machine.First b n) = Part part.Block ∷ blocks
uncounted (Machine.Insts b n) = Part part.Insts ∷ Part part.BlockEnd ∷ blocks
uncounted (Machine.AfterRet b n) = Part part.Result ∷ blocks
uncounted (Machine.Blocks b n) = blocks
uncounted Machine.Value = Part part.Value ∷ []
uncounted Machine.Args = Part part.Args ∷ Token (class.Mark mark.Close) ∷ []
uncounted (Machine.MoreArgs n) = Part part.MoreArgs ∷ Token (class.Mark mark.Close) ∷ []
uncounted (Machine.Funcs f n) = Part part.Funcs ∷ Token (class.Mark mark.CloseBrace) ∷ files
uncounted (Machine.Files f n) = files
uncounted (Machine.Globals n) = Part part.Globals ∷ files
uncounted (Machine.Init n) = Part part.Init ∷ Part part.Globals ∷ files
uncounted (Machine.CellAt n) = Part part.Cell ∷ []
uncounted (Machine.MoreCells n) = Part part.MoreCells ∷ Token (class.Mark mark.CloseBrace) ∷ []
uncounted (Machine.Periphs n) = Part part.Periphs ∷ Part part.Globals ∷ files
uncounted (Machine.Structs n) = Part part.Structs ∷ Part part.Periphs ∷ Part part.Globals ∷ files

abbrev pub all_uncounted : List Machine.Symbol → List Symbol
all_uncounted ss = flat_map uncounted ss
