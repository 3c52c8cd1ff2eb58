-- The grammar of a firmware's text, as a table.
use Rattle.std.specs.Prelude.{ℕ, List, map, codes, Bool, true, false}
use Rattle.std.specs.Str.{bytes_eq}
use Rattle.ir_model.specs.Tokens.{keyword_bytes, mark_bytes}
use Rattle.ir_expected_tokens.specs.declared.grammar.Class.{Class}
use Rattle.ir_expected_tokens.specs.declared.grammar.Class.TheVariants as class
use Rattle.ir_expected_tokens.specs.declared.grammar.Part.{Part}
use Rattle.ir_expected_tokens.specs.declared.grammar.Part.TheVariants as part
use Rattle.ir_expected_tokens.specs.declared.grammar.Symbol.{Symbol}
use Rattle.ir_expected_tokens.specs.declared.grammar.TheConstants as table

-- the word by which a class is told
abbrev pub class_word : Class → List ℕ
class_word class.Name = codes "name"
class_word class.Number = codes "number"
class_word class.Operation = codes "operation"
class_word class.Comparison = codes "comparison"
class_word (class.Key k) = keyword_bytes k
class_word (class.Mark m) = mark_bytes m
class_word class.End = codes "end"

-- no two classes have the same word
abbrev pub is_class : Class → Class → Bool
is_class a b = bytes_eq (class_word a) (class_word b)

-- a token with which a part may begin, and what is expected behind it, in order
abbrev pub Row : Type 0
Row = Class × List Symbol

-- rows that are given by what they refer to
abbrev pub listed : {A : Type 0} → (A → List Symbol) → List (Class × A) → List Row
listed get rows = map (λ row. (row.0, get row.1)) rows

-- with what a part may begin, in the order of the grammar
abbrev pub rows : Part → List Row
rows part.Structs = listed (λ more. more.now) table.STRUCTS_ROWS.now
rows part.MoreFields = listed (λ more. more.now) table.MORE_FIELDS_ROWS.now
rows part.Periphs = listed (λ more. more.now) table.PERIPHS_ROWS.now
rows part.Globals = listed (λ more. more.now) table.GLOBALS_ROWS.now
rows part.Init = listed (λ more. more.now) table.INIT_ROWS.now
rows part.Cell = listed (λ more. more.now) table.CELL_ROWS.now
rows part.MoreCells = listed (λ more. more.now) table.MORE_CELLS_ROWS.now
rows part.Files = listed (λ more. more.now) table.FILES_ROWS.now
rows part.Funcs = listed (λ more. more.now) table.FUNCS_ROWS.now
rows part.Params = listed (λ more. more.now) table.PARAMS_ROWS.now
rows part.MoreParams = listed (λ more. more.now) table.MORE_PARAMS_ROWS.now
rows part.Gives = listed (λ more. more.now) table.GIVES_ROWS.now
rows part.Locals = listed (λ more. more.now) table.LOCALS_ROWS.now
rows part.Regs = listed (λ more. more.now) table.REGS_ROWS.now
rows part.Block = listed (λ more. more.now) table.BLOCK_ROWS.now
rows part.Blocks = listed (λ more. more.now) table.BLOCKS_ROWS.now
rows part.Insts = listed (λ more. more.now) table.INSTS_ROWS.now
rows part.BlockEnd = listed (λ more. more.now) table.BLOCK_END_ROWS.now
rows part.Result = listed (λ more. more.now) table.RESULT_ROWS.now
rows part.Value = listed (λ more. more.now) table.VALUE_ROWS.now
rows part.Args = listed (λ more. more.now) table.ARGS_ROWS.now
rows part.MoreArgs = listed (λ more. more.now) table.MORE_ARGS_ROWS.now
rows part.Type = listed (λ more. more.now) table.TYPE_ROWS.now
rows part.Types = listed (λ more. more.now) table.TYPES_ROWS.now
rows part.MoreTypes = listed (λ more. more.now) table.MORE_TYPES_ROWS.now

-- whether nothing may stand in place of a part
abbrev pub may_be_missing : Part → Bool
may_be_missing part.Cell = false
may_be_missing part.Block = false
may_be_missing part.BlockEnd = false
may_be_missing part.Value = false
may_be_missing part.Type = false
may_be_missing _ = true
