-- The rule behind each fault of a firmware's text, and behind each check.
use Rattle.std.specs.Prelude.{ℕ, List, codes}
use Rattle.ir_model.specs.declared.token.TextLimit.{TextLimit}
use Rattle.ir_model.specs.declared.token.TextLimit.TheVariants as limit
use Rattle.ir_model.specs.declared.token.Excess.{Excess}
use Rattle.ir_model.specs.declared.token.Excess.TheVariants.{TooWide, Passes}
use Rattle.ir_model.specs.declared.check.CheckKind.{CheckKind}
use Rattle.ir_model.specs.declared.check.CheckKind.TheVariants as kind
use Rattle.ir_model.specs.declared.check.CheckPlace.{CheckPlace}
use Rattle.ir_model.specs.declared.check.CheckPlace.TheVariants as place

abbrev pub utf8_rule : List ℕ
utf8_rule = codes "a text is UTF-8, and letters beyond ASCII stand in comments alone"

abbrev pub syntax_rule : List ℕ
syntax_rule = codes "a text has structs, peripherals, globals and files in this order, and each token where the grammar has it"

abbrev pub number_rule : List ℕ
number_rule = codes "a number is from -2147483648 to 4294967295"

-- the rules of the limits of a text
abbrev pub limit_rule : TextLimit → List ℕ
limit_rule limit.Name = codes "a word has at most 64 bytes"
limit_rule limit.Struct = codes "a text has at most 256 structs"
limit_rule limit.Field = codes "a struct has at most 64 fields"
limit_rule limit.Depth = codes "a type stands in at most 7 others, each in the one before"
limit_rule limit.Array = codes "an array has from 1 to 65536 elements"
limit_rule limit.Cell = codes "a global has at most 65536 first values"
limit_rule limit.Periph = codes "a text has at most 64 peripherals"
limit_rule limit.Global = codes "a text has at most 1024 globals"
limit_rule limit.File = codes "a text has at most 1024 files"
limit_rule limit.Function = codes "the files of a text have at most 1024 functions, all together"
limit_rule limit.Param = codes "a function has at most 4 parameters, a call 4 arguments, and fn 4 types between its brackets"
limit_rule limit.Register = codes "a function has at most 120 registers, its parameters counted"
limit_rule limit.Local = codes "a function has at most 64 locals"
limit_rule limit.Block = codes "a function has at most 1024 blocks"
limit_rule limit.Instruction = codes "a function has at most 16384 instructions, ends of blocks not counted"

-- the rule of what a token of a text passes
abbrev pub excess_rule : Excess → List ℕ
excess_rule TooWide = number_rule
excess_rule (Passes which) = limit_rule which

-- the rule of a name that is not there, by the place
abbrev pub unknown_rule : CheckPlace → List ℕ
unknown_rule (place.Struct name) = codes "a struct in a type is declared, and earlier where it stands behind no * and in no fn"
unknown_rule (place.Periph name) = codes "a name is declared"
unknown_rule (place.Global name) = codes "a struct in a type is declared, addr has a global or a peripheral, and fn a function"
unknown_rule (place.File name) = codes "a name is declared"
unknown_rule (place.Func name) = codes "a struct in a type is declared"
unknown_rule (place.Inst func block inst) =
    codes "registers and labels are those of the function, addr has a local, a peripheral or a global, and call and faddr have a function"
unknown_rule place.Whole = codes "a name is declared"

-- the rule of a name that is there already, by the place
abbrev pub twice_rule : CheckPlace → List ℕ
twice_rule (place.Struct name) = codes "the names of structs differ, and those of the fields of a struct"
twice_rule (place.Periph name) = codes "the names of peripherals, globals and functions differ, all together"
twice_rule (place.Global name) = codes "the names of peripherals, globals and functions differ, all together"
twice_rule (place.File name) = codes "the names of files differ"
twice_rule (place.Func name) =
    codes "the names of peripherals, globals and functions differ, all together; in a function those of parameters, locals and registers, all together, and those of labels"
twice_rule (place.Inst func block inst) = codes "names differ"
twice_rule place.Whole = codes "names differ"

-- the rule of types that do not fit, by the place
abbrev pub type_rule : CheckPlace → List ℕ
type_rule (place.Struct name) = codes "types fit"
type_rule (place.Periph name) = codes "types fit"
type_rule (place.Global name) = codes "types fit"
type_rule (place.File name) = codes "types fit"
type_rule (place.Func name) = codes "the type of a parameter, a result or a register is u32, a pointer or a function"
type_rule (place.Inst func block inst) = codes "operands and results have the types that the instruction asks for"
type_rule place.Whole = codes "types fit"

-- the rule of a check that fails there
abbrev pub check_rule : CheckKind → CheckPlace → List ℕ
check_rule (kind.Unknown name) p = unknown_rule p
check_rule (kind.Twice name) p = twice_rule p
check_rule kind.IllTyped p = type_rule p
check_rule kind.NoMain p = codes "one function is called main, and it has no parameter and no result"
check_rule kind.BadWindow p =
    codes "a peripheral's size is a power of two from 32 to 65536, and its base a multiple of it from 0x40000000 to 0x5fffffff"
check_rule kind.WindowOverlap p = codes "two peripherals have no address in common"
check_rule kind.BadInit p =
    codes "a global has no more first values than cells, and each fits its cell: a number its width, addr and fn its type"
check_rule kind.ObjectTooLarge p = codes "a struct, a global and a local have at most 65536 bytes each"
check_rule (kind.FrameTooLarge bytes) p =
    codes "a frame has at most 992 bytes: 4 for each parameter, each register and the return address, and the locals, each in whole words, rounded up to a multiple of 8"
