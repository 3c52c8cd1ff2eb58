-- The lines of a firmware's text before one of its items, and how many tokens they have. The numbers of others before, which `ir_model`
-- counts along in its lines, choose what a token passes, and not how many tokens there are: here they are 0.
use Rattle.std.specs.Prelude.{ℕ, ◌-◌, List, [], ◌∷◌, ◌++◌, length, take, drop, nat_lt, if◌then◌else◌}
use Rattle.ir_model.specs.declared.firmware.Block.{Block}
use Rattle.ir_model.specs.declared.token.Keyword.TheVariants as key
use Rattle.ir_model.specs.declared.token.Mark.TheVariants.{OpenBrace}
use Rattle.ir_model.specs.Plain.{PlainFunc, PlainFile, PlainFirmware, funcs_of}
use Rattle.ir_model.specs.Tokens.{Key, Sign}
use Rattle.ir_model.specs.Lines.{Line, plain, name, struct_lines, periph_lines, global_lines, file_lines, func_line, funcs_lines, local_lines, reg_lines, label_line, inst_lines, block_lines}
use Rattle.ir_model.specs.Texts.{joined}
use Rattle.ir_text_places.specs.declared.item.Item.{Item}
use Rattle.ir_text_places.specs.declared.item.Item.TheVariants as item

-- how many tokens lines have
abbrev pub count : List Line → ℕ
count ls = length (joined ls)

-- the first line of a file
abbrev pub file_line : PlainFile → Line
file_line f = plain (Key key.File) ∷ name f.name ∷ plain (Sign OpenBrace) ∷ []

-- the lines of files before the function of this number among those of all files; all lines, where there are no more functions than this number
abbrev pub func_before : (number : ℕ) → List PlainFile → List Line
func_before k [] = []
func_before k (f ∷ fs) =
    if nat_lt k (length f.funcs) then file_line f ∷ funcs_lines 0 (take k f.funcs) else file_lines 0 0 (f ∷ []) ++ func_before (k - length f.funcs) fs

-- the lines of the first of these blocks before its instruction of this number, or before its end
abbrev pub place_before : (number : ℕ) → List Block → List Line
place_before i [] = []
place_before i (b ∷ bs) = label_line 0 b.label ∷ inst_lines 0 (take i b.insts)

-- the lines of the first of these functions before that place in its block of this number
abbrev pub code_before : (block place : ℕ) → List PlainFunc → List Line
code_before b i [] = []
code_before b i (f ∷ fs) =
    (func_line 0 f ∷ local_lines 0 f.locals) ++ reg_lines 0 f.regs ++ block_lines 0 0 (take b f.blocks) ++ place_before i (drop b f.blocks)

-- structs, peripherals and globals
abbrev pub declaration_lines : PlainFirmware → List Line
declaration_lines w = struct_lines 0 w.structs ++ periph_lines 0 w.periphs ++ global_lines 0 w.globals

abbrev pub lines_before : PlainFirmware → Item → List Line
lines_before w item.Whole = []
lines_before w (item.Struct k) = struct_lines 0 (take k w.structs)
lines_before w (item.Periph k) = struct_lines 0 w.structs ++ periph_lines 0 (take k w.periphs)
lines_before w (item.Global k) = struct_lines 0 w.structs ++ periph_lines 0 w.periphs ++ global_lines 0 (take k w.globals)
lines_before w (item.File k) = declaration_lines w ++ file_lines 0 0 (take k w.files)
lines_before w (item.Func k) = declaration_lines w ++ func_before k w.files
lines_before w (item.Code k b i) = declaration_lines w ++ func_before k w.files ++ code_before b i (drop k (funcs_of w))

unfoldable pub tokens_before : PlainFirmware → Item → ℕ
tokens_before w i = count (lines_before w i)
