-- Beyond the program's claim: only laws, proofs and functions inside the tool cite this file.
-- The answers of functions that read parts of functions and files.
use Rattle.std.specs.Prelude.{ℕ, ◌+◌, ◌<◌, List, [], ◌∷◌, ◌++◌, ◌≡◌, map, flat_map, length, Option, Some, None, Result, Ok, Err, Vec}
use Rattle.std.specs.Borrow.{Bor}
use Rattle.std.specs.Global.{Global}
use Rattle.ir_model.specs.declared.token.Keyword.TheVariants as key
use Rattle.ir_model.specs.declared.token.Mark.TheVariants as mark
use Rattle.ir_model.specs.declared.firmware.Inst.{Inst}
use Rattle.ir_model.specs.declared.firmware.Term.{Term}
use Rattle.ir_model.specs.declared.firmware.Func.{Func}
use Rattle.ir_model.specs.declared.firmware.FileDecl.{FileDecl}
use Rattle.base_laws.specs.Lists.{Each}
use Rattle.ir_model.specs.Plain.{PlainFunc, PlainFile, func_of, file_of}
use Rattle.ir_model.specs.Tokens as model
use Rattle.ir_reader.specs.declared.error.ReadError.{ReadError}
use Rattle.ir_reader.specs.Found.{Is, End, Placed}
use Rattle.ir_reader.specs.Machine.{Symbol, Insts, Blocks, Funcs, Files, Word, Mk}
use Rattle.ir_reader.specs.Reading.{Passes, Fails}
use Rattle.ir_grammar.specs.Spelling.{spell_inst, spell_term, spell_funcs, spell_file}
use Rattle.ir_reader.specs.Spelling.{Spelling, Key, as_found}

-- the instructions of a block and its end
abbrev pub spell_lines : Vec Inst Global × Term → Spelling
spell_lines x = flat_map (spell_inst as_found) x.0.items ++ spell_term as_found x.1

abbrev pub ReadsLines : ℕ → List Placed → (List ℕ → List Placed) → Result ((Vec Inst Global × Term) × Bor (List ℕ)) ReadError → Type 0
ReadsLines n old placed (Ok x) = (k : ℕ) → Passes [] spell_lines (Insts k n ∷ []) (Blocks k (n + length x.0.0.items) ∷ []) old (placed x.1.now) x.0
ReadsLines n old placed (Err e) = (k : ℕ) → Fails (Insts k n ∷ []) old e

-- each function has a block
abbrev pub HasBlocks : List PlainFunc → Type 0
HasBlocks fs = Each (λ (f : PlainFunc). 0 < length f.blocks) fs

abbrev pub AllHaveBlocks : List PlainFile → Type 0
AllHaveBlocks fs = Each (λ (f : PlainFile). HasBlocks f.funcs) fs

-- the functions of a file and the closing brace, behind any number of files
abbrev pub ReadsFuncs : ℕ → List Placed → (List ℕ → List Placed) → Result (Vec Func Global × Bor (List ℕ)) ReadError → Type 0
ReadsFuncs n old placed (Ok x) = (k : ℕ) → Passes [] (spell_funcs as_found) (Funcs k n ∷ []) (Files k (n + length x.0.items) ∷ []) old (placed x.1.now) (map func_of x.0.items)
ReadsFuncs n old placed (Err e) = (k : ℕ) → Fails (Funcs k n ∷ []) old e

abbrev pub file_rest : ℕ → ℕ → List Symbol
file_rest k n = Word None ∷ Mk mark.OpenBrace ∷ Funcs k n ∷ []

abbrev pub ReadsFile : ℕ → List Placed → (List ℕ → List Placed) → Result (FileDecl × Bor (List ℕ)) ReadError → Type 0
ReadsFile n old placed (Ok x) = (k : ℕ) → Passes (Key key.File ∷ []) (spell_file as_found) (file_rest k n) (Files k (n + length x.0.funcs) ∷ []) old (placed x.1.now) (file_of x.0)
ReadsFile n old placed (Err e) = (k : ℕ) → Fails (file_rest k n) old e

-- one more file, or the end of the text
abbrev pub NextFile : List Placed → (List ℕ → List Placed) → Result (Option (ℕ × Bor (List ℕ))) ReadError → Type 0
NextFile old placed (Ok (Some x)) = old ≡ record { found = Is (model.Key key.File); left = x.0 } ∷ placed x.1.now
NextFile old placed (Ok None) = (left : ℕ) × (old ≡ record { found = End; left = left } ∷ [])
NextFile old placed (Err e) = (k n : ℕ) → Fails (Files k n ∷ []) old e
