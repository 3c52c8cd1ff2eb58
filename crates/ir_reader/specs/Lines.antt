-- Beyond the program's claim: only laws, proofs and functions inside the tool cite this file.
-- The answer of a function that reads an instruction or the end of a block.
use Rattle.std.specs.Prelude.{ℕ, ◌+◌, ◌<◌, List, [], ◌∷◌, ◌++◌, ◌≡◌, Some, None, Result, Ok, Err}
use Rattle.std.specs.Borrow.{Bor}
use Rattle.ir_model.specs.declared.token.Keyword.{Keyword}
use Rattle.ir_model.specs.declared.firmware.Inst.{Inst}
use Rattle.ir_model.specs.TextLimits.{instruction_limit}
use Rattle.ir_reader.specs.declared.error.Fault.{Fault}
use Rattle.ir_reader.specs.declared.error.FaultKind.TheVariants as kind
use Rattle.ir_reader.specs.declared.error.ReadError.{ReadError}
use Rattle.ir_reader.specs.declared.error.ReadError.TheVariants as errors
use Rattle.ir_reader.specs.declared.instructions.BlockItem.{BlockItem}
use Rattle.ir_reader.specs.declared.instructions.BlockItem.TheVariants as item
use Rattle.ir_reader.specs.Found.{Found, Placed}
use Rattle.ir_reader.specs.Machine.{Symbol, Move, Go, Stop, Skip, fault, Insts, Blocks, value_key}
use Rattle.ir_reader.specs.Reading.{Passes, Fails}
use Rattle.ir_grammar.specs.Spelling.{spell_inst, spell_term, spell_assigned}
use Rattle.ir_reader.specs.Spelling.{Key, as_found}

-- an instruction is behind few enough others
abbrev pub IsBelow : ℕ → BlockItem → Type 0
IsBelow n (item.Inst i) = n < instruction_limit
IsBelow n (item.Term t) = Unit {0}

-- an instruction or the end of a block, behind so many instructions and any number of blocks
abbrev pub ReadsLine : ℕ → List Placed → (List ℕ → List Placed) → Result (BlockItem × Bor (List ℕ)) ReadError → Type 0
ReadsLine n old placed (Ok (item.Inst i, rest)) = (k : ℕ) → Passes [] (spell_inst as_found) (Insts k n ∷ []) (Insts k (n + 1) ∷ []) old (placed rest.now) i
ReadsLine n old placed (Ok (item.Term t, rest)) = (k : ℕ) → Passes [] (spell_term as_found) (Insts k n ∷ []) (Blocks k n ∷ []) old (placed rest.now) t
ReadsLine n old placed (Err e) = (k : ℕ) → Fails (Insts k n ∷ []) old e

-- what a reserved word, which begins what a register gets, asks for behind it
abbrev pub FailsBy : Move → ℕ → List Placed → Fault → List Symbol → Type 0
FailsBy (Go x more) left old f st = (x ≡ None) × (fault (more ++ st) old ≡ Some f)
FailsBy Stop left old f st = f ≡ record { kind = kind.Syntax; left = left }
FailsBy Skip left old f st = ⊥

abbrev pub ValueFails : Keyword → ℕ → List Placed → ReadError → Type 0
ValueFails word left old errors.Memory = Unit {0}
ValueFails word left old (errors.Fault f) = (st : List Symbol) → FailsBy (value_key word) left old f st

abbrev pub PassesBy : Move → List Found → List Placed → List Placed → Inst → Type 0
PassesBy (Go x more) before old new i = (x ≡ None) × Passes before (spell_inst as_found) more [] old new i
PassesBy Stop before old new i = ⊥
PassesBy Skip before old new i = ⊥

abbrev pub ReadsValue : List ℕ → Keyword → ℕ → List Placed → (List ℕ → List Placed) → Result (Inst × Bor (List ℕ)) ReadError → Type 0
ReadsValue to word left old placed (Ok x) = PassesBy (value_key word) (spell_assigned as_found to (Key word ∷ [])) old (placed x.1.now) x.0
ReadsValue to word left old placed (Err e) = ValueFails word left old e
