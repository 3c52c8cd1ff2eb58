-- Beyond the program's claim: only laws, proofs and functions inside the tool cite this file.
-- Laws of texts and their faults.
use Rattle.std.specs.Prelude.{◌≡◌, ℕ, List, IsUtf8, ◌⊎◌}
use Rattle.ir_model.specs.declared.token.Excess.{Excess}
use Rattle.ir_model.specs.declared.token.Pos.{Pos}
use Rattle.ir_model.specs.Plain.{PlainFirmware}
use Rattle.ir_model.specs.Texts.{IsText, SyntaxAt, PassesAt}

-- no bytes are a text of two firmwares
abbrev pub TextsAreUnique : Type 0
TextsAreUnique = (v w : PlainFirmware) (bytes : List ℕ) → IsText v bytes → IsText w bytes → v ≡ w

-- a place where the first fault of the bytes stands
abbrev pub HasFault : List ℕ → Type 0
HasFault bytes = ((pos : Pos) × SyntaxAt bytes pos) ⊎ ((excess : Excess) × (pos : Pos) × PassesAt bytes excess pos)

-- bytes in UTF-8 are a text of a firmware, or have a first fault
abbrev pub TextsOrFaults : Type 0
TextsOrFaults = (bytes : List ℕ) → IsUtf8 bytes → ((w : PlainFirmware) × IsText w bytes) ⊎ HasFault bytes

-- a text has no fault, and other bytes have one first fault at most
abbrev pub TextsAreFaultless : Type 0
TextsAreFaultless = (w : PlainFirmware) (bytes : List ℕ) → IsText w bytes → HasFault bytes → ⊥

abbrev pub FaultsAreSingle : Type 0
FaultsAreSingle =
    (bytes : List ℕ) (p q : Pos)
    → (SyntaxAt bytes p → SyntaxAt bytes q → p ≡ q)
    × ((e : Excess) → SyntaxAt bytes p → PassesAt bytes e q → ⊥)
    × ((e d : Excess) → PassesAt bytes e p → PassesAt bytes d q → (e ≡ d) × (p ≡ q))
