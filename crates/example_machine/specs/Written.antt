-- Beyond the program's claim: only laws, proofs and functions inside the tool cite this file.
-- Short ways to write a firmware down, and to run it.
use Rattle.std.specs.Prelude.{ℕ, List, [], ◌∷◌, None, false}
use Rattle.base_words.specs.Runs.{run, events}
use Rattle.base_events.specs.declared.event.Event.{Event}
use Rattle.ir_model.specs.declared.firmware.Inst.{Inst}
use Rattle.ir_model.specs.declared.firmware.Term.{Term}
use Rattle.ir_model.specs.declared.firmware.Term.TheVariants as term
use Rattle.ir_model.specs.declared.firmware.Block.{Block}
use Rattle.ir_model.specs.declared.firmware.Cell.{Cell}
use Rattle.ir_model.specs.declared.firmware.Peripheral.{Peripheral}
use Rattle.ir_model.specs.Types.{PlainType, PlainResult, nothing}
use Rattle.ir_model.specs.Plain.{PlainBinding, PlainStruct, PlainGlobal, PlainFunc, PlainFile, PlainFirmware}
use Rattle.ir_model.specs.Resolve.{resolve}
use Rattle.ir_model.specs.State.{SourceState, start}
use Rattle.ir_model.specs.Step.{source_step, source_event}

abbrev pub binding : List ℕ → PlainType → PlainBinding
binding n t = record { name = n; ty = t }

abbrev pub struct : List ℕ → List PlainBinding → PlainStruct
struct n fs = record { name = n; fields = fs }

abbrev pub periph : List ℕ → (base size : ℕ) → Peripheral
periph n b s = record { name = n; base = b; size = s }

abbrev pub global : List ℕ → PlainType → List Cell → PlainGlobal
global n t cs = record { name = n; constant = false; ty = t; init = cs }

abbrev pub block : List ℕ → List Inst → Term → Block
block l is t = record { label = l; insts = is; term = t }

abbrev pub func : List ℕ → (params : List PlainBinding) → PlainResult → (locals regs : List PlainBinding) → List Block → PlainFunc
func n ps r ls rs bs = record { name = n; params = ps; outcome = r; locals = ls; regs = rs; blocks = bs }

abbrev pub file : List ℕ → List PlainFunc → PlainFile
file n fs = record { name = n; funcs = fs }

abbrev pub firmware : List PlainStruct → List Peripheral → List PlainGlobal → List PlainFile → PlainFirmware
firmware ss ps gs fs = record { structs = ss; periphs = ps; globals = gs; files = fs }

-- a firmware of one function `main`
abbrev pub only_main : List PlainStruct → List PlainGlobal → (locals regs : List PlainBinding) → List Inst → PlainFirmware
only_main ss gs ls rs is =
    firmware ss [] gs (file (109 ∷ []) (func (109 ∷ 97 ∷ 105 ∷ 110 ∷ []) [] nothing ls rs (block (98 ∷ 48 ∷ []) is (term.Ret None) ∷ []) ∷ []) ∷ [])

-- so many steps of a firmware, with a compartment for each function and words for each peripheral
abbrev pub after : PlainFirmware → (compartments : List ℕ) → (queues : List (List ℕ)) → ℕ → SourceState
after w c qs n = run (source_step (resolve w) c) n (start (resolve w) qs)

abbrev pub run_events : PlainFirmware → (compartments : List ℕ) → (queues : List (List ℕ)) → ℕ → List Event
run_events w c qs n = events (source_step (resolve w) c) (source_event (resolve w) c) n (start (resolve w) qs)
