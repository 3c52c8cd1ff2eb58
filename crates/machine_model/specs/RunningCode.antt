-- States of running code, with what seldom changes apart.
use Rattle.std.specs.Prelude.{◌≡◌, ℕ, ◌+◌, ◌*◌, List, Bool}
use Rattle.base_words.specs.declared.conditions.Flags.{Flags}
use Rattle.base_words.specs.Arithmetic.{word}
use Rattle.machine_model.specs.declared.state.CoreRegisters.{CoreRegisters}
use Rattle.machine_model.specs.declared.state.ProtectionState.{ProtectionState}
use Rattle.machine_model.specs.declared.state.FaultStatus.{FaultStatus}
use Rattle.machine_model.specs.State.{State}
use Rattle.machine_model.specs.Instructions.{transfer_immediate, load_into, store_from}
use Rattle.machine_model.specs.Code.{live}

-- what most instructions leave as it is
pub record Context : Type 0 where
  pub high : List ℕ
  pub other_sp : ℕ
  pub on_psp : Bool
  pub protection : ProtectionState
  pub status : FaultStatus

abbrev pub body : Context → (low : List ℕ) → (sp lr pc : ℕ) → Flags → CoreRegisters
body x low sp lr pc f =
    record { low = low; high = x.high; sp = sp; other_sp = x.other_sp; on_psp = x.on_psp; lr = lr; pc = pc; flags = f }

abbrev pub works : Context → (low : List ℕ) → (sp lr pc : ℕ) → Flags → (ram : List ℕ) → (queues : List (List ℕ)) → State
works x low sp lr pc f ram queues = live (body x low sp lr pc f) x.protection x.status ram queues

-- LDR, LDRH and LDRB by a number, and STR, STRH and STRB: the number counts widths
abbrev pub IsLoad : (op width : ℕ) → Type 0
IsLoad op w = (k b t next : ℕ) (c : CoreRegisters) → transfer_immediate op k b t next c ≡ load_into t w (word (b + w * k)) next c

abbrev pub IsStore : (op width : ℕ) → Type 0
IsStore op w = (k b t next : ℕ) (c : CoreRegisters) → transfer_immediate op k b t next c ≡ store_from t w (word (b + w * k)) next c
