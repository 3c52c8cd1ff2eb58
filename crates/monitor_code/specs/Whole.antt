-- Beyond the program's claim: only laws, proofs and functions inside the tool cite this file.
-- The three lists together, and the code of them with the leave stub.
use Rattle.std.specs.Prelude.{◌≡◌, ℕ, ◌+◌, ◌*◌, ◌<◌, ◌^◌, Bool, true, ◌&&◌, List, ◌∷◌, ◌++◌, length, map, replicate}
use Rattle.machine_thumb.specs.declared.table.Instr.{Instr}
use Rattle.machine_thumb_asm.specs.declared.item.Item.TheVariants.{Word}
use Rattle.machine_thumb_asm.specs.Assembly.{Assembly, here}
use Rattle.monitor_steps.specs.Steps.{PrivilegedSteps, names_low}
use Rattle.monitor_steps.specs.Lists.{steps_of}
use Rattle.monitor_steps.specs.Code.{code, code_length}
use Rattle.monitor_program.specs.Constants.{Constants}
use Rattle.monitor_program.specs.Svc.{svc}
use Rattle.monitor_program.specs.MemFault.{memfault}
use Rattle.monitor_program.specs.Reset.{reset}
use Rattle.monitor_program.specs.Page.{leave_stub, vector_to, reset_offset}
use Rattle.monitor_model.specs.declared.tables.Tables.{Tables}
use Rattle.monitor_assembler.specs.Emitted.{has_near_offsets}
use Rattle.monitor_code.specs.declared.calls.Lists.{Lists}

-- they are those of the definitions
pub record AreLists (c : Constants) (l : Lists) : Type 0 where
  pub start : steps_of l.start.items ≡ reset c
  pub svc : steps_of l.svc.items ≡ svc c
  pub memfault : steps_of l.memfault.items ≡ memfault c

-- vectors first, by the offsets of both handlers
abbrev pub vector_words : Tables → Constants → (svc_at memfault_at : ℕ) → List ℕ
vector_words t c svc_at memfault_at =
    c.block_end
    ∷ vector_to t reset_offset
    ∷ 0
    ∷ 0
    ∷ vector_to t memfault_at
    ∷ (replicate 6 0 ++ (vector_to t svc_at ∷ replicate 4 0))

-- then the code of the lists, with the leave stub behind it
abbrev pub lists_code : Lists → List Instr
lists_code l = code (steps_of l.start.items) ++ (code (steps_of l.svc.items) ++ (code (steps_of l.memfault.items) ++ leave_stub))

-- a list names r0 to r7 alone, and its offsets are near
abbrev pub fits : PrivilegedSteps → Bool
fits s = names_low s && has_near_offsets s

-- all of it may be put
pub record CanPut (a : Assembly) (l : Lists) : Type 0 where
  pub start : fits (steps_of l.start.items) ≡ true
  pub svc : fits (steps_of l.svc.items) ≡ true
  pub memfault : fits (steps_of l.memfault.items) ≡ true
  pub room : here a + code_length (steps_of l.start.items) + code_length (steps_of l.svc.items) + code_length (steps_of l.memfault.items) + 2 < 2 ^ 24

-- words behind all that an assembler holds
pub record HasWords (old new : Assembly) (ws : List ℕ) : Type 0 where
  pub code : new ≡ record old { items = old.items ++ map Word ws }
  pub next : here new ≡ here old + 4 * length ws
