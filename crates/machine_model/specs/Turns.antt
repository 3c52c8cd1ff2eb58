-- Beyond the program's claim: only laws, proofs and functions inside the tool cite this file.
-- Whole turns of an instruction that stands at the program counter: the next state with its stores, loads and event.
use Rattle.std.specs.Prelude.{◌≡◌, ℕ, ◌+◌, List, [], ◌∷◌, length, true, false, Option, Some, None}
use Rattle.std.proofs.Math.ListN.{get_or, set}
use Rattle.base_words.specs.Bytes.{read, write, cut, write_all}
use Rattle.machine_thumb.specs.declared.table.Instr.{Instr}
use Rattle.machine_protection.specs.declared.region.Access.TheVariants.{Read, Write}
use Rattle.machine_devices.specs.declared.image.Image.{Image}
use Rattle.machine_bus.specs.Locations.{InRam, InFlash, InWindow, location}
use Rattle.machine_model.specs.declared.state.CoreRegisters.{CoreRegisters}
use Rattle.machine_model.specs.declared.state.ProtectionState.{ProtectionState}
use Rattle.machine_model.specs.declared.state.FaultStatus.{FaultStatus}
use Rattle.machine_model.specs.declared.state.End.TheVariants.{Halt}
use Rattle.machine_model.specs.State.{Turn, PermissionTest, is_unprivileged, with_register, calm, ends}
use Rattle.machine_model.specs.Act.{Changes, Loads, Stores, LoadsMany, StoresMany, GetsSpecial, SetsSpecial, Exchanges, Halts}
use Rattle.machine_model.specs.Instructions.{act}
use Rattle.machine_model.specs.System.{read_system, write_system, read_special, write_special}
use Rattle.machine_model.specs.declared.answers.Verdict.TheVariants.{ToBus, ToSystem}
use Rattle.machine_model.specs.Tests.{verdict}
use Rattle.machine_model.specs.Exceptions.{words_from, return_on_psp, return_on_msp, is_thread, unstacked}
use Rattle.machine_model.specs.Perform.{did_load, did_store}
use Rattle.machine_model.specs.Step.{turn}
use Rattle.machine_model.specs.Events.{input_event, output_event}
use Rattle.machine_model.specs.Code.{size, Stands, live}
use Rattle.machine_model.specs.Stack.{Words, words_at, May}

module _ (j : PermissionTest) (i : Image) (c : CoreRegisters) (p : ProtectionState) (t : FaultStatus) (ram : List ℕ) (queues : List (List ℕ)) (x : Instr) where
  abbrev pub TurnIs : Turn → Type 0
  TurnIs u = Stands j i p c.pc x → turn j i (live c p t ram queues) ≡ u

  pub record WholeTurns : Type 0 where
    pub changes : (d : CoreRegisters) → act x (c.pc + size x) c ≡ Changes d → TurnIs (calm (live d p t ram queues))
    pub loads_ram : (w a o : ℕ) (go : ℕ → CoreRegisters) → act x (c.pc + size x) c ≡ Loads w a go → verdict j p Read w a ≡ ToBus → location i a ≡ InRam o →
        TurnIs (did_load w a (live (go (read w o ram)) p t ram queues) None)
    pub loads_flash : (w a o : ℕ) (go : ℕ → CoreRegisters) → act x (c.pc + size x) c ≡ Loads w a go → verdict j p Read w a ≡ ToBus → location i a ≡ InFlash o →
        TurnIs (did_load w a (live (go (read w o i.flash)) p t ram queues) None)
    pub loads_window : (w a k o u : ℕ) (us : List ℕ) (go : ℕ → CoreRegisters) → act x (c.pc + size x) c ≡ Loads w a go → verdict j p Read w a ≡ ToBus → location i a ≡ InWindow k o →
        get_or queues k [] ≡ u ∷ us → TurnIs (did_load w a (live (go (cut w u)) p t ram (set queues k us)) (Some (input_event i ram k o w u)))
    pub loads_system : (w a : ℕ) (go : ℕ → CoreRegisters) → act x (c.pc + size x) c ≡ Loads w a go → verdict j p Read w a ≡ ToSystem →
        TurnIs (did_load w a (live (go (read_system a p t)) p t ram queues) None)
    pub stores_ram : (w a o u : ℕ) (d : CoreRegisters) → act x (c.pc + size x) c ≡ Stores w a u d → verdict j p Write w a ≡ ToBus → location i a ≡ InRam o →
        TurnIs (did_store w a (live d p t (write w o u ram) queues) None)
    pub stores_window : (w a k o u : ℕ) (d : CoreRegisters) → act x (c.pc + size x) c ≡ Stores w a u d → verdict j p Write w a ≡ ToBus → location i a ≡ InWindow k o →
        TurnIs (did_store w a (live d p t ram queues) (Some (output_event i ram k o w u)))
    pub stores_system : (w a u : ℕ) (d : CoreRegisters) → act x (c.pc + size x) c ≡ Stores w a u d → verdict j p Write w a ≡ ToSystem →
        TurnIs (did_store w a (write_system a u (live d p t ram queues)) None)
    pub loads_many : (a o n : ℕ) (go : List ℕ → Option CoreRegisters) (d : CoreRegisters) → act x (c.pc + size x) c ≡ LoadsMany a n go → Words i a o n → May j p Read a n →
        go (words_at n o ram) ≡ Some d → TurnIs (record { to = live d p t ram queues; stores = []; loads = words_from a n; event = None })
    pub stores_many : (a o : ℕ) (vs : List ℕ) (d : CoreRegisters) → act x (c.pc + size x) c ≡ StoresMany a vs d → Words i a o (length vs) → May j p Write a (length vs) →
        TurnIs (record { to = live d p t (write_all 4 o vs ram) queues; stores = words_from a (length vs); loads = []; event = None })
    pub gets_special : (n r : ℕ) (d : CoreRegisters) → act x (c.pc + size x) c ≡ GetsSpecial n r d →
        TurnIs (calm (live (with_register d r (read_special (is_unprivileged p) n (live c p t ram queues))) p t ram queues))
    pub sets_special : (n v : ℕ) (d : CoreRegisters) → act x (c.pc + size x) c ≡ SetsSpecial n v d →
        TurnIs (calm (write_special (is_unprivileged p) n v (live c p t ram queues) d))
    pub halts : (n : ℕ) → act x (c.pc + size x) c ≡ Halts n → TurnIs (ends (Halt n) (live c p t ram queues))
    pub returns_to_psp : (o : ℕ) → act x (c.pc + size x) c ≡ Exchanges return_on_psp → p.handler ≡ true → Words i c.other_sp o 8 → May j (record p { handler = false }) Read c.other_sp 8 →
        is_thread (get_or (words_at 8 o ram) 7 0) ≡ true →
        TurnIs (record { to = live (unstacked true c c.other_sp (words_at 8 o ram)) (record p { handler = false }) t ram queues; stores = []; loads = words_from c.other_sp 8; event = None })
    pub returns_to_msp : (o : ℕ) → act x (c.pc + size x) c ≡ Exchanges return_on_msp → p.handler ≡ true → Words i c.sp o 8 → May j (record p { handler = false }) Read c.sp 8 →
        is_thread (get_or (words_at 8 o ram) 7 0) ≡ true →
        TurnIs (record { to = live (unstacked false c c.sp (words_at 8 o ram)) (record p { handler = false }) t ram queues; stores = []; loads = words_from c.sp 8; event = None })
