-- The step of an instruction by what it asks for.
use Rattle.std.proofs.Common.{◌≡◌, ℕ, ◌+◌, List, [], ◌∷◌, refl, ap, ◌∙◌}
use Rattle.std.proofs.Math.ListN.{get_or, set}
use Rattle.base_words.specs.Bytes.{read, write, cut}
use Rattle.machine_thumb.specs.declared.table.Instr.{Instr}
use Rattle.machine_protection.specs.declared.region.Access.TheVariants.{Read, Write}
use Rattle.machine_devices.specs.declared.image.Image.{Image}
use Rattle.machine_bus.specs.Locations.{InRam, InFlash, InWindow, location}
use Rattle.machine_model.specs.declared.state.CoreRegisters.{CoreRegisters}
use Rattle.machine_model.specs.declared.state.ProtectionState.{ProtectionState}
use Rattle.machine_model.specs.declared.state.FaultStatus.{FaultStatus}
use Rattle.machine_model.specs.declared.state.End.TheVariants.{Halt, InputEnd}
use Rattle.machine_model.specs.State.{PermissionTest}
use Rattle.machine_model.specs.Act.{Act, Changes, Loads, Stores, Halts}
use Rattle.machine_model.specs.Instructions.{act}
use Rattle.machine_model.specs.declared.answers.Verdict.TheVariants.{ToBus}
use Rattle.machine_model.specs.Tests.{verdict}
use Rattle.machine_model.specs.Perform.{perform}
use Rattle.machine_model.specs.Step.{turn}
use Rattle.machine_model.specs.Code.{size, Stands, live, StepsQuietly}
use Rattle.machine_model.specs.Events.{StepsWith, input_event, output_event, ended}
use Rattle.machine_model.proofs.Exec.{stepped, steps_from, steps_with_from}

module _ (j : PermissionTest) (i : Image) (c : CoreRegisters) (p : ProtectionState) (t : FaultStatus) (ram : List ℕ) (queues : List (List ℕ)) (x : Instr) where
  pub turns : (a : Act) → Stands j i p c.pc x → act x (c.pc + size x) c ≡ a → turn j i (live c p t ram queues) ≡ perform j i a (live c p t ram queues)
  turns a h e = stepped j i c p t ram queues x h ∙ ap (λ y. perform j i y (live c p t ram queues)) e

  pub changes : (d : CoreRegisters) → Stands j i p c.pc x → act x (c.pc + size x) c ≡ Changes d → StepsQuietly j i (live c p t ram queues) (live d p t ram queues)
  unfolding perform
  changes d h e = steps_from (turns (Changes d) h e) refl refl

  pub loads_ram : (w a o : ℕ) (go : ℕ → CoreRegisters) → Stands j i p c.pc x → act x (c.pc + size x) c ≡ Loads w a go → verdict j p Read w a ≡ ToBus → location i a ≡ InRam o →
      StepsQuietly j i (live c p t ram queues) (live (go (read w o ram)) p t ram queues)
  unfolding perform
  loads_ram w a o go h e v l = steps_from (turns (Loads w a go) h e) (rw (v, l) refl) (rw (v, l) refl)

  pub loads_flash : (w a o : ℕ) (go : ℕ → CoreRegisters) → Stands j i p c.pc x → act x (c.pc + size x) c ≡ Loads w a go → verdict j p Read w a ≡ ToBus → location i a ≡ InFlash o →
      StepsQuietly j i (live c p t ram queues) (live (go (read w o i.flash)) p t ram queues)
  unfolding perform
  loads_flash w a o go h e v l = steps_from (turns (Loads w a go) h e) (rw (v, l) refl) (rw (v, l) refl)

  -- a window gives its next word
  pub loads_window : (w a k o u : ℕ) (us : List ℕ) (go : ℕ → CoreRegisters) → Stands j i p c.pc x → act x (c.pc + size x) c ≡ Loads w a go → verdict j p Read w a ≡ ToBus → location i a ≡ InWindow k o →
      get_or queues k [] ≡ u ∷ us →
      StepsWith j i (live c p t ram queues) (live (go (cut w u)) p t ram (set queues k us)) (input_event i ram k o w u)
  unfolding perform
  loads_window w a k o u us go h e v l q = steps_with_from (turns (Loads w a go) h e) (rw (v, l, q, q) refl) (rw (v, l, q) refl)

  -- and has none left
  pub loads_nothing : (w a k o : ℕ) (go : ℕ → CoreRegisters) → Stands j i p c.pc x → act x (c.pc + size x) c ≡ Loads w a go → verdict j p Read w a ≡ ToBus → location i a ≡ InWindow k o →
      get_or queues k [] ≡ [] →
      StepsQuietly j i (live c p t ram queues) (ended InputEnd (live c p t ram queues))
  unfolding perform
  loads_nothing w a k o go h e v l q = steps_from (turns (Loads w a go) h e) (rw (v, l, q) refl) (rw (v, l, q) refl)

  pub stores_ram : (w a o u : ℕ) (d : CoreRegisters) → Stands j i p c.pc x → act x (c.pc + size x) c ≡ Stores w a u d → verdict j p Write w a ≡ ToBus → location i a ≡ InRam o →
      StepsQuietly j i (live c p t ram queues) (live d p t (write w o u ram) queues)
  unfolding perform
  stores_ram w a o u d h e v l = steps_from (turns (Stores w a u d) h e) (rw (v, l, l) refl) (rw (v, l) refl)

  pub stores_window : (w a k o u : ℕ) (d : CoreRegisters) → Stands j i p c.pc x → act x (c.pc + size x) c ≡ Stores w a u d → verdict j p Write w a ≡ ToBus → location i a ≡ InWindow k o →
      StepsWith j i (live c p t ram queues) (live d p t ram queues) (output_event i ram k o w u)
  unfolding perform
  stores_window w a k o u d h e v l = steps_with_from (turns (Stores w a u d) h e) (rw (v, l) refl) (rw (v, l) refl)

  -- BKPT
  pub halts : (n : ℕ) → Stands j i p c.pc x → act x (c.pc + size x) c ≡ Halts n → StepsQuietly j i (live c p t ram queues) (ended (Halt n) (live c p t ram queues))
  unfolding perform
  halts n h e = steps_from (turns (Halts n) h e) refl refl
