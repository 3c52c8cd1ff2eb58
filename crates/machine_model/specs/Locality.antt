-- The lists of a step are complete also for what it reads: on another RAM that holds the same there, it is the same.
use Rattle.std.specs.Prelude.{◌≡◌, ◌≢◌, ℕ, ◌+◌, ◌<◌, ◌≤◌, List, length, true, false, Some, nat_lt}
use Rattle.std.proofs.Math.ListN.{get_or}
use Rattle.machine_thumb.specs.declared.table.Instr.{Instr}
use Rattle.machine_thumb.specs.Decoded.{decoded}
use Rattle.machine_protection.specs.declared.region.Access.TheVariants.{Fetch}
use Rattle.machine_devices.specs.declared.image.Image.{Image}
use Rattle.base_events.specs.declared.event.Event.{Event}
use Rattle.machine_devices.specs.Rules.{ObeysRules}
use Rattle.machine_bus.specs.Locations.{InRam, location}
use Rattle.machine_model.specs.declared.state.End.TheVariants.{Stop}
use Rattle.machine_model.specs.declared.state.StopReason.TheVariants.{Usage}
use Rattle.machine_model.specs.declared.answers.Fetched.TheVariants.{Took}
use Rattle.machine_model.specs.State.{State, Touched, Turn, PermissionTest}
use Rattle.machine_model.specs.Instructions.{act}
use Rattle.machine_model.specs.Step.{fetch, turn}
use Rattle.machine_model.specs.Confinement.{AnyOf, Misses}
use Rattle.base_laws.specs.Lists.{Each}
use Rattle.machine_model.specs.Asked.{asked_loads, IsFetched}

-- two RAMs hold the same bytes at an access, where it leads to RAM
abbrev pub Agree : Image → (ram other : List ℕ) → Touched → Type 0
Agree i ram other x = (o : ℕ) → location i x.address ≡ InRam o → (k : ℕ) → k < x.width → get_or other (o + k) 0 ≡ get_or ram (o + k) 0

-- another RAM of the same size holds the same wherever a step reads
pub record AgreeOnReads (j : PermissionTest) (i : Image) (s : State) (other : List ℕ) : Type 0 where
  pub size : length other ≡ length s.ram
  -- the halfwords that it fetches: the second behind one that has a second; none that is not permitted
  pub first : j s.protection Fetch s.core.pc ≡ true → Agree i s.ram other (record { width = 2; address = s.core.pc })
  pub second : (h : ℕ) → IsFetched j i s h → nat_lt h 0xE800 ≡ false → j s.protection Fetch (s.core.pc + 2) ≡ true →
      Agree i s.ram other (record { width = 2; address = s.core.pc + 2 })
  pub loads : Each (Agree i s.ram other) (turn j i s).loads
  -- the compartment word of an event
  pub compartment : (e : Event) → (turn j i s).event ≡ Some e → i.monitor ≢ 0 → Agree i s.ram other (record { width = 4; address = i.monitor })
  -- a machine that stops for what an instruction loaded lists no load: the words that the instruction asked for
  pub stopped : (turn j i s).to.ending ≡ Some (Stop Usage s.core.pc) → (h k count : ℕ) (x : Instr) → fetch j i s ≡ Took h k count → decoded h k ≡ Some x →
      Each (Agree i s.ram other) (asked_loads s (act x (s.core.pc + count) s.core))

-- byte k of RAM lies in an access
pub record Hits (i : Image) (k : ℕ) (x : Touched) : Type 0 where
  pub offset : ℕ
  pub is_at : location i x.address ≡ InRam offset
  pub from : offset ≤ k
  pub before : k < offset + x.width

-- the same turn on another RAM: the same accesses and event, and the same next state but for RAM, which differs from the
-- other RAM in what the stores wrote, and in nothing else
pub record IsSameTurn (i : Image) (other : List ℕ) (t u : Turn) : Type 0 where
  pub stores : u.stores ≡ t.stores
  pub loads : u.loads ≡ t.loads
  pub event : u.event ≡ t.event
  pub to : u.to ≡ record t.to { ram = u.to.ram }
  pub size : length u.to.ram ≡ length other
  pub written : (k : ℕ) → AnyOf (Hits i k) t.stores → get_or u.to.ram k 0 ≡ get_or t.to.ram k 0
  pub kept : (k : ℕ) → Each (Misses i k) t.stores → get_or u.to.ram k 0 ≡ get_or other k 0

abbrev pub StepsReadWhatTheyList : Type 0
StepsReadWhatTheyList =
    (j : PermissionTest) (i : Image) (s : State) (other : List ℕ) → ObeysRules i → AgreeOnReads j i s other →
    IsSameTurn i other (turn j i s) (turn j i (record s { ram = other }))
