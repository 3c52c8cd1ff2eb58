-- Beyond the program's claim: only laws, proofs and functions inside the tool cite this file.
-- What single accesses come to: where nothing lies, where a system register lies, and by the form of the instruction.
use Rattle.std.specs.Prelude.{◌≡◌, ℕ, suc, ◌+◌, ◌*◌, ◌/◌, ◌%◌, List, ◌∷◌, Option, true, false, None}
use Rattle.std.proofs.Common.{to_z, of_z, w8, w16, w32}
use Rattle.base_words.specs.Arithmetic.{word, add}
use Rattle.machine_thumb.specs.declared.table.Instr.TheVariants.{LoadLiteral, TransferRegister, TransferImmediate, StackRelative}
use Rattle.machine_protection.specs.declared.region.Access.{Access}
use Rattle.machine_protection.specs.declared.region.Access.TheVariants.{Read, Write, Fetch}
use Rattle.machine_devices.specs.declared.image.Image.{Image}
use Rattle.machine_bus.specs.Locations.{Nowhere, location}
use Rattle.machine_model.specs.declared.answers.Verdict.TheVariants.{ToBus, ToSystem}
use Rattle.machine_model.specs.declared.state.CoreRegisters.{CoreRegisters}
use Rattle.machine_model.specs.declared.state.ProtectionState.{ProtectionState}
use Rattle.machine_model.specs.declared.state.StopReason.TheVariants.{Bus}
use Rattle.machine_model.specs.State.{State, PermissionTest, is_unprivileged, stops, low_register, at, low_at}
use Rattle.machine_model.specs.Act.{Act, Loads, Stores, LoadsMany, StoresMany}
use Rattle.machine_model.specs.Instructions.{act}
use Rattle.machine_model.specs.System.{is_system_register}
use Rattle.machine_model.specs.Tests.{verdict}
use Rattle.machine_model.specs.Exceptions.{frame_at}
use Rattle.machine_model.specs.Perform.{perform}
use Rattle.machine_model.specs.Step.{turn}

-- an access that the tests let through to a location where nothing lies stops the machine: of one word, of the first of
-- several, and a fetch
pub record StopsAtNothing (j : PermissionTest) (i : Image) (s : State) (a : ℕ) : Type 0 where
  pub loads : (w : ℕ) (go : ℕ → CoreRegisters) → verdict j s.protection Read w a ≡ ToBus → perform j i (Loads w a go) s ≡ stops Bus s
  pub stores : (w v : ℕ) (c : CoreRegisters) → verdict j s.protection Write w a ≡ ToBus → perform j i (Stores w a v c) s ≡ stops Bus s
  pub loads_many : (n : ℕ) (go : List ℕ → Option CoreRegisters) → verdict j s.protection Read 4 a ≡ ToBus → perform j i (LoadsMany a (suc n) go) s ≡ stops Bus s
  pub stores_many : (v : ℕ) (vs : List ℕ) (c : CoreRegisters) → verdict j s.protection Write 4 a ≡ ToBus → perform j i (StoresMany a (v ∷ vs) c) s ≡ stops Bus s
  pub fetches : s.ending ≡ None → s.core.pc ≡ a → j s.protection Fetch a ≡ true → turn j i s ≡ stops Bus s

abbrev pub NothingStops : Type 0
NothingStops = (j : PermissionTest) (i : Image) (s : State) (a : ℕ) → location i a ≡ Nowhere → StopsAtNothing j i s a

-- a privileged access of a word of a system register reaches it, whatever the protection unit permits
abbrev pub SystemRegistersAreReached : Type 0
SystemRegistersAreReached =
    (j : PermissionTest) (p : ProtectionState) (kind : Access) (a : ℕ) → is_unprivileged p ≡ false → is_system_register a ≡ true → verdict j p kind 4 a ≡ ToSystem

-- an exception's frame begins at a multiple of 8 (STKALIGN)
abbrev pub FramesAreAligned : Type 0
FramesAreAligned = (sp : ℕ) → sp % 4 ≡ 0 → frame_at sp % 8 ≡ 0

-- what the loads and the stores of the instruction table ask for, each by its width; a load takes zeros or the sign
module _ (next : ℕ) (c : CoreRegisters) where
  abbrev pub loads_to : (t width address : ℕ) → Act
  loads_to t w a = Loads w a (λ v. low_at c next t v)

  abbrev pub loads_byte_to : (t address : ℕ) → Act
  loads_byte_to t a = Loads 1 a (λ v. low_at c next t (of_z w32 (to_z w8 v)))

  abbrev pub loads_half_to : (t address : ℕ) → Act
  loads_half_to t a = Loads 2 a (λ v. low_at c next t (of_z w32 (to_z w16 v)))

  abbrev pub stores_of : (t width address : ℕ) → Act
  stores_of t w a = Stores w a (low_register c t) (at c next)

  pub record TransfersHaveWidths : Type 0 where
    -- t, [n, #w k]
    pub str : (k n t : ℕ) → act (TransferImmediate 0 k n t) next c ≡ stores_of t 4 (word (low_register c n + 4 * k))
    pub ldr : (k n t : ℕ) → act (TransferImmediate 1 k n t) next c ≡ loads_to t 4 (word (low_register c n + 4 * k))
    pub strb : (k n t : ℕ) → act (TransferImmediate 2 k n t) next c ≡ stores_of t 1 (word (low_register c n + k))
    pub ldrb : (k n t : ℕ) → act (TransferImmediate 3 k n t) next c ≡ loads_to t 1 (word (low_register c n + k))
    pub strh : (k n t : ℕ) → act (TransferImmediate 4 k n t) next c ≡ stores_of t 2 (word (low_register c n + 2 * k))
    pub ldrh : (k n t : ℕ) → act (TransferImmediate 5 k n t) next c ≡ loads_to t 2 (word (low_register c n + 2 * k))
    -- t, [n, m]
    pub str_sum : (m n t : ℕ) → act (TransferRegister 0 m n t) next c ≡ stores_of t 4 (add (low_register c n) (low_register c m))
    pub strh_sum : (m n t : ℕ) → act (TransferRegister 1 m n t) next c ≡ stores_of t 2 (add (low_register c n) (low_register c m))
    pub strb_sum : (m n t : ℕ) → act (TransferRegister 2 m n t) next c ≡ stores_of t 1 (add (low_register c n) (low_register c m))
    pub ldrsb_sum : (m n t : ℕ) → act (TransferRegister 3 m n t) next c ≡ loads_byte_to t (add (low_register c n) (low_register c m))
    pub ldr_sum : (m n t : ℕ) → act (TransferRegister 4 m n t) next c ≡ loads_to t 4 (add (low_register c n) (low_register c m))
    pub ldrh_sum : (m n t : ℕ) → act (TransferRegister 5 m n t) next c ≡ loads_to t 2 (add (low_register c n) (low_register c m))
    pub ldrb_sum : (m n t : ℕ) → act (TransferRegister 6 m n t) next c ≡ loads_to t 1 (add (low_register c n) (low_register c m))
    pub ldrsh_sum : (m n t : ℕ) → act (TransferRegister 7 m n t) next c ≡ loads_half_to t (add (low_register c n) (low_register c m))
    -- t, [sp, #4 k] and t, [pc, #4 k]
    pub str_sp : (t d k : ℕ) → act (StackRelative 0 t d k) next c ≡ stores_of t 4 (word (c.sp + 4 * k))
    pub ldr_sp : (t d k : ℕ) → act (StackRelative 1 t d k) next c ≡ loads_to t 4 (word (c.sp + 4 * k))
    pub ldr_pc : (t k : ℕ) → act (LoadLiteral t k) next c ≡ loads_to t 4 (word ((next + 2) / 4 * 4 + 4 * k))
