-- Beyond the program's claim: only laws, proofs and functions inside the tool cite this file.
-- The frame of an exception entry as words of RAM.
use Rattle.std.specs.Prelude.{◌≡◌, ℕ, ◌%◌, List, true}
use Rattle.base_words.specs.Bytes.{write_all}
use Rattle.machine_devices.specs.declared.image.Image.{Image}
use Rattle.machine_devices.specs.Rules.{ObeysRules}
use Rattle.machine_model.specs.declared.state.CoreRegisters.{CoreRegisters}
use Rattle.machine_model.specs.declared.state.ProtectionState.{ProtectionState}
use Rattle.machine_model.specs.declared.state.FaultStatus.{FaultStatus}
use Rattle.machine_model.specs.State.{PermissionTest}
use Rattle.machine_model.specs.Exceptions.{frame_at, frame_of, entry_core, entered, is_frame_open}
use Rattle.machine_model.specs.Code.{live}
use Rattle.machine_model.specs.Stack.{ExceptionFrame}

-- the frame that is open below the stack pointer of a machine that has not ended: where in RAM it lies, at a multiple
-- of 8, and what every entry leaves
pub record OpenFrame (j : PermissionTest) (i : Image) (c : CoreRegisters) (p : ProtectionState) (t : FaultStatus) (ram : List ℕ) (queues : List (List ℕ)) : Type 0 where
  pub offset : ℕ
  pub frame : ExceptionFrame j i p c.sp offset
  pub aligned : frame_at c.sp % 8 ≡ 0
  pub entry : (n ret : ℕ) (u : FaultStatus) →
      (entered true i n ret u (live c p t ram queues)).to ≡ live (entry_core i n c) (record p { handler = true }) u (write_all 4 offset (frame_of c ret) ram) queues

abbrev pub OpenFramesAreWords : Type 0
OpenFramesAreWords =
    (j : PermissionTest) (i : Image) (c : CoreRegisters) (p : ProtectionState) (t : FaultStatus) (ram : List ℕ) (queues : List (List ℕ)) →
    ObeysRules i → c.sp % 4 ≡ 0 → is_frame_open j i (live c p t ram queues) ≡ true → OpenFrame j i c p t ram queues
