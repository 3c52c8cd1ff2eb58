-- Beyond the program's claim: only laws, proofs and functions inside the tool cite this file.
-- What the linked image of a planned firmware promises its simulation, part by part: statements of laws.
use Rattle.std.specs.Prelude.{◌≡◌, ℕ, ◌+◌, ◌%◌, ◌<◌, ◌≤◌, ◌⊎◌, length, true}
use Rattle.ir_model.specs.Plain.{PlainFirmware}
use Rattle.ir_model.specs.Resolve.{resolve}
use Rattle.plan_model.specs.declared.needs.Needs.{Needs}
use Rattle.plan_model.specs.declared.graph.Final.{Final}
use Rattle.plan_model.specs.declared.plan.Board.{Board}
use Rattle.code_model.specs.Planned.{code_places}
use Rattle.monitor_model.specs.MonitorCode.{MonitorCode}
use Rattle.machine_devices.specs.Rules.{block_size}
use Rattle.monitor_model.specs.Setting.{Setting, setting_of}
use Rattle.monitor_model.specs.Threads.{stack_end}
use Rattle.refine.specs.Builds.{Build}
use Rattle.refine.specs.Linked.{HasLoans, HasWindows}
use Rattle.need_laws.specs.Reached.{IsListed}
use Rattle.plan_model.specs.Needs.{need_of}
use Rattle.ir_model.specs.State.{PeriphObject}
use Rattle.ir_model.specs.Resolved.{window_at}
use Rattle.refine.specs.Builds.{groups_of, compartment_of, entry_at}
use Rattle.std.proofs.Math.ListN.{get_or}
use Rattle.code_model.specs.CompartmentCode.{compartment_size}
use Rattle.image_promises.specs.Planned.{planned_tables, planned_image}
use Rattle.plan.specs.PlannedFirmwares.{IsPlanned, plan}

-- what is linked of a planned firmware, with the monitor's code
abbrev pub linked_build : MonitorCode → PlainFirmware → Needs → Final → Board → Build
linked_build code w n f b =
    record {
      setting = setting_of code (planned_image w n f b) (planned_tables w n f b);
      program = resolve w;
      needs = n;
      groups = f.groups;
      places = code_places (resolve w) n f (plan w n f b);
    }

-- a lent local has its bytes in the tables, and is in the masks of the compartments that need it
abbrev pub LoansAreKept : Type 0
LoansAreKept = (code : MonitorCode) (w : PlainFirmware) (n : Needs) (f : Final) (b : Board) → IsPlanned w n f b → HasLoans (linked_build code w n f b)

-- the needs are those for the image's kind of board
abbrev pub KindsAgree : Type 0
KindsAgree = (code : MonitorCode) (w : PlainFirmware) (n : Needs) (f : Final) (b : Board) → IsPlanned w n f b → (linked_build code w n f b).needs.closed ≡ (linked_build code w n f b).setting.image.closed

-- a compartment may load from and store into the window of each peripheral that one of its functions needs
pub record WindowsOpen (k : Build) : Type 0 where
  pub loads : (f q j : ℕ) → f < length k.program.funcs → IsListed (need_of k.needs f).read (PeriphObject q) → q < length k.program.periphs →
      j < (window_at k.program q).size → k.setting.may_load (compartment_of k f) ((window_at k.program q).base + j) ≡ true
  pub stores : (f q j : ℕ) → f < length k.program.funcs → IsListed (need_of k.needs f).written (PeriphObject q) → q < length k.program.periphs →
      j < (window_at k.program q).size → k.setting.may_store (compartment_of k f) ((window_at k.program q).base + j) ≡ true

abbrev pub WindowsAreOpen : Type 0
WindowsAreOpen = (code : MonitorCode) (w : PlainFirmware) (n : Needs) (f : Final) (b : Board) → IsPlanned w n f b → WindowsOpen (linked_build code w n f b)

-- the windows lie where the firmware says, and their addresses lead to them
abbrev pub WindowsArePromised : Type 0
WindowsArePromised = (code : MonitorCode) (w : PlainFirmware) (n : Needs) (f : Final) (b : Board) → IsPlanned w n f b → HasWindows (linked_build code w n f b)

-- the stack and the monitor's block lie in RAM and apart, the stack and its eighths at multiples of 8
pub record HasRoom (g : Setting) : Type 0 where
  pub stack_aligned : g.stack % 8 ≡ 0
  pub eighth_aligned : g.eighth % 8 ≡ 0
  pub some : 0 < g.eighth
  pub fits : stack_end g ≤ g.image.ram_size
  pub block_fits : g.block + block_size ≤ g.image.ram_size
  pub apart : (g.block + block_size ≤ g.stack) ⊎ (stack_end g ≤ g.block)

abbrev pub MemoryIsLaid : Type 0
MemoryIsLaid = (code : MonitorCode) (w : PlainFirmware) (n : Needs) (f : Final) (b : Board) → IsPlanned w n f b → HasRoom (linked_build code w n f b).setting

-- each function stands in a compartment, whose block of code is its own, at a multiple of 4; and `main` is where the tables say
pub record IsPlaced (k : Build) : Type 0 where
  pub count : length k.groups.of ≡ length k.program.funcs
  pub each : (f : ℕ) → f < length k.program.funcs → compartment_of k f < k.groups.count
  pub inside : (c a : ℕ) → c < k.groups.count → get_or k.places.bases c 0 ≤ a → a < get_or k.places.bases c 0 + compartment_size k.program (groups_of k) c → k.setting.has_code c a ≡ true
  pub aligned : (c : ℕ) → get_or k.places.bases c 0 % 4 ≡ 0
  pub main : k.setting.main ≡ entry_at k k.program.main
  pub main_compartment : k.setting.main_compartment ≡ compartment_of k k.program.main

abbrev pub CodeIsPlaced : Type 0
CodeIsPlaced = (code : MonitorCode) (w : PlainFirmware) (n : Needs) (f : Final) (b : Board) → IsPlanned w n f b → IsPlaced (linked_build code w n f b)
