-- Beyond the program's claim: only laws, proofs and functions inside the tool cite this file.
-- What the linked image of a planned firmware promises about its globals, but for what they hold at first: the statement of a law.
use Rattle.std.specs.Prelude.{◌≡◌, ℕ, ◌+◌, ◌%◌, ◌<◌, ◌≤◌, length, true}
use Rattle.std.proofs.Math.ListN.{get_or}
use Rattle.ir_model.specs.Plain.{PlainFirmware}
use Rattle.ir_model.specs.Resolved.{global_at}
use Rattle.ir_model.specs.State.{GlobalObject}
use Rattle.plan_model.specs.declared.needs.Needs.{Needs}
use Rattle.plan_model.specs.declared.graph.Final.{Final}
use Rattle.plan_model.specs.declared.plan.Board.{Board}
use Rattle.plan_model.specs.Needs.{need_of}
use Rattle.need_laws.specs.Reached.{IsListed}
use Rattle.monitor_model.specs.MonitorCode.{MonitorCode}
use Rattle.monitor_model.specs.Threads.{base, stack_end, KeepsOff}
use Rattle.refine.specs.Areas.{Area, Laid}
use Rattle.base_laws.specs.Lists.{Each}
use Rattle.refine.specs.Builds.{Build, compartment_of}
use Rattle.refine.specs.Relation.{global_areas}
use Rattle.plan.specs.PlannedFirmwares.{IsPlanned}
use Rattle.image_promises.specs.Parts.{linked_build}

pub record HasPlacedGlobals (k : Build) : Type 0 where
  pub count : length k.places.globals ≡ length k.program.globals
  -- each lies in RAM, and each of their cells at a multiple of its width
  pub from_base : (x : ℕ) → x < length k.program.globals → base k.setting ≤ get_or k.places.globals x 0
  pub to_end : (x : ℕ) → x < length k.program.globals → get_or k.places.globals x 0 + (global_at k.program x).shape.size ≤ base k.setting + k.setting.image.ram_size
  pub inside : Each (λ (c : Area). c.at + c.width ≤ k.setting.image.ram_size) (global_areas k)
  pub aligned : Each (λ (c : Area). (base k.setting + c.at) % c.width ≡ 0) (global_areas k)
  -- their cells lie apart, and off the stack and the monitor's block
  pub laid : Laid (global_areas k)
  pub off : Each (λ (c : Area). KeepsOff k.setting (stack_end k.setting) c.at c.width) (global_areas k)
  -- a compartment may load and store what its functions' needs list
  pub loads : (f x j : ℕ) → f < length k.program.funcs → IsListed (need_of k.needs f).read (GlobalObject x) → x < length k.program.globals →
      j < (global_at k.program x).shape.size → k.setting.may_load (compartment_of k f) (get_or k.places.globals x 0 + j) ≡ true
  pub stores : (f x j : ℕ) → f < length k.program.funcs → IsListed (need_of k.needs f).written (GlobalObject x) → x < length k.program.globals →
      j < (global_at k.program x).shape.size → k.setting.may_store (compartment_of k f) (get_or k.places.globals x 0 + j) ≡ true

-- of each planned firmware
abbrev pub GlobalsArePlaced : Type 0
GlobalsArePlaced = (code : MonitorCode) (w : PlainFirmware) (n : Needs) (f : Final) (b : Board) → IsPlanned w n f b → HasPlacedGlobals (linked_build code w n f b)
