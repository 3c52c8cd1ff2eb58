-- Plans whose stack is guarded.
use Rattle.std.specs.Prelude.{◌≡◌, ℕ, ◌+◌, ◌<◌, ◌≤◌}
use Rattle.ir_model.specs.Plain.{PlainFirmware}
use Rattle.ir_model.specs.Resolve.{resolve}
use Rattle.plan_model.specs.declared.needs.Needs.{Needs}
use Rattle.plan_model.specs.declared.graph.Final.{Final}
use Rattle.plan_model.specs.declared.plan.Board.{Board}
use Rattle.plan_model.specs.RamBlocks.{ForRegion}
use Rattle.plan_layout_laws.specs.RamLaws.{HoldsAddress}
use Rattle.plan.specs.PlannedFirmwares.{plan}
use Rattle.refine.specs.Ends.{guard_bytes}

module _ (w : PlainFirmware) (n : Needs) (f : Final) (b : Board) where
  -- those of the 1,024 bytes below the stack that are RAM's are no data region's
  abbrev pub IsStackGuarded : Type 0
  IsStackGuarded =
      (a r : ℕ) → b.ram_base ≤ a → a < (plan w n f b).stack.base → (plan w n f b).stack.base ≤ a + guard_bytes →
      HoldsAddress (resolve w) f (plan w n f b) (ForRegion r) a → ⊥

  abbrev pub IsStackLowest : Type 0
  IsStackLowest = (plan w n f b).stack.base ≡ b.ram_base

  abbrev pub IsBehindMonitor : Type 0
  IsBehindMonitor = ((plan w n f b).monitor.base + guard_bytes ≡ (plan w n f b).stack.base) × ((plan w n f b).monitor.size ≡ guard_bytes)
