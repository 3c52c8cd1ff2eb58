-- No compartment may store in the guard of a planned image.
use Rattle.std.proofs.Common.{◌≡◌, ℕ, Bool, ◌+◌, ◌<◌, ◌≤◌, List, [], ◌∷◌, get_or, refl, subst, arith, inl, inr}
use Rattle.machine_model.specs.Confinement.{AnyOf}
use Rattle.ir_model.specs.Plain.{PlainFirmware}
use Rattle.ir_model.specs.Resolve.{resolve}
use Rattle.ir_model.specs.declared.object.ObjId.{ObjId}
use Rattle.plan_model.specs.declared.needs.Needs.{Needs}
use Rattle.plan_model.specs.declared.graph.Cover.{Cover}
use Rattle.plan_model.specs.declared.graph.Final.{Final}
use Rattle.plan_model.specs.declared.plan.Board.{Board}
use Rattle.plan_model.specs.Permission.{may_write}
use Rattle.plan_model.specs.RamBlocks.{ForMonitor, ForRegion}
use Rattle.plan_layout_laws.specs.RamLaws.{RamIsApart}
use Rattle.plan_layout_laws.specs.StackLowest.{StackIsLowest}
use Rattle.monitor_program.specs.TheCode.{monitor_code}
use Rattle.image_model.specs.LinkedTables.{tables_of}
use Rattle.image_promises.specs.Planned.{planned_image, planned_tables}
use Rattle.plan.specs.PlannedFirmwares.{plan, planned_sizes}
use Rattle.machine_devices.specs.Rules.{ObeysRules}
use Rattle.refine.specs.Owned.{MemoryRules}
use Rattle.image_promises.specs.Parts.{linked_build}
use Rattle.image_promises.specs.Regions.{ImagesObeyRules, MemoryObeysRules}
use Rattle.image_promises.specs.Permissions.{IsOnPeripherals, IsPermitted, OnPeripherals, InData, SlotsHoldPermissions}
use Rattle.refine.specs.Ends.{guard_bytes}
use Rattle.image_promises.specs.FromGuards.{GuardedPlansGuard, LowestStacksAreGuarded, LargestStacksAreGuarded, StacksBehindMonitorsAreGuarded}

module _ (w : PlainFirmware) (n : Needs) (f : Final) (b : Board) (may : ObjId → Bool) (a : ℕ) (low : a < 0x40000000) where
  no_range : (rs : List Cover) → AnyOf (IsOnPeripherals w n f b may a) rs → ⊥
  no_range [] h = h
  no_range (r ∷ rs) (inl h) = let lo = h.holds.0 in let from = h.from in absurd (omega (arith, low, lo, from))
  no_range (r ∷ rs) (inr h) = no_range rs h

stack_is : (w : PlainFirmware) (n : Needs) (f : Final) (b : Board) → (planned_tables w n f b).stack.base ≡ (plan w n f b).stack.base
unfolding tables_of
stack_is w n f b = refl

pub guarded_plans : SlotsHoldPermissions → ImagesObeyRules → MemoryObeysRules → GuardedPlansGuard
guarded_plans slots images memory w n f b is free c a there below near slot = by ((slots w n f b is).stores c a slot)
  where
    rules : ObeysRules (planned_image w n f b)
    rules = images w n f b is

    laid : MemoryRules (linked_build monitor_code w n f b).setting
    laid = memory monitor_code w n f b is

    low : a < 0x40000000
    low =
        let fits = laid.fits in
        let high = rules.ram_highest in
        let most = rules.ram_most in
        omega (arith, below, fits, high, most)

    by : IsPermitted w n f b (may_write (resolve w) n f c) c a → ⊥
    by (OnPeripherals h) = no_range w n f b (may_write (resolve w) n f c) a low (get_or f.covers c []) h
    by (InData d) = free a d.region d.from (subst (λ (x : ℕ). a < x) (stack_is w n f b) below) (subst (λ (x : ℕ). x ≤ a + guard_bytes) (stack_is w n f b) near) d.held

pub lowest_stacks : LowestStacksAreGuarded
lowest_stacks w n f b e a r from below near held = absurd (omega (arith, e, from, below))

pub largest_stacks : StackIsLowest → LargestStacksAreGuarded
largest_stacks lowest w n f b h = lowest_stacks w n f b (lowest (resolve w) f (planned_sizes w n f b) b h)

pub behind_monitors : RamIsApart → StacksBehindMonitorsAreGuarded
behind_monitors apart w n f b e a r from below near held =
    let x = e.0 in
    let y = e.1 in
    apart (resolve w) f (planned_sizes w n f b) b ForMonitor (ForRegion r) a (λ z. cc) (omega (arith, x, near), omega (arith, x, y, below)) held
