-- The globals of a planned firmware in its linked image.
use Rattle.std.proofs.Common.{◌≡◌, ℕ, ◌<◌, ◌+◌, ◌-◌, Bool, true, false, length, refl, sym, subst, arith}
use Rattle.ir_model.specs.Resolve.{resolve}
use Rattle.ir_model.specs.Resolved.{Program}
use Rattle.ir_model.specs.State.{GlobalObject}
use Rattle.plan_model.specs.Needs.{need_of}
use Rattle.plan_model.specs.Groups.{compartment_of}
use Rattle.plan_model.specs.Regions.{global_size}
use Rattle.need_laws.specs.Reached.{IsListed}
use Rattle.monitor_model.specs.MonitorCode.{MonitorCode}
use Rattle.monitor_model.specs.Setting.{may_load, may_store}
use Rattle.image_model.specs.LinkedImage.{linked}
use Rattle.image_model.specs.LinkedTables.{tables_of}
use Rattle.refine.specs.Builds.{global_starts}
use Rattle.image_promises.specs.Planned.{planned_tables, planned_image}
use Rattle.image_promises.specs.Parts.{LoansAreKept}
use Rattle.image_promises.specs.Globals.{GlobalsArePlaced}
use Rattle.image_promises.proofs.PlannedPremises.{PlannedPremises, planned_of, global_address_of}
use Rattle.image_promises.proofs.GlobalPlaces.{in_ram}
use Rattle.image_promises.proofs.GlobalAreas.{count_is, address_is, inside, aligned, all_laid, off}
use Rattle.image_promises.proofs.Opened.{SlotLaws, stores, closed_loads}

module _ (law : SlotLaws) (loans : LoansAreKept) (code : MonitorCode) (planned : PlannedPremises) where
  open planned use {firmware as w, needs as n, final as f, board as b, is_planned as ok}

  abbrev p : Program
  p = resolve w

  -- on an open board all of RAM may be loaded
  open_loads : b.closed ≡ false → (c x j : ℕ) → x < length p.globals → j < global_size p x → may_load (planned_image w n f b) (planned_tables w n f b) c (global_address_of planned x + j) ≡ true
  unfolding linked
  open_loads kind c x j there k =
      let ram = in_ram law.of_data.globals planned x there in
      let low = ram.0 in
      let high = ram.1 in
      let same : b.ram_base + (global_address_of planned x + j - b.ram_base) ≡ global_address_of planned x + j = omega (arith, low) in
      subst (λ a. may_load (planned_image w n f b) (planned_tables w n f b) c a ≡ true) same
      ((loans code w n f b ok).open_loads kind c (global_address_of planned x + j - b.ram_base) (omega (arith, low, high, k)))

  loads : (g x j : ℕ) → g < length p.funcs → IsListed (need_of n g).read (GlobalObject x) → x < length p.globals → j < global_size p x
      → may_load (planned_image w n f b) (planned_tables w n f b) (compartment_of f.groups g) (global_address_of planned x + j) ≡ true
  loads g x j m listed there k = by b.closed refl
    where
      by : (t : Bool) → b.closed ≡ t → may_load (planned_image w n f b) (planned_tables w n f b) (compartment_of f.groups g) (global_address_of planned x + j) ≡ true
      by true e = closed_loads law planned e g x j m listed there k
      by false e = open_loads e (compartment_of f.groups g) x j there k

pub globals_are_placed : SlotLaws → LoansAreKept → GlobalsArePlaced
unfolding linked tables_of global_starts
globals_are_placed law loans code w n f b ok =
    let at = address_is law.of_data.globals (planned_of ok) in
    record {
      count = count_is law.of_data.globals (planned_of ok);
      from_base = λ x m. let e = at x m in let ram = (in_ram law.of_data.globals (planned_of ok) x m).0 in omega (arith, e, ram);
      to_end = λ x m. let e = at x m in let ram = (in_ram law.of_data.globals (planned_of ok) x m).1 in omega (arith, e, ram);
      inside = inside law.of_data.globals (planned_of ok);
      aligned = aligned law.of_data.globals (planned_of ok);
      laid = all_laid law.of_data.globals (planned_of ok);
      off = off law.of_data.globals (planned_of ok);
      loads = λ g x j m i there k. subst (λ a. may_load (planned_image w n f b) (planned_tables w n f b) (compartment_of f.groups g) (a + j) ≡ true) (sym (at x there)) (loads law loans code (planned_of ok) g x j m i there k);
      stores = λ g x j m i there k. subst (λ a. may_store (planned_tables w n f b) (compartment_of f.groups g) (a + j) ≡ true) (sym (at x there)) (stores law (planned_of ok) g x j m i there k);
    }
