-- The bits of masks are those of lent locals that the compartment's functions write.
use Rattle.std.proofs.Common.{◌≡◌, ℕ, ◌<◌, ◌≤◌, ◌+◌, Bool, true, false, cond, [], map, get_or, nat_lt, Some, slice_get, refl, ap, sym, ◌∙◌, arith}
use mathlib.Core.Logic.{⊎_elim}
use Rattle.std.specs.Int.{bit_at}
use Rattle.std.proofs.lemmas.Bool.{cases_lt}
use Rattle.std.proofs.lemmas.List.{get_or_past}
use Rattle.std.proofs.lemmas.List.FromFn.{get_or-map-range_with_len, length-map-range_with_len}
use Rattle.std.proofs.lemmas.Option.{slice_get-get_or}
use Rattle.ir_model.specs.declared.object.ObjId.TheVariants.{Local}
use Rattle.ir_model.specs.Resolve.{resolve}
use Rattle.plan_model.specs.Boards.{slots_of}
use Rattle.plan_model.specs.Lists.{numbers_below}
use Rattle.plan_model.specs.Groups.{writes}
use Rattle.plan_model.specs.Lending.{lent}
use Rattle.plan_model.specs.Slots.{kept_mask}
use Rattle.monitor_model.specs.declared.tables.CompRecord.{CompRecord}
use Rattle.monitor_model.specs.Records.{compartment_at, nobody}
use Rattle.image_model.specs.LinkedTables.{tables_of, comp_record}
use Rattle.image_promises.specs.Planned.{planned_tables}
use Rattle.plan.specs.PlannedFirmwares.{plan}
use Rattle.image_promises.proofs.PlannedPremises.{PlannedPremises, planned_of, final_graph_of}
use Rattle.image_promises.proofs.Bits.{zero_bit, mask_was_told}
use Rattle.image_promises.proofs.Masks.{mask_is}
use Rattle.image_promises.specs.Needed.{MasksAreNeeded, PlannedMasksAreNeeded}

module _ (planned : PlannedPremises) where
  open planned use {firmware as w, needs as n, final as f, board as b, is_planned as ok}

  mask_at : (c : ℕ) → c < f.groups.count → (compartment_at (planned_tables w n f b) c).mask ≡ kept_mask f f.masks c
  unfolding tables_of
  mask_at c m =
      ap (λ (r : CompRecord). r.mask) (get_or-map-range_with_len (comp_record (resolve w) f (plan w n f b) (slots_of b)) 0 f.groups.count c c nobody m (let e : 0 + c ≡ c = omega arith in e))

  no_mask : (c : ℕ) → f.groups.count ≤ c → (compartment_at (planned_tables w n f b) c).mask ≡ 0
  unfolding tables_of
  no_mask c le =
      let size = length-map-range_with_len (comp_record (resolve w) f (plan w n f b) (slots_of b)) 0 f.groups.count in
      ap (λ (r : CompRecord). r.mask) (get_or_past (map (comp_record (resolve w) f (plan w n f b) (slots_of b)) (numbers_below f.groups.count)) c nobody (omega (arith, size, le)))

  needed : MasksAreNeeded w n f b
  needed c k e = ⊎_elim (λ lt. inner lt (nat_lt 1 f.groups.count) refl) (λ le. absurd (zero_bit k (sym (ap (λ m. bit_at m k) (no_mask c le)) ∙ e))) (cases_lt c f.groups.count)
    where
      inner : c < f.groups.count → (many : Bool) → nat_lt 1 f.groups.count ≡ many → (x : ℕ × ℕ) × (slice_get (lent n f.groups) k ≡ Some x) × (writes n f.groups c (Local x.0 x.1) ≡ true)
      inner lt true q =
          let kept : kept_mask f f.masks c ≡ get_or f.masks c 0 = ap (λ z. cond z (get_or f.masks c 0) 0) q in
          let all : lent n f.groups ≡ n.lendable = ap (λ z. cond z n.lendable []) q in
          let m = mask_at c lt ∙ kept ∙ mask_is (final_graph_of planned) c lt in
          let r = mask_was_told n (λ x. writes n f.groups c (Local x.0 x.1)) k (sym (ap (λ z. bit_at z k) m) ∙ e) in
          (get_or n.lendable k (0, 0), ap (λ xs. slice_get xs k) all ∙ slice_get-get_or n.lendable k (0, 0) r.0, r.1)
      inner lt false q =
          let kept : kept_mask f f.masks c ≡ 0 = ap (λ z. cond z (get_or f.masks c 0) 0) q in
          absurd (zero_bit k (sym (ap (λ z. bit_at z k) (mask_at c lt ∙ kept)) ∙ e))

pub planned_masks_are_needed : PlannedMasksAreNeeded
planned_masks_are_needed w n f b ok = needed (planned_of ok)
