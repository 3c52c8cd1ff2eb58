use Rattle.std.proofs.Common.{◌≡◌, ◌<◌, ℕ, Bool, Vec, Global, List, [], ◌∷◌, length, map, get_or, ap, sym, ◌∙◌, arith}
use Rattle.std.proofs.lemmas.List.{map-append, get_or_default}
use Rattle.ir_program.specs.Seen.{program_of}
use Rattle.plan_model.specs.declared.graph.DataRegion.{DataRegion}
use Rattle.plan_model.specs.declared.plan.Spot.{Spot}
use Rattle.plan_model.specs.Regions.{no_region, region_at, is_user}
use Rattle.plan_model.specs.Blocks as blocks
use Rattle.plan_model.specs.Slots as slots
use Rattle.plan_model.specs.Placement.{region_spot}
use Rattle.image_blocks.specs.declared.slots.SlotUse.{SlotUse}
use Rattle.image_blocks.specs.Uses.{use_of}
use Rattle.image_blocks.proofs.slots.data_slots.Goals as goal
use Rattle.image_blocks.proofs.slots.data_slots.Goals.{then-is_user+in-Some+in_ok-push, else-is_user}
use Rattle.plan_model.proofs.Numbers.{kept_more, dropped_more}

pub loop-number-preserved : goal.loop-number-preserved
loop-number-preserved c =
    let P = program_of c.args.program.now in
    let rs = c.args.graph.now.regions in
    let l = c.args.plan.now in
    let k = c.loop-number.number in
    let x = c.args.compartment in
    let f : ℕ → slots.SlotUse = slots.data_slot P c.args.graph.now l x in
    let p : ℕ → Bool = λ r. is_user x (region_at rs r) in
    let old = c.loop-number.uses.items in
    let d = c.data_region-item.result in
    let listed = c.as_slice-data_region-items.ensures in
    let lt : k < length rs = omega (arith, c.loop-number-test.true, ap (λ (ys : List DataRegion). length ys) listed) in
    let it : d ≡ region_at rs k = c.data_region-item.is ∙ ap (λ ys. get_or ys k d) listed ∙ get_or_default rs k d no_region lt in
    let u : c.is_user.result ≡ p k = c.is_user.ensures ∙ ap (λ (r : DataRegion). is_user x r) it in
    elim c.if-is_user.branch [
      | then-is_user+in-Some+in_ok-push w ↦
          let slot = w.in-Some.slot in
          let made : Spot → DataRegion → slots.SlotUse =
          λ s r. record { base = s.base; size = s.size; srd = blocks.subregions_out s.size (blocks.region_bytes P r.globals); rights = slots.data_rights r x } in
          let e : use_of slot ≡ f k = w.in-Some.ensures ∙ ap (λ s. made s d) w.region_spot-spot.ensures ∙ ap (λ r. made (region_spot l k) r) it in
          let n = ap (λ (us : List SlotUse). map use_of us) w.in_ok-push.ensures.items ∙ map-append use_of old (slot ∷ []) in
          kept_more f p k (map use_of old) (map use_of c.if-is_user.uses.items) (use_of slot) (sym u ∙ w.if-is_user.true) c.loop-number.invariant e
          (ap (λ (v : Vec SlotUse Global). map use_of v.items) w.uses-is ∙ n)
      | else-is_user w ↦
          dropped_more f p k (map use_of old) (map use_of c.if-is_user.uses.items) (sym u ∙ w.if-is_user.false) c.loop-number.invariant
          (ap (λ (v : Vec SlotUse Global). map use_of v.items) w.uses-is)
    ]
