use Rattle.std.proofs.Common.{◌≡◌, ℕ, List, map, ap, ◌∙◌}
use Rattle.machine_protection.specs.declared.region.Region.{Region}
use Rattle.ir_program.specs.Seen.{program_of}
use Rattle.plan_model.specs.Slots as slots
use Rattle.monitor_model.specs.declared.tables.CompRecord.{CompRecord}
use Rattle.image_blocks.specs.Uses.{use_of}
use Rattle.image_blocks.proofs.slots.comp_record.Goals as goal

pub returns : goal.returns
unfolding slots.slot_regions
returns c =
    let f = c.args.graph.now in
    let l = c.args.plan.now in
    let n = c.args.slots in
    let x = c.args.compartment in
    let P = program_of c.args.program.now in
    let made : Region → List Region → ℕ → ℕ → CompRecord = λ code regions mask reads. record { code = code; slots = regions; mask = mask; reads = reads } in
    let regions : c.new.result ≡ slots.slots_from 4 n (slots.slot_uses P f l x) =
    c.new.ensures ∙ c.in_ok-slot_regions.ensures ∙ ap (λ us. slots.slots_from 4 n (map use_of us)) c.deref.ensures.value ∙ ap (λ us. slots.slots_from 4 n us) c.in_ok-uses.ensures in
    let mask : c.kept_mask.result ≡ slots.lend_mask f x = c.kept_mask.ensures ∙ ap (λ ms. slots.kept_mask f ms x) c.as_slice.ensures in
    let reads : c.kept_mask-2.result ≡ slots.read_mask f x = c.kept_mask-2.ensures ∙ ap (λ ms. slots.kept_mask f ms x) c.as_slice-2.ensures in
    ap (λ (g : Region). made g c.new.result c.kept_mask.result c.kept_mask-2.result) c.in-Some.ensures
    ∙ ap (λ gs. made (slots.code_region l x) gs c.kept_mask.result c.kept_mask-2.result) regions
    ∙ ap (λ k. made (slots.code_region l x) (slots.slots_from 4 n (slots.slot_uses P f l x)) k c.kept_mask-2.result) mask
    ∙ ap (λ k. made (slots.code_region l x) (slots.slots_from 4 n (slots.slot_uses P f l x)) (slots.lend_mask f x) k) reads
