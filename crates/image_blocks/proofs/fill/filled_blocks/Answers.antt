use Rattle.std.proofs.Common.{◌≡◌, ◌<◌, ℕ, List, length, map, get_or, ap, ◌∙◌, arith}
use Rattle.std.proofs.lemmas.List.{map-append, get_or_default}
use Rattle.plan_model.specs.declared.graph.DataRegion.{DataRegion}
use Rattle.plan_model.specs.declared.plan.Spot.{Spot}
use Rattle.plan_model.specs.Regions.{no_region, region_at}
use Rattle.plan_model.specs.Placement.{region_spot}
use Rattle.image_model.specs.LinkedTables.{Filled}
use Rattle.image_blocks.specs.Filling.{filled_of}
use Rattle.image_blocks.proofs.fill.filled_blocks.Goals as goal
use Rattle.plan_model.proofs.Numbers.{mapped_more}

pub loop-number-preserved : goal.loop-number-preserved
loop-number-preserved c =
    let rs = c.args.graph.now.regions in
    let l = c.args.plan.now in
    let k = c.loop-number.number in
    let g : ℕ → Filled = λ r. record { base = (region_spot l r).base; globals = (region_at rs r).globals } in
    let d = c.region-item.result in
    let listed = c.as_slice-region-items.ensures in
    let lt : k < length rs = omega (arith, c.loop-number-test.true, ap (λ (ys : List DataRegion). length ys) listed) in
    let it : d ≡ region_at rs k = c.region-item.is ∙ ap (λ ys. get_or ys k d) listed ∙ get_or_default rs k d no_region lt in
    let p = ap (map filled_of) c.in_ok-push.ensures.items ∙ map-append filled_of c.loop-number.blocks.items _ in
    let based : Spot → List ℕ → Filled = λ s xs. record { base = s.base; globals = xs } in
    let e = ap (λ s. based s c.as_slice.result.now) c.region_spot.ensures ∙ ap (λ xs. based (region_spot l k) xs) (c.as_slice.ensures ∙ ap (λ (r : DataRegion). r.globals) it) in
    mapped_more g k (map filled_of c.loop-number.blocks.items) _ _ c.loop-number.invariant e p
