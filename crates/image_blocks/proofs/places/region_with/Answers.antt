use Rattle.std.proofs.Common.{◌≡◌, ◌<◌, ◌≤◌, length, get_or, false, true, ap, sym, ◌∙◌, arith}
use Rattle.std.proofs.lemmas.Grind.{common_steps}
use Rattle.plan_model.specs.declared.graph.DataRegion.{DataRegion}
use Rattle.plan_model.specs.Lists.{has}
use Rattle.image_model.proofs.FirstPlaces.{first_passes, position_next, none_left, is_position, no_position}
use Rattle.image_blocks.proofs.places.region_with.Goals as goal

pub returns-then-contains-clause-exact : goal.returns-then-contains-clause-exact
returns-then-contains-clause-exact c =
    let p = λ (r : DataRegion). has r.globals c.args.global in
    let rs = c.args.graph.now.regions in
    let k = c.loop-number.number in
    let d = c.region-item.result in
    let is = sym (c.region-item.is ∙ ap (λ ys. get_or ys k d) c.as_slice-region-items.ensures) in
    let l : k < length rs = omega (arith, c.loop-number-test.true, ap (λ ys. length ys) c.as_slice-region-items.ensures) in
    let t : has d.globals c.args.global ≡ true = grind (arith, common_steps) in
    let z = first_passes p rs k d l (ap (λ (r : DataRegion). has r.globals c.args.global) is ∙ t) in
    sym (is_position p rs k (omega (arith, z, c.loop-number.invariant)) l)

pub returns-clause-exact : goal.returns-clause-exact
returns-clause-exact c =
    let p = λ (r : DataRegion). has r.globals c.args.global in
    let rs = c.args.graph.now.regions in
    let k = c.loop-number.number in
    let le : length rs ≤ k = omega (arith, c.loop-number-test.false, ap (λ ys. length ys) c.as_slice-region-items.ensures) in
    let z = none_left p rs k le in
    sym (no_position p rs k (omega (arith, z, c.loop-number.invariant)) le)

pub loop-number-preserved : goal.loop-number-preserved
loop-number-preserved c =
    let p = λ (r : DataRegion). has r.globals c.args.global in
    let rs = c.args.graph.now.regions in
    let k = c.loop-number.number in
    let d = c.region-item.result in
    let is = sym (c.region-item.is ∙ ap (λ ys. get_or ys k d) c.as_slice-region-items.ensures) in
    let l : k < length rs = omega (arith, c.loop-number-test.true, ap (λ ys. length ys) c.as_slice-region-items.ensures) in
    let t : has d.globals c.args.global ≡ false = grind (arith, common_steps) in
    let z = position_next p rs k d l (ap (λ (r : DataRegion). has r.globals c.args.global) is ∙ t) in
    omega (arith, z, c.loop-number.invariant)
