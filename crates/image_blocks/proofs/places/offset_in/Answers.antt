use Rattle.std.proofs.Common.{◌+◌, ℕ, Bool, ◌∷◌, cond, drop, get_or, nat_eq, not, ap, sym, ◌∙◌}
use Rattle.std.specs.List.{position_or_len}
use Rattle.std.proofs.lemmas.List.{drop_more}
use Rattle.std.proofs.lemmas.Bool.{eq-eqb}
use Rattle.ir_model.specs.Layout.{rounded_up}
use Rattle.ir_program.specs.Seen.{program_of}
use Rattle.plan_model.specs.Regions.{global_size}
use Rattle.plan_model.specs.Blocks.{aligned, offsets_from}
use Rattle.image_blocks.proofs.places.offset_in.Goals as goal

pub returns-then-other-global : goal.returns-then-other-global
returns-then-other-global c =
    let P = program_of c.args.program.now in
    let xs = c.args.globals.now in
    let k = c.loop-other.other-index in
    let at = c.loop-other.at in
    let x = get_or xs k 0 in
    let p : ℕ → Bool = λ y. nat_eq y c.args.global in
    let t = eq-eqb x c.args.global c.if-other-global.true in
    let rest = drop (k + 1) xs in
    let one = ap (λ ys. get_or (offsets_from P at ys) (position_or_len p ys) 0) (drop_more xs k 0 c.loop-other-test.true) in
    let two = ap (λ b. get_or (aligned P x at ∷ offsets_from P (aligned P x at + global_size P x) rest) (cond (not b) (1 + position_or_len p rest) 0) 0) t in
    c.in_ok-at.ensures.value ∙ ap (λ n. rounded_up at n) c.extent_of-extent.ensures.align ∙ sym (one ∙ two) ∙ c.loop-other.invariant
