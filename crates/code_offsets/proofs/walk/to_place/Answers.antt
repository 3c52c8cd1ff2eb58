use Rattle.std.proofs.Common.{◌≡◌, ◌+◌, ◌<◌, [], map, take, length, get_or, ap, subst, ◌∙◌, arith}
use Rattle.ir_program.specs.Parts.{operation_of, routine_of}
use Rattle.code_model.specs.Sizes.{insts_size, place_offset}
use Rattle.code_offsets.proofs.Places.{place_further}
use Rattle.code_offsets.proofs.walk.to_place.Goals as goal

pub returns-clause-reached : goal.returns-clause-reached
returns-clause-reached c =
    let r = c.args.routine.now in
    let ss = c.args.sites.now in
    let n = c.args.lent in
    let w = c.args.at in
    let b = c.args.block in
    let x = c.index-blocks-block.result in
    let listed = c.as_slice-blocks.ensures in
    let long = ap (λ xs. length xs) listed in
    let there : b < length r.blocks = omega (arith, c.if-block-blocks.false, long) in
    let is : x ≡ get_or r.blocks b x = c.index-blocks-block.is ∙ ap (λ xs. get_or xs b x) listed in
    let os = c.as_slice-operations.ensures in
    let k = c.args.place in
    let m = c.in_ok-more.more in
    let e = subst (λ zs. m + insts_size (routine_of [] r) ss n b 0 (map (operation_of []) (take w.place zs)) ≡ insts_size (routine_of [] r) ss n b 0 (map (operation_of []) (take k zs))) os (c.in_ok-more.ensures (routine_of [] r) n) in
    let same : w.block ≡ b = omega arith in
    let h = subst (λ i. w.offset ≡ place_offset (routine_of [] r) ss n i w.place) same c.requires.offset in
    let f = place_further r ss n b w.place k m x there is e in
    record { offset = grind (arith, f, h, c.in_ok-offset.ensures) }
