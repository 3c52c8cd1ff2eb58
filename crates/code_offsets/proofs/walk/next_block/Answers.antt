use Rattle.std.proofs.Common.{◌≡◌, ◌+◌, ◌<◌, [], map, take, length, get_or, ap, subst, ◌∙◌, arith}
use Rattle.ir_program.specs.Parts.{operation_of, routine_of}
use Rattle.code_model.specs.Sizes.{insts_size}
use Rattle.code_offsets.proofs.Places.{block_further}
use Rattle.code_offsets.proofs.walk.next_block.Goals as goal

pub returns : goal.returns
returns c =
    let r = c.args.routine.now in
    let ss = c.args.sites.now in
    let n = c.args.lent in
    let w = c.args.at in
    let b = w.block in
    let x = c.index-blocks-block.result in
    let listed = c.as_slice-blocks.ensures in
    let long = ap (λ xs. length xs) listed in
    let there : b < length r.blocks = omega (arith, c.if-block-blocks.false, long) in
    let is : x ≡ get_or r.blocks b x = c.index-blocks-block.is ∙ ap (λ xs. get_or xs b x) listed in
    let os = c.as_slice-operations.ensures in
    let m = c.in_ok-insts.insts in
    let e = subst (λ zs. m + insts_size (routine_of [] r) ss n b 0 (map (operation_of []) (take w.place zs)) ≡ insts_size (routine_of [] r) ss n b 0 (map (operation_of []) (take (length zs) zs))) os (c.in_ok-insts.ensures (routine_of [] r) n) in
    let f = block_further r ss n b w.place m c.in_ok-exit.exit x there is e c.in_ok-exit.ensures in
    record { offset = grind (arith, f, c.requires.offset, c.in_ok-more.ensures, c.in_ok-offset.ensures) }
