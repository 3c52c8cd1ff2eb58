use Rattle.std.proofs.Common.{◌≡◌, ◌<◌, length, get_or, ap, ◌∙◌, arith}
use Rattle.code_offsets.proofs.Places.{site_further}
use Rattle.code_offsets.proofs.walk.number_offset.Goals as goal

pub returns : goal.returns
returns c =
    let r = c.args.routine.now in
    let ss = c.args.sites.now in
    let n = c.args.lent in
    let w = c.args.at in
    let b = w.block in
    let x = c.index-blocks-block.result in
    let listed = c.as_slice-blocks.ensures in
    let long = ap (λ xs. length xs) listed in
    let there : b < length r.blocks = omega (arith, c.if-block-blocks.false, long) in
    let is : x ≡ get_or r.blocks b x = c.index-blocks-block.is ∙ ap (λ xs. get_or xs b x) listed in
    let os = c.as_slice-operations.ensures in
    let k = w.place in
    let o = c.index-operations-place.result in
    let more = ap (λ xs. length xs) os in
    let at : k < length x.operations = omega (arith, c.if-place-operations.false, more) in
    let are : o ≡ get_or x.operations k o = c.index-operations-place.is ∙ ap (λ xs. get_or xs k o) os in
    let f = site_further r ss n b k c.in_ok-call.call x o there is at are c.in_ok-call.ensures in
    grind (arith, f, c.requires.offset, c.in_ok-resume.ensures, c.saturating_sub.ensures)
