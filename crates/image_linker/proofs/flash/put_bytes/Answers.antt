use Rattle.std.proofs.Common.{◌+◌, ◌<◌, get_or, ap, sym, ◌∙◌, arith}
use Rattle.std.proofs.lemmas.List.{drop_all}
use Rattle.base_words.specs.Bytes.{write_all}
use Rattle.image_linker.proofs.Bytes.{bytes_next, no_bytes}
use Rattle.image_linker.proofs.flash.put_bytes.Goals as goal

pub loop-k-preserved : goal.loop-k-preserved
loop-k-preserved c =
    let bs = c.args.bytes.now in
    let k = c.loop-k.k in
    let small : get_or bs k 0 < 256 = omega (arith, c.type_inv.bytes k) in
    sym (bytes_next c.args.first k bs c.loop-k.memory c.loop-k-test.true small) ∙ c.loop-k.invariant

pub returns : goal.returns
returns c =
    let bs = c.args.bytes.now in
    let a = c.args.first + c.loop-k.k in
    let mem = c.loop-k.memory in
    sym (no_bytes a mem) ∙ sym (ap (λ xs. write_all 1 a xs mem) (drop_all c.loop-k.k bs c.loop-k-test.false)) ∙ c.loop-k.invariant
