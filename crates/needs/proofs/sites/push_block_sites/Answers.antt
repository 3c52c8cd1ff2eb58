use Rattle.std.proofs.Common.{◌<◌, length, sym, ap, subst, ◌∙◌, arith}
use Rattle.std.proofs.lemmas.List.{length-map}
use Rattle.ir_model.specs.Resolved.{func_at}
use Rattle.ir_program.specs.Parts.{operation_of}
use Rattle.ir_program.specs.Seen.{program_of, known_of}
use Rattle.needs.specs.Uses.{UsedAt}
use Rattle.needs.proofs.Walked.{ops_read, op_there, call_below, same_adds, adds_more, calls_more}
use Rattle.needs.proofs.sites.push_block_sites.Goals as goal

pub overflow_cast-place-in-loop-i-2 : goal.overflow_cast-place-in-loop-i-2
overflow_cast-place-in-loop-i-2 c =
    let q = c.args.program.now in
    let p = program_of q in
    let ks = known_of q in
    let f = c.args.func in
    let b = c.args.block in
    let i = c.loop-i.i in
    let os = c.as_slice-operations.result.now in
    let is = ops_read q f c.as_slice.result.now c.index-as_slice-func.result c.as_slice-blocks.result.now b c.index-blocks-block.result os c.as_slice.ensures c.index-as_slice-func.is c.requires.func c.as_slice-blocks.ensures c.index-blocks-block.is c.requires.block c.as_slice-operations.ensures in
    let n = ap length is ∙ length-map os (operation_of ks) in
    let m = c.requires.numbers.insts f b in
    omega arith

pub push_site-requires : goal.push_site-requires
push_site-requires c =
    let q = c.args.program.now in
    let p = program_of q in
    let ks = known_of q in
    let f = c.args.func in
    let b = c.args.block in
    let i = c.loop-i.i in
    let os = c.as_slice-operations.result.now in
    let is = ops_read q f c.as_slice.result.now c.index-as_slice-func.result c.as_slice-blocks.result.now b c.index-blocks-block.result os c.as_slice.ensures c.index-as_slice-func.is c.requires.func c.as_slice-blocks.ensures c.index-blocks-block.is c.requires.block c.as_slice-operations.ensures in
    let below : i < length os = omega arith in
    let here_is = op_there p ks f b i os c.index-operations-i.result is below c.index-operations-i.is in
    call_below ks (length (func_at p f).regs) (length c.args.targets.now) c.index-operations-i.result (sym c.requires.count)
    (λ u h. c.requires.registers f b i u (subst (λ x. UsedAt x u) (sym here_is) h))

pub loop-i-preserved : goal.loop-i-preserved
loop-i-preserved c = λ S h.
    let q = c.args.program.now in
    let p = program_of q in
    let ks = known_of q in
    let f = c.args.func in
    let b = c.args.block in
    let i = c.loop-i.i in
    let os = c.as_slice-operations.result.now in
    let is = ops_read q f c.as_slice.result.now c.index-as_slice-func.result c.as_slice-blocks.result.now b c.index-blocks-block.result os c.as_slice.ensures c.index-as_slice-func.is c.requires.func c.as_slice-blocks.ensures c.index-blocks-block.is c.requires.block c.as_slice-operations.ensures in
    let o = c.index-operations-i.result in
    let below : i < length os = omega arith in
    let here_is = op_there p ks f b i os o is below c.index-operations-i.is in
    same_adds p S c.args.sites.now.items c.push_site.new.sites.items _ _ (calls_more (operation_of ks) f b os i o below c.index-operations-i.is)
    (adds_more p S c.args.sites.now.items c.loop-i.sites.items c.push_site.new.sites.items _ _ (c.loop-i.invariant S h) (c.in_ok-push_site.ensures p S ks h here_is))
