use Rattle.std.proofs.Common.{◌≡◌, ℕ, length, get_or, ap, ◌∙◌, arith}
use Rattle.std.specs.List.{flat_map}
use Rattle.std.proofs.lemmas.List.{length-map}
use Rattle.ir_model.specs.Resolved.{NumberedFunc, func_at, block_at}
use Rattle.ir_program.specs.declared.program.Routine.{Routine}
use Rattle.ir_program.specs.Parts.{sequence_of, routine_of}
use Rattle.ir_program.specs.Seen.{known_of, program_of}
use Rattle.plan_model.specs.Lists.{numbers_below}
use Rattle.plan_model.specs.Calls.{calls_from}
use Rattle.needs.proofs.Funcs.{func_read}
use Rattle.needs.proofs.Walked.{adds_none, adds_more, same_adds}
use Rattle.needs.proofs.sites.push_sites.Goals as goal
use Rattle.plan_model.proofs.Numbers.{flat_numbers}

pub loop-block-init : goal.loop-block-init
loop-block-init c = λ S h. adds_none (program_of c.args.program.now) S c.args.sites.now.items

pub loop-block-preserved : goal.loop-block-preserved
loop-block-preserved c = λ S h.
    let p = program_of c.args.program.now in
    let f = c.args.func in
    let b = c.loop-block.block in
    same_adds p S c.args.sites.now.items c.push_block_sites.new.sites.items _ _ (flat_numbers (λ (x : ℕ). calls_from f x 0 (block_at p f x).insts) b)
    (adds_more p S c.args.sites.now.items c.loop-block.sites.items c.push_block_sites.new.sites.items
    (flat_map (λ (x : ℕ). calls_from f x 0 (block_at p f x).insts) (numbers_below b)) (calls_from f b 0 (block_at p f b).insts)
    (c.loop-block.invariant S h) (c.in_ok-push_block_sites.ensures S h))

pub returns : goal.returns
returns c = λ S h.
    let q = c.args.program.now in
    let p = program_of q in
    let f = c.args.func in
    let r : Routine = get_or c.as_slice.result.now f c.index-as_slice-func.result in
    let e : func_at p f ≡ routine_of (known_of q) r =
    func_read q c.as_slice.result.now f c.index-as_slice-func.result c.as_slice.ensures c.index-as_slice-func.is c.requires.func ∙ ap (routine_of (known_of q)) c.index-as_slice-func.is in
    let n = length-map r.blocks (sequence_of (known_of q)) in
    let m : length (func_at p f).blocks ≡ length r.blocks = ap (λ (x : NumberedFunc). length x.blocks) e ∙ n in
    let end : c.loop-block.block ≡ length (func_at p f).blocks = omega (arith, m) in
    same_adds p S c.args.sites.now.items c.loop-block.sites.items _ _
    (ap (λ (k : ℕ). flat_map (λ (x : ℕ). calls_from f x 0 (block_at p f x).insts) (numbers_below k)) end) (c.loop-block.invariant S h)
