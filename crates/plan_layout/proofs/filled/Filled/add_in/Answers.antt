use Rattle.std.proofs.Common.{◌∙◌, arith}
use Rattle.std.proofs.lemmas.Result.{IfOk-weaker}
use Rattle.plan_layout.specs.Filling.{block_seen, ram_seen}
use Rattle.plan_layout.proofs.Steps.{block_ends, in_tail}
use Rattle.plan_layout.proofs.filled.Filled.add_in.Goals as goal

pub overflow_add-left : goal.overflow_add-left
overflow_add-left c = let room = block_ends c.args.block.size c.in-Some.base c.tail_at-tail.result _ c.tail_at-tail.ensures c.in-Some.ensures.value c.requires.fits in omega arith

pub add-requires : goal.add-requires
add-requires c = let room = block_ends c.args.block.size c.in-Some.base c.tail_at-tail.result _ c.tail_at-tail.ensures c.in-Some.ensures.value c.requires.fits in omega arith

pub returns : goal.returns
returns c =
    let m = c.args.self.now in
    IfOk-weaker c.add.result _ _
    (λ x h. h ∙ in_tail m.used c.args.number c.in-Some.base m.tails.items c.put_tail.new.tails.items c.tail_at-tail.result (block_seen c.args.block) (ram_seen m).blocks c.tail_at-tail.ensures c.in-Some.ensures.value c.put_tail.ensures)
    c.add.ensures
