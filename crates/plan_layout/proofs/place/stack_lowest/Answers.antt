use Rattle.std.proofs.Common.{◌∙◌, List, map, ap}
use Rattle.std.proofs.lemmas.Result.{IfOk-weaker}
use Rattle.plan_model.specs.RamBlocks.{RamBlock}
use Rattle.plan_model.specs.RamPlacement.{stack_first}
use Rattle.plan_layout.specs.Filling.{block_seen, filled_by}
use Rattle.plan_layout.proofs.place.stack_lowest.Goals as goal

pub returns : goal.returns
returns c =
    IfOk-weaker c.fill_behind_stack.result _ _
    (λ m h. h ∙ ap (λ (bs : List RamBlock). filled_by c.args.board.now.ram_base (stack_first c.args.board.now.ram_base c.args.board.now.stack bs) bs) (ap (map block_seen) c.deref.ensures.value ∙ c.in_ok-blocks.ensures))
    c.fill_behind_stack.ensures
