use Rattle.std.proofs.Common.{◌∙◌, map, ap}
use Rattle.std.proofs.lemmas.Result.{IfOk-weaker}
use Rattle.plan_model.specs.RamPlacement.{empty_ram}
use Rattle.plan_layout.specs.Filling.{block_seen, filled_by}
use Rattle.plan_layout.proofs.place.largest_lowest.Goals as goal

pub returns : goal.returns
returns c =
    IfOk-weaker c.fill.result _ _
    (λ m h. h ∙ ap (filled_by c.args.board.now.ram_base empty_ram) (ap (map block_seen) c.deref.ensures.value ∙ c.in_ok-blocks.ensures))
    c.fill.ensures
