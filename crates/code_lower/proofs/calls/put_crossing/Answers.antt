use Rattle.std.proofs.Common.{List, [], ◌∷◌, arith}
use Rattle.machine_thumb.specs.Table.{svc}
use Rattle.machine_thumb_asm.specs.declared.item.Item.{Item}
use Rattle.machine_thumb_asm.specs.declared.item.Item.TheVariants.{Half}
use Rattle.code_model.specs.Words.{plain}
use Rattle.code_lower.proofs.Putting.{room_rest}
use Rattle.code_lower.proofs.calls.put_crossing.Goals as goal

pub half-requires : goal.half-requires
half-requires c =
    let xs : List Item = plain (svc 0 ∷ []) in
    let r = (room_rest c.args.asm.now xs (Half c.args.site ∷ []) c.requires.room).below in
    rw (c.in_ok-put.ensures, c.supervisor_call.ensures.code) (omega arith)
