use Rattle.std.proofs.Common.{◌≡◌, [], get_or, set, subst}
use Rattle.ir_run.specs.Found.{IsPlace}
use Rattle.ir_run.proofs.Rising.{put_at}
use Rattle.ir_run.proofs.below.Below.put_cell.Goals as goal

pub returns-in-Some : goal.returns-in-Some
returns-in-Some c =
    rw (← c.self.view_is)
    (put_at c.self.inside.frames.items c.args.func c.args.number c.in-Some.place c.args.local c.args.cell c.args.value c.index_mut.result.now c.put.new.self
    (subst (λ xs. IsPlace xs c.args.func c.args.number c.in-Some.place) c.as_slice.ensures.value c.in-Some.ensures)
    c.index_mut.ensures.value
    (subst (λ n. c.put.new.self ≡ set c.index_mut.result.now.locals n (set (get_or c.index_mut.result.now.locals n []) c.args.cell c.args.value)) c.from.ensures c.put.ensures))
