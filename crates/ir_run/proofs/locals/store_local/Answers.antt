use Rattle.std.proofs.Common.{map, sym}
use Rattle.ir_program.specs.Values.{value_of}
use Rattle.ir_program.specs.Storages.{pointee_of}
use Rattle.ir_program.specs.Seen.{program_of}
use Rattle.ir_run.specs.Acts.{frame_of}
use Rattle.ir_run.specs.States.{running_of, memory_of}
use Rattle.ir_run.proofs.Stored.{stored}
use Rattle.ir_run.proofs.locals.store_local.Goals as goal

pub returns : goal.returns
returns c =
    let parts = c.args.parts.now in
    let held = frame_of c.in-Some._frame.now in
    stored (program_of c.args.program.now) (frame_of parts.top) (map frame_of parts.below) (memory_of parts) c.args.of.func c.args.of.frame c.args.of.local c.args.at
    (pointee_of c.args.ty) (value_of c.args.value) held c.in-Some-local_cell.cell (running_of c.write_local.new.parts)
    c.in-Some.ensures c.in-Some-local_cell.ensures (c.write_local.ensures held (sym c.in-Some.ensures))
