use Rattle.std.proofs.Common.{◌≡◌, map, sym, subst}
use Rattle.ir_model.specs.Plain.{struct_of}
use Rattle.ir_model.specs.Layout.{known}
use Rattle.ir_program.specs.Parts.{routine_of, local_counts, cell_counts}
use Rattle.ir_run.proofs.Counts.{alike_at}
use Rattle.ir_run.proofs.entering.new_frame.Goals as goal

pub routine_frame-requires : goal.routine_frame-requires
routine_frame-requires c =
    let ks = known (map struct_of c.args.program.now.layouts) in
    alike_at local_counts cell_counts (routine_of ks) c.as_slice-routines.result.now c.from-place.result c.index-routines-place.result
    (subst (λ rs. map local_counts rs ≡ map cell_counts (map (routine_of ks) rs)) (sym c.as_slice-routines.ensures) c.args.program.now.cells_of_locals)
    c.if-place-routines.true c.index-routines-place.is
