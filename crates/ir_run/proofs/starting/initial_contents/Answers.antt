use Rattle.std.proofs.Common.{map, ap, sym, ◌∙◌}
use Rattle.ir_model.specs.Plain.{struct_of}
use Rattle.ir_model.specs.Layout.{known}
use Rattle.ir_model.specs.Resolved.{NumberedGlobal}
use Rattle.ir_model.specs.State.{entered}
use Rattle.ir_cells.specs.Cells.{types_of}
use Rattle.ir_program.specs.Values.{value_of}
use Rattle.ir_program.specs.Storages.{shape_of}
use Rattle.ir_program.specs.Parts.{variable_of, cell_count, global_count}
use Rattle.ir_run.proofs.Counts.{alike_at}
use Rattle.ir_run.proofs.Filling.{one_more, filled_entered}
use Rattle.ir_run.proofs.starting.initial_contents.Goals as goal

pub first_contents-requires : goal.first_contents-requires
first_contents-requires c =
    alike_at global_count cell_count (variable_of (known (map struct_of c.args.layouts.now))) c.args.variables.now c.loop-i.i c.index-variables-i.result
    c.requires c.loop-i-test.true c.index-variables-i.is

pub loop-i-preserved : goal.loop-i-preserved
loop-i-preserved c =
    let ks = known (map struct_of c.args.layouts.now) in
    let variable = c.index-variables-i.result in
    let cells = (shape_of ks variable.storage).cells in
    one_more (map value_of) (λ (o : NumberedGlobal). o.init) (variable_of ks) c.loop-i.objects.items c.push.new.self.items c.in_ok-values.values c.args.variables.now c.loop-i.i variable
    c.loop-i-test.true c.index-variables-i.is c.in_ok-push.ensures.items c.loop-i.invariant
    (c.in_ok-values.ensures ∙ (ap (λ vs. entered (map value_of vs) (types_of cells)) c.as_slice-first.ensures ∙ sym (filled_entered cells (map value_of variable.init))))
