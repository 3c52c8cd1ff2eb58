use Rattle.std.proofs.Common.{length, map, sym, ◌∙◌}
use Rattle.ir_model.specs.Plain.{struct_of}
use Rattle.ir_model.specs.Layout.{Shape, known}
use Rattle.ir_model.specs.State.{zero_local}
use Rattle.ir_program.specs.declared.program.Storage.{Storage}
use Rattle.ir_program.specs.Values.{value_of}
use Rattle.ir_program.specs.Storages.{shape_of}
use Rattle.ir_run.proofs.Counts.{alike_at}
use Rattle.ir_run.proofs.Filling.{one_more, zero_entered}
use Rattle.ir_run.proofs.entering.zero_locals.Goals as goal

pub first_contents-requires : goal.first_contents-requires
first_contents-requires c =
    alike_at (λ (s : Storage). s.cells) (λ (s : Shape). length s.cells) (shape_of (known (map struct_of c.args.layouts.now))) c.args.locals.now c.loop-i.i c.index-locals-i.result
    c.requires c.loop-i-test.true c.index-locals-i.is

pub loop-i-preserved : goal.loop-i-preserved
loop-i-preserved c =
    let ks = known (map struct_of c.args.layouts.now) in
    one_more (map value_of) zero_local (shape_of ks) c.loop-i.objects.items c.push.new.self.items c.in_ok-cells.cells c.args.locals.now c.loop-i.i c.index-locals-i.result
    c.loop-i-test.true c.index-locals-i.is c.in_ok-push.ensures.items c.loop-i.invariant
    (c.in_ok-cells.ensures ∙ sym (zero_entered (shape_of ks c.index-locals-i.result).cells))
