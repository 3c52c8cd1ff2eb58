use Rattle.std.proofs.Common.{take, get_or, refl, arith}
use Rattle.ir_model.specs.declared.object.ObjId.TheVariants.{Global}
use Rattle.ir_model.specs.Plain.{firmware_of}
use Rattle.plan_report.proofs.Growing.{item_more, put_each}
use Rattle.aces_why.specs.Lines.{object_text}
use Rattle.aces_why.proofs.places.put_objects.Goals as goal

pub loop-i-preserved : goal.loop-i-preserved
loop-i-preserved c =
    let os = c.args.objects.now in
    let i = c.loop-i.i in
    let x = get_or os i (Global 0) in
    put_each (object_text (firmware_of c.args.firmware.now)) (take i os) _ x c.args.text.now c.loop-i.text _ (item_more os i x (Global 0) (omega arith) refl) c.loop-i.invariant c.in_ok-put_object.ensures
