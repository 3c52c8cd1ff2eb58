use Rattle.std.proofs.Common.{take, get_or, refl, sym, ◌∙◌, arith}
use Rattle.ir_model.specs.declared.object.ObjId.TheVariants.{Global}
use Rattle.ir_model.specs.Plain.{firmware_of}
use Rattle.ir_program.specs.Seen.{program_of}
use Rattle.plan_report.proofs.Growing.{item_more, put_kept, put_dropped}
use Rattle.aces_why.specs.Lines.{object_text, is_target}
use Rattle.aces_why.proofs.calls.put_targets.Goals as goal
use Rattle.aces_why.proofs.calls.put_targets.Goals.{then-is_target+in_ok-put_object, else-is_target}

pub loop-i-preserved : goal.loop-i-preserved
loop-i-preserved c =
    let os = c.objects_of-objects.result.now in
    let i = c.loop-i.i in
    let x = get_or os i (Global 0) in
    let more = item_more os i x (Global 0) (omega arith) refl in
    let test = is_target (program_of c.args.subject.now.program.now) c.args.func c.args.register in
    let tell = object_text (firmware_of c.args.subject.now.firmware.now) in
    elim c.if-is_target.branch [
      | then-is_target+in_ok-put_object w ↦ put_kept tell test (take i os) _ x c.args.text.now c.loop-i.text _ more (sym c.is_target.ensures ∙ w.if-is_target.true) c.loop-i.invariant (w.text-is ∙ w.in_ok-put_object.ensures)
      | else-is_target w ↦ put_dropped tell test (take i os) _ x c.args.text.now c.loop-i.text _ more (sym c.is_target.ensures ∙ w.if-is_target.false) c.loop-i.invariant w.text-is
    ]
