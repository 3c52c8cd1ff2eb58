use Rattle.std.proofs.Common.{◌<◌, length, get_or, arith}
use Rattle.std.specs.Prelude.{Contains}
use Rattle.std.proofs.lemmas.List.{get_or_default}
use Rattle.ir_model.specs.declared.object.ObjId.TheVariants.{Global}
use Rattle.ir_program.specs.Seen.{program_of}
use Rattle.needs.specs.Lent.{Lends}
use Rattle.need_lists.proofs.Any.{any_step, any_whole}
use Rattle.needs.proofs.lending.others_of.Goals as goal

pub loop-i-preserved : goal.loop-i-preserved
loop-i-preserved c = λ x.
    let os = c.args.objects.now in
    let i = c.loop-i.i in
    let below : i < length os = omega arith in
    any_step (Lends (program_of c.args.program.now) c.args.by x) (Contains c.loop-i.locals.items x) (Contains c.push_other.new.locals.items x)
    os i (get_or os i (Global 0)) below (get_or_default os i (Global 0) (get_or os i (Global 0)) below) (c.loop-i.invariant x) (c.in_ok-push_other.ensures x)

pub returns : goal.returns
returns c = λ x. any_whole (Lends (program_of c.args.program.now) c.args.by x) (Contains c.loop-i.locals.items x) c.args.objects.now c.loop-i.i (omega arith) (c.loop-i.invariant x)
