use Rattle.std.proofs.Common.{◌++◌, [], map, arith, sym, ap, subst, ◌∙◌}
use Rattle.std.specs.Prelude.{Contains}
use Rattle.std.specs.List.{flat_map}
use Rattle.std.proofs.lemmas.Result.{IfOk-weaker}
use Rattle.ir_model.specs.Resolved.{NumberedBlock}
use Rattle.ir_program.specs.declared.program.Sequence.{Sequence}
use Rattle.ir_program.specs.Parts.{operation_of, sequence_of}
use Rattle.needs.specs.Uses.{used}
use Rattle.needs.proofs.Joined.{more, whole}
use Rattle.needs.proofs.instructions.uses.Goals as goal

pub loop-i-preserved : goal.loop-i-preserved
loop-i-preserved c = λ ks.
    more (sequence_of ks) (λ (b : NumberedBlock). flat_map used b.insts) c.args.blocks.now [] c.loop-i.uses.items c.push_uses.new.uses.items c.loop-i.i c.index-blocks-i.result
    (omega arith) c.index-blocks-i.is (c.loop-i.invariant ks)
    (c.in_ok-push_uses.ensures ks ∙ (ap (λ l. c.loop-i.uses.items ++ flat_map used (map (operation_of ks) l)) c.as_slice.ensures
    ∙ ap (λ (b : Sequence). c.loop-i.uses.items ++ flat_map used (map (operation_of ks) b.operations)) (sym c.index-blocks-i.is)))

pub returns : goal.returns
returns c =
    IfOk-weaker c.each_once.result _ _
    (λ once e ks u.
    let is = whole (sequence_of ks) (λ (b : NumberedBlock). flat_map used b.insts) c.args.blocks.now [] c.loop-i.uses.items c.loop-i.i (omega arith) (c.loop-i.invariant ks) in (
      (λ h. subst (λ l. Contains l u) is (e.each u h)),
      λ h. e.all u (subst (λ l. Contains l u) (sym is) h),
    ))
    c.each_once.ensures
