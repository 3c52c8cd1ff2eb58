use Rattle.plan_model.specs.Lists.{numbers_below}
use Rattle.plan_model.proofs.Numbers.{numbers_more}
use Rattle.plan_report.specs.Subjects.{subject_of}
use Rattle.plan_report.proofs.Growing.{put_each}
use Rattle.image_symbols.specs.CodeLines.{inst_line}
use Rattle.image_symbols.proofs.code_lines.put_insts.Goals as goal

pub loop-number-preserved : goal.loop-number-preserved
loop-number-preserved c =
    let k = c.loop-number.number in
    record {
      reached = c.in_ok-put_inst.ensures.reached;
      text = put_each (inst_line (subject_of c.args.subject.now) c.args.of c.args.end.block) (numbers_below k) _ k c.args.text.now c.loop-number.text _ (numbers_more k) c.loop-number.invariant.text c.in_ok-put_inst.ensures.text;
    }
