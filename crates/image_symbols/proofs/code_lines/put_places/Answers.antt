use Rattle.plan_model.specs.Lists.{numbers_below}
use Rattle.plan_model.proofs.Numbers.{numbers_more}
use Rattle.plan_report.specs.Subjects.{subject_of}
use Rattle.plan_report.proofs.Growing.{put_each}
use Rattle.image_symbols.specs.CodeLines.{places_of_block}
use Rattle.image_symbols.proofs.code_lines.put_places.Goals as goal

pub loop-block-preserved : goal.loop-block-preserved
loop-block-preserved c =
    let k = c.loop-block.block in
    record {
      reached = c.in_ok-put_block.ensures.reached;
      text = put_each (places_of_block (subject_of c.args.subject.now) c.args.of) (numbers_below k) _ k c.args.text.now c.loop-block.text _ (numbers_more k) c.loop-block.invariant.text c.in_ok-put_block.ensures.text;
    }
