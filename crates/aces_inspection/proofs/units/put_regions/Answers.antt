use Rattle.std.proofs.Common.{ℕ, ◌++◌, ap, ◌∙◌}
use Rattle.plan_model.specs.Lists.{numbers_below}
use Rattle.plan_model.proofs.Numbers.{numbers_more}
use Rattle.plan_report.proofs.Growing.{put_each}
use Rattle.machine_emulator.specs.Machine.{MachineState}
use Rattle.machine_emulator.specs.Reads.{region_words}
use Rattle.machine_emulator.proofs.Selected.{words_stay}
use Rattle.aces_inspection.specs.StateLines.{region_line}
use Rattle.aces_inspection.proofs.units.put_regions.Goals as goal

pub loop-number-preserved : goal.loop-number-preserved
loop-number-preserved c =
    let n : ℕ = c.loop-number.number in
    let m = c.args.machine.now.state.protection.mpu in
    let mid = c.loop-number.machine.state.protection.mpu in
    let v = c.loop-number.invariant in
    record {
      told = put_each (λ k. region_line k (region_words k m)) (numbers_below n) _ n c.args.text.now c.loop-number.text _ (numbers_more n) v.told
          (c.in_ok-put_region.ensures ∙ ap (λ g. c.loop-number.text ++ region_line n g) (c.region-region.ensures.words ∙ v.same n));
      same = λ k. ap (λ (x : MachineState). region_words k x.state.protection.mpu) c.region-region.ensures.selected ∙ words_stay k n mid ∙ v.same k;
    }
