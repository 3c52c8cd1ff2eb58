use Rattle.std.proofs.Common.{◌∙◌, ap}
use Rattle.base_words.specs.declared.memory.Width.TheVariants.{Word}
use Rattle.monitor_steps.specs.Steps.{Store, ◌▸◌}
use Rattle.monitor_steps.specs.Lists.{all_before}
use Rattle.monitor_model.specs.Halts.{halt_load}
use Rattle.monitor_model.specs.Offsets.{frame_r0}
use Rattle.monitor_program.specs.MemFault.{scan, loaded, finished}
use Rattle.monitor_lists.specs.Made.{constants_of}
use Rattle.monitor_lists.proofs.memfault.lent_load.Goals as goal

pub returns : goal.returns
returns c =
    c.in_ok-finished.ensures
    ∙ c.in_ok-store_word.ensures _
    ∙ c.in_ok-loaded.ensures _
    ∙ c.in_ok-scan.ensures _
    ∙ ap (λ mask_at. all_before c.args.list.now.steps.items (scan (constants_of c.args.c.now) mask_at halt_load ▸ loaded ▸ Store Word 5 0 frame_r0 ▸ finished)) c.record_reads.ensures
