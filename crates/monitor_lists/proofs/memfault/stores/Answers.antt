use Rattle.std.proofs.Common.{◌∙◌, ap}
use Rattle.base_words.specs.declared.memory.Width.TheVariants.{Word}
use Rattle.monitor_steps.specs.Steps.{Load, ◌▸◌}
use Rattle.monitor_steps.specs.Lists.{all_before}
use Rattle.monitor_model.specs.Halts.{halt_store}
use Rattle.monitor_model.specs.Offsets.{frame_r0}
use Rattle.monitor_program.specs.MemFault.{scan, stored, finished}
use Rattle.monitor_lists.specs.Made.{constants_of}
use Rattle.monitor_lists.proofs.memfault.stores.Goals as goal

pub returns : goal.returns
returns c =
    c.in_ok-finished.ensures
    ∙ c.in_ok-stored.ensures _
    ∙ c.in_ok-load_word.ensures _
    ∙ c.in_ok-scan.ensures _
    ∙ ap (λ mask_at. all_before c.args.list.now.steps.items (scan (constants_of c.args.c.now) mask_at halt_store ▸ Load Word 5 0 frame_r0 ▸ stored ▸ finished)) c.record_mask.ensures
