use Rattle.std.proofs.Common.{◌≡◌, ◌*◌, ◌^◌, ◌≤◌, min, take}
use Rattle.std.specs.Prelude.{sum_by}
use Rattle.monitor_model.specs.Records.{words_in}
use Rattle.monitor_constants.specs.Sizes.{most}
use Rattle.monitor_constants.proofs.sizes.word_count.Given as goal

abbrev pub invariant-loop-init : goal.invariant-loop-init
invariant-loop-init l = record { exact : l.count ≡ min (sum_by words_in (take l.init-index l.inits)) most; small : l.count ≤ 2 ^ 30 * l.init-index }
