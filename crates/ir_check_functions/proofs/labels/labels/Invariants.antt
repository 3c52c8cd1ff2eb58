use Rattle.std.proofs.Common.{◌≡◌, [], map, take, drop}
use Rattle.ir_model.specs.declared.firmware.Block.{Block}
use Rattle.ir_model.specs.Typing.{first_failing, label_checks}
use Rattle.ir_check_scopes.specs.Spots.{place_of}
use Rattle.ir_check_functions.proofs.labels.labels.Given as goal

abbrev pub invariant-loop-block : goal.invariant-loop-block
invariant-loop-block l = record {
  left : first_failing (label_checks (place_of l.spot) [] l.blocks) ≡ first_failing (label_checks (place_of l.spot) l.seen (drop l.block-index l.blocks));
  names : l.seen ≡ map (λ (b : Block). b.label) (take l.block-index l.blocks);
}
