use Rattle.std.proofs.Common.{◌≡◌, take}
use Rattle.ir_text_places.specs.Sizes.{insts_size}
use Rattle.ir_text_places.proofs.functions.insts_size.Given as goal

abbrev pub invariant-loop-inst : goal.invariant-loop-inst
invariant-loop-inst l = l.size ≡ insts_size (take l.inst-index l.insts)
