use Rattle.std.proofs.Common.{◌≡◌, ◌++◌, map, take}
use Rattle.ir_model.specs.Plain.{PlainGlobal, global_of}
use Rattle.ir_names.proofs.firmware_names.add_globals.Given as goal

abbrev pub invariant-loop-global : goal.invariant-loop-global
invariant-loop-global l = l.names ≡ l.initial.names ++ map (λ (g : PlainGlobal). g.name) (map global_of (take l.global-index l.globals))
