use Rattle.std.proofs.Common.{◌≡◌, ◌+◌, [], map, drop}
use Rattle.ir_program.specs.Storages.{shape_of}
use Rattle.code_model.specs.FrameShape as frames
use Rattle.code_offsets.proofs.frame.locals_size.Given as goal

-- what was counted and what is left are the whole
abbrev pub invariant-loop-local : goal.invariant-loop-local
invariant-loop-local l = l.total + frames.locals_size (map (shape_of []) (drop l.local-index l.locals)) ≡ frames.locals_size (map (shape_of []) l.locals)
