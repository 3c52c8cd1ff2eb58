use Rattle.std.proofs.Common.{◌≡◌, ℕ, ◌+◌, ◌<◌, ◌≤◌, ◌++◌, [], map, drop}
use Rattle.std.specs.List.{All}
use Rattle.ir_program.specs.Storages.{shape_of}
use Rattle.ir_program.specs.Parts.{routine_of}
use Rattle.code_model.specs.FrameShape as frames
use Rattle.code_lower.proofs.frame.local_starts.Given as goal
use Rattle.ir_model.specs.Typing.{frame_limit}

-- what was listed and what is left are the whole
abbrev pub invariant-loop-local : goal.invariant-loop-local
invariant-loop-local l =
    record {
      whole : l.starts.items ++ frames.starts_from l.next (map (shape_of []) (drop l.local-index l.local-items)) ≡ frames.local_starts (routine_of [] l.routine);
      small : l.next + frames.locals_size (map (shape_of []) (drop l.local-index l.local-items)) ≤ frame_limit;
      near : All (λ (s : ℕ). s < 1024) l.starts.items;
    }
