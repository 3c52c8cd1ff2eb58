use Rattle.std.proofs.Common.{◌≡◌, length}
use Rattle.ir_program.specs.Seen.{program_of}
use Rattle.need_sets.specs.Sets.{sets_of}
use Rattle.needs.specs.Accesses.{HasTargets}
use Rattle.needs.proofs.targets.all_targets.Given as goal

abbrev pub invariant-loop-register : goal.invariant-loop-register
invariant-loop-register l = record {
  count : length l.all.items ≡ l.register;
  each : HasTargets (program_of l.program) (sets_of l.pts) l.func l.all.items;
}
