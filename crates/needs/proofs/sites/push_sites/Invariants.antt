use Rattle.std.proofs.Common.{ℕ}
use Rattle.std.specs.List.{flat_map}
use Rattle.ir_model.specs.Resolved.{block_at}
use Rattle.ir_program.specs.Seen.{program_of}
use Rattle.ir_laws.specs.Sets.{ObjectSets}
use Rattle.plan_model.specs.Lists.{numbers_below}
use Rattle.plan_model.specs.Calls.{calls_from}
use Rattle.needs.specs.Accesses.{HasTargets}
use Rattle.needs.specs.Sites.{Adds}
use Rattle.needs.proofs.sites.push_sites.Given as goal

abbrev pub invariant-loop-block : goal.invariant-loop-block
invariant-loop-block l = (S : ObjectSets) → HasTargets (program_of l.program) S l.func l.targets
    → Adds (program_of l.program) S l.initial.sites.items l.sites.items (flat_map (λ (b : ℕ). calls_from l.func b 0 (block_at (program_of l.program) l.func b).insts) (numbers_below l.block))
