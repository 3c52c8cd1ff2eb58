use Rattle.std.proofs.Common.{◌≡◌, ◌<◌, ℕ, List, length, map, position, All, IfSome, Option}
use Rattle.ir_model.specs.Resolved.{func_at}
use Rattle.ir_program.specs.Seen.{program_of}
use Rattle.plan_model.specs.Lists.{numbers_below}
use Rattle.plan_model.specs.Lending.{is_local}
use Rattle.image_entries.proofs.numbers.all_lends.Given as goal

abbrev pub invariant-loop-func : goal.invariant-loop-func
invariant-loop-func l =
    record {
      exact : l.all.items ≡ map (λ h. map (λ k. position (is_local h k) l.lent) (numbers_below (length (func_at (program_of l.program) h).locals))) (numbers_below l.func);
      small : All (λ (ns : List (Option ℕ)). All (λ n. IfSome n (λ k. k < 32)) ns) l.all.items;
    }
