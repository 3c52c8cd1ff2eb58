use Rattle.std.proofs.Common.{◌≡◌, ℕ, ◌<◌, length, get_or}
use Rattle.std.specs.List.{AllZip, flat_map}
use Rattle.ir_program.specs.Seen.{program_of}
use Rattle.need_sets.specs.Sets.{sets_of}
use Rattle.plan_model.specs.Lists.{numbers_below}
use Rattle.plan_model.specs.Calls.{calls_of, IsSiteOf}
use Rattle.plan_model.specs.Needs.{no_need, IsNeedOf}
use Rattle.needs.proofs.all_needs.Given as goal

abbrev pub invariant-loop-func : goal.invariant-loop-func
invariant-loop-func l = record {
  count : length l.funcs.items ≡ l.func;
  funcs : (f : ℕ) → f < l.func → IsNeedOf (program_of l.program) (sets_of l.pts) f (get_or l.funcs.items f no_need);
  sites : AllZip (IsSiteOf (program_of l.program) (sets_of l.pts)) (flat_map (calls_of (program_of l.program)) (numbers_below l.func)) l.sites.items;
}
