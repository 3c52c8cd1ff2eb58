use Rattle.std.proofs.Common.{◌+◌, length, sym, ap, subst, ◌∙◌}
use Rattle.std.specs.Ordering.{nat_cmp}
use Rattle.std.proofs.lemmas.List.{length_push}
use Rattle.ir_program.specs.Seen.{program_of}
use Rattle.need_sets.specs.Sets.{sets_of}
use Rattle.plan_model.specs.Lists.{ListsExactly}
use Rattle.needs.specs.Accesses.{IsTarget}
use Rattle.needs.proofs.FunctionTargets.{targets_pushed}
use Rattle.needs.proofs.targets.all_targets.Goals as goal

pub loop-register-preserved : goal.loop-register-preserved
loop-register-preserved c =
    let p = program_of c.args.program.now in
    let S = sets_of c.args.pts.now in
    let e = c.in_ok-push.ensures.items in
    record {
      count = ap length e ∙ (length_push c.loop-register.all.items _ ∙ ap (λ n. n + 1) c.loop-register.invariant.count);
      each =
          targets_pushed p S c.args.func c.loop-register.all.items c.push.new.self.items c.new.result e c.loop-register.invariant.each
          (subst (λ r. ListsExactly nat_cmp (IsTarget p S c.args.func r) c.new.result) (sym c.loop-register.invariant.count)
          (subst (λ l. ListsExactly nat_cmp (IsTarget p S c.args.func c.loop-register.register) l) (sym c.new.ensures) c.in_ok-next.ensures));
    }
