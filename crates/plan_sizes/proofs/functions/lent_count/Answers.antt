use Rattle.std.proofs.Common.{ℕ, Bool, true, false, sym, ◌∙◌, arith}
use Rattle.std.specs.List.{list_any}
use Rattle.plan_model.specs.Lending.{is_local}
use Rattle.plan_sizes.proofs.Grown.{count_more}
use Rattle.plan_sizes.proofs.functions.lent_count.Goals as goal
use Rattle.plan_sizes.proofs.functions.lent_count.Goals.{then-is_lent+in_ok-count, else-is_lent}

pub loop-local-preserved : goal.loop-local-preserved
loop-local-preserved c =
    let p : ℕ → Bool = λ k. list_any (is_local c.args.func k) c.args.lent.now in
    let k = c.loop-local.local in
    elim c.if-is_lent.branch [
      | then-is_lent+in_ok-count w ↦
          let m = count_more p k true (sym c.is_lent.ensures ∙ w.if-is_lent.true) in
          omega (arith, m, c.loop-local.invariant, w.count-is, w.in_ok-count.ensures)
      | else-is_lent w ↦
          let m = count_more p k false (sym c.is_lent.ensures ∙ w.if-is_lent.false) in
          omega (arith, m, c.loop-local.invariant, w.count-is)
    ]
