use Rattle.std.proofs.Common.{ℕ, Bool, ◌++◌, codes, sym, ◌∙◌}
use Rattle.std.specs.Fmt.{decimal}
use Rattle.plan_model.specs.Lists.{numbers_below}
use Rattle.plan_model.proofs.Numbers.{numbers_more}
use Rattle.plan_report.specs.Subjects.{subject_of}
use Rattle.plan_report.proofs.Growing.{made_kept, made_dropped}
use Rattle.aces_who.specs.Ties.{is_tied}
use Rattle.aces_who.proofs.objects.put_tied.Goals as goal
use Rattle.aces_who.proofs.objects.put_tied.Goals.{then-is_tied+in_ok-put_number, else-is_tied}

pub loop-compartment-preserved : goal.loop-compartment-preserved
loop-compartment-preserved c =
    let k : ℕ = c.loop-compartment.compartment in
    let test : ℕ → Bool = is_tied (subject_of c.args.subject.now) c.args.tie in
    elim c.if-is_tied.branch [
      | then-is_tied+in_ok-put_number w ↦ made_kept (λ n. codes " " ++ n) decimal test (numbers_below k) _ k c.args.text.now c.loop-compartment.text _ (numbers_more k) (sym c.is_tied.ensures ∙ w.if-is_tied.true) c.loop-compartment.invariant (w.text-is ∙ w.in_ok-put_number.ensures)
      | else-is_tied w ↦ made_dropped (λ n. codes " " ++ n) decimal test (numbers_below k) _ k c.args.text.now c.loop-compartment.text _ (numbers_more k) (sym c.is_tied.ensures ∙ w.if-is_tied.false) c.loop-compartment.invariant w.text-is
    ]
