use Rattle.std.proofs.Common.{ℕ, Bool, nat_eq, sym, ◌∙◌}
use Rattle.plan_model.specs.Groups.{compartment_of}
use Rattle.plan_model.specs.Lists.{numbers_below}
use Rattle.plan_report.specs.Subjects.{subject_of}
use Rattle.plan_report.specs.CompartmentLines.{function_line}
use Rattle.plan_report.proofs.Growing.{put_kept, put_dropped}
use Rattle.plan_report.proofs.compartment.put_functions.Goals as goal
use Rattle.plan_report.proofs.compartment.put_functions.Goals.{then-stands_in+in_ok-put_function, else-stands_in}
use Rattle.plan_model.proofs.Numbers.{numbers_more}

pub loop-func-preserved : goal.loop-func-preserved
loop-func-preserved c =
    let test : ℕ → Bool = λ f. nat_eq (compartment_of c.args.subject.now.graph.now.groups f) c.args.compartment in
    let k : ℕ = c.loop-func.func in
    elim c.if-stands_in.branch [
      | then-stands_in+in_ok-put_function w ↦ put_kept (function_line (subject_of c.args.subject.now)) test (numbers_below k) _ k c.args.text.now c.loop-func.text _ (numbers_more k) (sym c.stands_in.ensures ∙ w.if-stands_in.true) c.loop-func.invariant (w.text-is ∙ w.in_ok-put_function.ensures)
      | else-stands_in w ↦ put_dropped (function_line (subject_of c.args.subject.now)) test (numbers_below k) _ k c.args.text.now c.loop-func.text _ (numbers_more k) (sym c.stands_in.ensures ∙ w.if-stands_in.false) c.loop-func.invariant w.text-is
    ]
