use Rattle.std.proofs.lemmas.Result.{IfOk-weaker}
use Rattle.ir_program.specs.Seen.{program_of}
use Rattle.need_sets.specs.Numbers.{numbering_of}
use Rattle.need_sets.specs.Sets.{sets_of}
use Rattle.need_sets.specs.Pairs.{sets_by}
use Rattle.need_points_to.proofs.Least.{least_same}
use Rattle.need_points_to.proofs.least_sets.solve_counted.Goals as goal

pub returns : goal.returns
returns g c =
    record {
      least = IfOk-weaker c.into_sets.result _ _ (λ s e. least_same (program_of c.args.program.now) (sets_by (numbering_of (program_of c.args.program.now)) c.in_ok-pairs.pairs.rows) (sets_of s) e c.in_ok-pairs.ensures.least) c.into_sets.ensures.exact;
      steps = IfOk-weaker c.into_sets.result _ _ (λ s e. c.in_ok-pairs.ensures.steps s e) c.into_sets.ensures.exact;
    }
