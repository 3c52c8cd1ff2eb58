use Rattle.std.proofs.Common.{◌≡◌, true, false, arith}
use Rattle.std.proofs.lemmas.Result.{on_ok_weaker}
use Rattle.need_sets.specs.Nodes.{node_by}
use Rattle.need_sets.specs.Demands.{PassesOn}
use Rattle.need_sets.specs.Gathered.{Copy}
use Rattle.need_constraints.proofs.Gathering.{gathers_carried, gathers_idle}
use Rattle.need_constraints.proofs.generator.Generator.passes.Goals as goal

pub returns-then-not-carried : goal.returns-then-not-carried
returns-then-not-carried c =
    let b : c.args.carried ≡ false = grind arith in
    gathers_idle c.args.self.now.numbering c.args.rules.now c.args.carried (PassesOn (node_by c.args.from.now) (node_by c.args.to.now)) b

pub returns : goal.returns
returns c =
    let b : c.args.carried ≡ true = grind arith in
    on_ok_weaker c.add_copy.result (λ a. gathers_carried c.args.self.now.numbering c.args.rules.now c.add_copy.new.rules c.args.carried (PassesOn (node_by c.args.from.now) (node_by c.args.to.now)) (Copy (record { from = c.in_ok-from.from; to = c.in_ok-to.to })) b (c.in_ok-from.ensures, c.in_ok-to.ensures) a) c.add_copy.ensures
