use Rattle.std.proofs.Common.{◌≡◌, true, false, arith}
use Rattle.std.proofs.lemmas.Result.{on_ok_weaker}
use Rattle.need_sets.specs.Nodes.{node_by}
use Rattle.need_sets.specs.declared.rules.Trigger.TheVariants as trigger
use Rattle.need_sets.specs.Demands.{StoresFrom}
use Rattle.need_sets.specs.Gathered.{Asks}
use Rattle.need_constraints.proofs.Gathering.{gathers_carried, gathers_idle}
use Rattle.need_constraints.proofs.generator.Generator.stores.Goals as goal

pub returns-then-not-carried : goal.returns-then-not-carried
returns-then-not-carried c =
    let b : c.args.carried ≡ false = grind arith in
    gathers_idle c.args.self.now.numbering c.args.rules.now c.args.carried (StoresFrom (node_by c.args.pointer.now) (node_by c.args.from.now)) b

pub returns : goal.returns
returns c =
    let b : c.args.carried ≡ true = grind arith in
    on_ok_weaker c.add_trigger.result (λ a. gathers_carried c.args.self.now.numbering c.args.rules.now c.add_trigger.new.rules c.args.carried (StoresFrom (node_by c.args.pointer.now) (node_by c.args.from.now)) (Asks c.in_ok-pointer.pointer (trigger.Store c.in_ok-from.from)) b (c.in_ok-pointer.ensures, c.in_ok-from.ensures) a) c.add_trigger.ensures
