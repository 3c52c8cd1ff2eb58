use Rattle.std.proofs.lemmas.Result.{on_ok_weaker}
use Rattle.ir_model.specs.Objects.{object_by}
use Rattle.need_sets.specs.Nodes.{node_by}
use Rattle.need_sets.specs.Demands.{HasObject}
use Rattle.need_sets.specs.Gathered.{Fact}
use Rattle.need_constraints.proofs.Gathering.{gathers_one}
use Rattle.need_constraints.proofs.generator.Generator.has.Goals as goal

pub returns : goal.returns
returns c = on_ok_weaker c.add_fact.result (λ a. gathers_one c.args.self.now.numbering c.args.rules.now c.add_fact.new.rules (HasObject (node_by c.args.node.now) (object_by c.args.object.now)) (Fact (record { node = c.in_ok-node.node; object = c.in_ok-object.object })) (c.in_ok-node.ensures, c.in_ok-object.ensures) a) c.add_fact.ensures
