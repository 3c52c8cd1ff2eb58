use Rattle.std.proofs.Common.{refl}
use Rattle.std.proofs.lemmas.Result.{on_ok_weaker}
use Rattle.ir_model.specs.Types.{type_of}
use Rattle.need_sets.specs.Nodes.{node_by}
use Rattle.need_sets.specs.declared.rules.Trigger.TheVariants as trigger
use Rattle.need_sets.specs.Demands.{GivesTo}
use Rattle.need_sets.specs.Gathered.{Asks}
use Rattle.need_constraints.proofs.Gathering.{gathers_one}
use Rattle.need_constraints.proofs.generator.Generator.gives.Goals as goal

pub returns : goal.returns
returns c = on_ok_weaker c.add_trigger.result (λ a. gathers_one c.args.self.now.numbering c.args.rules.now c.add_trigger.new.rules (GivesTo (node_by c.args.pointer.now) (type_of c.args.ty.now) (node_by c.args.from.now) c.args.place) (Asks c.in_ok-pointer.pointer (trigger.Argument c.args.ty c.in_ok-from.from c.args.place)) (c.in_ok-pointer.ensures, c.in_ok-from.ensures, refl, refl) a) c.add_trigger.ensures
