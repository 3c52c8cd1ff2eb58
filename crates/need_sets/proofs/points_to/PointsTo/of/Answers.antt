use Rattle.std.proofs.Common.{ap}
use Rattle.need_sets.specs.Nodes.{node_by}
use Rattle.need_sets.specs.Sets.{Sets}
use Rattle.need_sets.proofs.Members.{of_some, of_none}
use Rattle.need_sets.proofs.points_to.PointsTo.of.Goals as goal

pub returns-in-Some : goal.returns-in-Some
returns-in-Some c = of_some c.args.self.now c.self.inside.numbering (node_by c.args.n.now) c.node.result c.in-Some.number c.row.result.now (ap (λ (s : Sets). s.numbers) c.self.view_is) c.node.ensures c.in-Some.is c.row.ensures.exact c.row.ensures.rising

pub returns-in-None : goal.returns-in-None
returns-in-None c = of_none c.args.self.now c.self.inside.numbering (node_by c.args.n.now) c.node.result (ap (λ (s : Sets). s.numbers) c.self.view_is) c.node.ensures c.in-None.is
