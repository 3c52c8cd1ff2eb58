use Rattle.std.proofs.Common.{◌≡◌, length, ap, ◌∙◌, arith}
use Rattle.plan_graph.specs.Known.{row_of}
use Rattle.plan_graph.proofs.Costs.{costs_more}
use Rattle.plan_graph.proofs.merging.learn.Goals as goal

pub returns-clause-costs : goal.returns-clause-costs
returns-clause-costs c =
    let number : c.len-number.result ≡ length c.args.known.now.items = omega (arith, c.args.known.now.ok.0) in
    let row : c.new.result ≡ row_of c.push.new.self.items (length c.args.known.now.items) =
    c.new.ensures ∙ (c.in_ok-row.ensures ∙ (ap (λ js. row_of js c.len-number.result) c.deref.ensures.value ∙ ap (row_of c.push.new.self.items) number)) in
    costs_more c.args.known.now.items c.push.new.self.items c.in_ok-known_of.field-0 c.args.costs.now.items c.push-2.new.self.items c.new.result c.requires c.in_ok-push.ensures.items row c.in_ok-push-2.ensures.items
