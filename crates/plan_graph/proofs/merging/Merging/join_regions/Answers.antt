use Rattle.std.proofs.Common.{◌≡◌, set, subst, sym, ap, ◌∙◌, arith}
use Rattle.std.specs.List.{remove}
use Rattle.ir_program.specs.Seen.{program_of}
use Rattle.plan_graph.specs.Known.{AreLearned}
use Rattle.plan_graph.proofs.Learned.{learned_each, learned_joined}
use Rattle.plan_graph.proofs.merging.Merging.join_regions.Goals as goal

pub index_mut-requires-2 : goal.index_mut-requires-2
index_mut-requires-2 c =
    let m = c.args.self.now in
    let each = learned_each (program_of m.program.now) m.known.items m.graph.regions m.numbers.items c.requires.merging.learned in
    omega (arith, m.numbers.ok.0)

pub remove-requires-2 : goal.remove-requires-2
remove-requires-2 c =
    let m = c.args.self.now in
    let each = learned_each (program_of m.program.now) m.known.items m.graph.regions m.numbers.items c.requires.merging.learned in
    omega (arith, m.numbers.ok.0)

pub returns-clause-merging : goal.returns-clause-merging
returns-clause-merging c =
    let m = c.args.self.now in
    let p = program_of m.program.now in
    let told = c.in_ok-number.ensures.known in
    let after = c.learn.new.known.items in
    let joined = remove (set m.graph.regions c.args.first c.in_ok-region.region) c.args.second in
    let regions : c.new-3.result ≡ joined =
    c.new-3.ensures ∙ (c.remove.ensures.items ∙ ap (λ rs. remove (set rs c.args.first c.in_ok-region.region) c.args.second) (c.into_vec-regions.ensures ∙ c.replace.ensures.value)) in
    record {
      learned = subst (λ rs. AreLearned p after rs c.remove-2.new.self.items) (sym regions)
          (subst (λ ns. AreLearned p after joined ns) (sym c.remove-2.ensures.items)
          (learned_joined p m.known.items after told.0 m.graph.regions c.in_ok-region.region m.numbers.items c.in_ok-number.number c.args.first c.args.second c.requires.merging.learned told.1 told.2 c.in_ok-number.ensures.number));
      costs = c.in_ok-number.ensures.costs;
    }
