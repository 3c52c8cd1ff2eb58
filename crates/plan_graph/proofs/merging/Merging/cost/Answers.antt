use Rattle.std.proofs.Common.{◌<◌, length, get_or, subst, sym, ap, arith}
use Rattle.ir_program.specs.Seen.{program_of}
use Rattle.plan_model.specs.Regions.{region_at}
use Rattle.plan_graph.proofs.Learned.{learned_each, learned_at}
use Rattle.plan_graph.proofs.Costs.{costs_length, in_bounds, cost_read}
use Rattle.plan_graph.proofs.merging.Merging.cost.Goals as goal

pub index-one-requires : goal.index-one-requires
index-one-requires c =
    let m = c.args.self.now in
    let each = learned_each (program_of m.program.now) m.known.items m.graph.regions m.numbers.items c.requires.merging.learned in
    omega (arith, m.numbers.ok.0)

pub index-other-requires : goal.index-other-requires
index-other-requires c =
    let m = c.args.self.now in
    let each = learned_each (program_of m.program.now) m.known.items m.graph.regions m.numbers.items c.requires.merging.learned in
    omega (arith, m.numbers.ok.0)

pub index-requires : goal.index-requires
index-requires c =
    let m = c.args.self.now in
    let one = learned_at (program_of m.program.now) m.known.items m.graph.regions m.numbers.items c.args.first c.index-one.result.now c.requires.merging.learned c.requires.first c.index-one.ensures in
    let other = learned_at (program_of m.program.now) m.known.items m.graph.regions m.numbers.items c.args.second c.index-other.result.now c.requires.merging.learned c.requires.second c.index-other.ensures in
    let low = one.below in
    let high = other.below in
    let many = costs_length m.known.items m.costs.items c.requires.merging.costs in
    omega (arith, m.costs.ok.0)

pub offset_bounds-row-min : goal.offset_bounds-row-min
offset_bounds-row-min c =
    let m = c.args.self.now in
    let one = learned_at (program_of m.program.now) m.known.items m.graph.regions m.numbers.items c.args.first c.index-one.result.now c.requires.merging.learned c.requires.first c.index-one.ensures in
    let other = learned_at (program_of m.program.now) m.known.items m.graph.regions m.numbers.items c.args.second c.index-other.result.now c.requires.merging.learned c.requires.second c.index-other.ensures in
    let there : c.min.result < length c.as_slice-row.result.now = subst (λ xs. c.min.result < length xs) (sym c.as_slice-row.ensures)
    (in_bounds m.known.items m.costs.items c.index-one.result.now c.index-other.result.now c.max.result c.min.result c.index.result.now c.requires.merging.costs c.max.ensures c.min.ensures c.index.ensures one.below other.below) in
    omega arith

pub bounds-row-min : goal.bounds-row-min
bounds-row-min c =
    let m = c.args.self.now in
    let one = learned_at (program_of m.program.now) m.known.items m.graph.regions m.numbers.items c.args.first c.index-one.result.now c.requires.merging.learned c.requires.first c.index-one.ensures in
    let other = learned_at (program_of m.program.now) m.known.items m.graph.regions m.numbers.items c.args.second c.index-other.result.now c.requires.merging.learned c.requires.second c.index-other.ensures in
    subst (λ xs. c.min.result < length xs) (sym c.as_slice-row.ensures)
    (in_bounds m.known.items m.costs.items c.index-one.result.now c.index-other.result.now c.max.result c.min.result c.index.result.now c.requires.merging.costs c.max.ensures c.min.ensures c.index.ensures one.below other.below)

pub returns : goal.returns
returns c =
    let m = c.args.self.now in
    let one = learned_at (program_of m.program.now) m.known.items m.graph.regions m.numbers.items c.args.first c.index-one.result.now c.requires.merging.learned c.requires.first c.index-one.ensures in
    let other = learned_at (program_of m.program.now) m.known.items m.graph.regions m.numbers.items c.args.second c.index-other.result.now c.requires.merging.learned c.requires.second c.index-other.ensures in
    cost_read m.known.items m.costs.items c.index-one.result.now c.index-other.result.now c.max.result c.min.result c.index.result.now c.requires.merging.costs c.max.ensures c.min.ensures c.index.ensures
    (program_of m.program.now) (region_at m.graph.regions c.args.first) (region_at m.graph.regions c.args.second) (get_or c.as_slice-row.result.now c.min.result 0) one other (ap (λ xs. get_or xs c.min.result 0) c.as_slice-row.ensures)
