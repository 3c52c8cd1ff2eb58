use Rattle.std.proofs.Common.{false, get_or, ap, ◌∙◌, arith}
use Rattle.ir_program.specs.Seen.{program_of}
use Rattle.plan_model.specs.Regions.{region_at}
use Rattle.plan_graph.proofs.Learned.{learned_each, learned_at, known_read}
use Rattle.plan_graph.proofs.UsersHave.{has_union}
use Rattle.plan_graph.proofs.merging.Merging.is_used.Goals as goal

pub index-requires : goal.index-requires
index-requires c =
    let m = c.args.self.now in
    let each = learned_each (program_of m.program.now) m.known.items m.graph.regions m.numbers.items c.requires.merging.learned in
    omega (arith, m.numbers.ok.0)

pub index-known-requires : goal.index-known-requires
index-known-requires c =
    let m = c.args.self.now in
    let one = learned_at (program_of m.program.now) m.known.items m.graph.regions m.numbers.items c.args.place c.index.result.now c.requires.merging.learned c.requires.place c.index.ensures in
    let low = one.below in
    omega (arith, m.known.ok.0)

pub returns : goal.returns
returns c =
    let m = c.args.self.now in
    let one = learned_at (program_of m.program.now) m.known.items m.graph.regions m.numbers.items c.args.place c.index.result.now c.requires.merging.learned c.requires.place c.index.ensures in
    let known = known_read (program_of m.program.now) m.known.items (region_at m.graph.regions c.args.place) c.index.result.now c.index-known.result.now one c.index-known.ensures in
    c.is_flagged.ensures ∙ (ap (λ flags. get_or flags c.args.compartment false) c.as_slice.ensures ∙ (known.uses c.args.compartment ∙ has_union (region_at m.graph.regions c.args.place).writers (region_at m.graph.regions c.args.place).readers c.args.compartment))
