use Rattle.std.proofs.Common.{rules, ◌≡◌, ◌*◌, ◌/◌, ℕ, ap, ◌∙◌}
use Rattle.plan_model.specs.declared.graph.Cover.{Cover}
use Rattle.plan_model.specs.Covers.{joined, joined_size, lowest}
use Rattle.plan_graph.proofs.joined.join_of.Goals as goal

pub returns-clause-cover : goal.returns-clause-cover
unfolding joined
returns-clause-cover c =
    let told : c.in-Ok.size ≡ c.joined_size-bytes.result = search rules in
    let same : c.in-Ok.size ≡ joined_size c.args.one.now c.args.other.now = told ∙ c.joined_size-bytes.ensures.size in
    ap (λ (n : ℕ). let d : Cover = record { base = n / c.in-Ok.size * c.in-Ok.size; size = c.in-Ok.size } in d) c.min-low.ensures
    ∙ ap (λ (n : ℕ). let d : Cover = record { base = lowest c.args.one.now c.args.other.now / n * n; size = n } in d) same
