use Rattle.std.proofs.Common.{◌≡◌, ◌&&◌, ℕ, Bool, nat_eq, length, sym, ap, ◌∙◌, arith}
use Rattle.std.specs.List.{list_any}
use Rattle.plan_model.specs.Groups.{compartment_of}
use Rattle.plan_model.specs.Lists.{numbers_below}
use Rattle.plan_model.specs.Needs.{has_object, need_of}
use Rattle.plan_graph.proofs.Reached.{none_more}
use Rattle.plan_graph.proofs.reach.reads.Goals as goal
use Rattle.base_laws.proofs.Lists.{any_kept as any_filtered}
use Rattle.plan_model.proofs.Numbers.{one_passes}

pub returns-then-reads_there : goal.returns-then-reads_there
returns-then-reads_there c =
    let mine : ℕ → Bool = λ f. nat_eq (compartment_of c.args.groups.now f) c.args.compartment in
    let reaches : ℕ → Bool = λ f. has_object (need_of c.args.needs.now f).read c.args.object.now in
    sym (any_filtered reaches mine (numbers_below (length c.args.groups.now.of)) ∙ one_passes (λ f. mine f && reaches f) c.loop-func.func (length c.args.groups.now.of) (omega arith) (sym c.reads_there.ensures ∙ c.if-reads_there.true))

pub loop-func-preserved : goal.loop-func-preserved
loop-func-preserved c = none_more (λ f. nat_eq (compartment_of c.args.groups.now f) c.args.compartment && has_object (need_of c.args.needs.now f).read c.args.object.now) c.loop-func.func c.loop-func.invariant (sym c.reads_there.ensures ∙ c.if-reads_there.false)

pub returns : goal.returns
returns c =
    let mine : ℕ → Bool = λ f. nat_eq (compartment_of c.args.groups.now f) c.args.compartment in
    let reaches : ℕ → Bool = λ f. has_object (need_of c.args.needs.now f).read c.args.object.now in
    let whole : c.loop-func.func ≡ length c.args.groups.now.of = omega arith in
    sym (any_filtered reaches mine (numbers_below (length c.args.groups.now.of)) ∙ (ap (λ n. list_any (λ f. mine f && reaches f) (numbers_below n)) (sym whole) ∙ c.loop-func.invariant))
