use Rattle.std.proofs.Common.{◌&&◌, get_or, nat_eq, ap, sym, ◌∙◌, arith}
use Rattle.std.proofs.lemmas.Bool.{eq-eqb}
use Rattle.plan_model.specs.Lending.{is_local}
use Rattle.image_model.proofs.FirstPlaces.{first_passes, is_position}
use Rattle.image_entries.proofs.numbers.lend_number.Goals as goal

pub returns-then-pair-local-clause-exact : goal.returns-then-pair-local-clause-exact
returns-then-pair-local-clause-exact c =
    let p = is_local c.args.func c.args.local in
    let xs = c.args.lent.now in
    let k = c.loop-number.number in
    let x = get_or xs k (0, 0) in
    let t = ap (λ b. b && nat_eq x.1 c.args.local) (eq-eqb x.0 c.args.func c.if-pair-func.true) ∙ eq-eqb x.1 c.args.local c.if-pair-local.true in
    let z = first_passes p xs k (0, 0) c.loop-number-test.true t in
    sym (is_position p xs k (omega (arith, z, c.loop-number.invariant)) c.loop-number-test.true)
