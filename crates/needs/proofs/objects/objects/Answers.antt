use Rattle.std.proofs.Common.{◌≡◌, true, sym, ap, subst, ◌∙◌, arith}
use Rattle.std.specs.Prelude.{filter}
use Rattle.std.proofs.lemmas.List.{take_all}
use Rattle.ir_model.specs.Objects.{object_by, compare_objects}
use Rattle.ir_program.specs.Seen.{program_of}
use Rattle.need_sets.specs.Sets.{sets_of}
use Rattle.plan_model.specs.Lists.{ListsExactly}
use Rattle.need_lists.specs.AnyOf.{AnyOf}
use Rattle.needs.specs.Accesses.{Reaches, is_open}
use Rattle.need_lists.proofs.Exact.{kept_exactly}
use Rattle.needs.proofs.objects.objects.Goals as goal

pub returns : goal.returns
returns c =
    let p = program_of c.args.program.now in
    let all = c.in_ok-all.all.items in
    let e = c.loop-i.invariant ∙ ap (filter (is_open p c.args.access)) (take_all c.loop-i.i all (omega arith)) in
    subst (ListsExactly compare_objects (λ o. (is_open p c.args.access o ≡ true) × AnyOf (Reaches (sets_of c.args.pts.now) c.args.func c.args.access (object_by o)) c.args.uses.now)) (sym e)
    (kept_exactly compare_objects (λ o. AnyOf (Reaches (sets_of c.args.pts.now) c.args.func c.args.access (object_by o)) c.args.uses.now) (is_open p c.args.access) all c.in_ok-all.ensures)
