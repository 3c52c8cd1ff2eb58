use Rattle.std.proofs.Common.{◌↔◌, sym, subst}
use Rattle.std.specs.Prelude.{◌⊎◌, Contains}
use Rattle.std.proofs.lemmas.Result.{on_ok_weaker}
use Rattle.ir_model.specs.Objects.{object_by}
use Rattle.need_sets.specs.Sets.{sets_of}
use Rattle.needs.specs.declared.instructions.Access.TheVariants.{Read, Write}
use Rattle.needs.specs.Accesses.{Reaches}
use Rattle.needs.proofs.objects.push_objects.Goals as goal

pub returns-in-Load : goal.returns-in-Load
returns-in-Load c =
    on_ok_weaker c.push_pointed.result
    (λ h o.
    subst (λ a. Contains c.push_pointed.new.objects.items o ↔ (Contains c.args.objects.now.items o ⊎ Reaches (sets_of c.args.pts.now) c.args.func a (object_by o) c.args.by)) (sym c.in-Read.is)
    (subst (λ u. Contains c.push_pointed.new.objects.items o ↔ (Contains c.args.objects.now.items o ⊎ Reaches (sets_of c.args.pts.now) c.args.func Read (object_by o) u)) (sym c.in-Load.is) (h o)))
    c.push_pointed.ensures

pub returns-in-Store-by : goal.returns-in-Store-by
returns-in-Store-by c =
    on_ok_weaker c.push_pointed-in-Store-by.result
    (λ h o.
    subst (λ a. Contains c.push_pointed-in-Store-by.new.objects.items o ↔ (Contains c.args.objects.now.items o ⊎ Reaches (sets_of c.args.pts.now) c.args.func a (object_by o) c.args.by)) (sym c.in-Write.is)
    (subst (λ u. Contains c.push_pointed-in-Store-by.new.objects.items o ↔ (Contains c.args.objects.now.items o ⊎ Reaches (sets_of c.args.pts.now) c.args.func Write (object_by o) u)) (sym c.in-Store-by.is) (h o)))
    c.push_pointed-in-Store-by.ensures
