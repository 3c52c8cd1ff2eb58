use Rattle.std.proofs.Common.{◌↔◌, sym, subst}
use Rattle.std.specs.Prelude.{◌⊎◌, Contains}
use Rattle.std.specs.Ordering.{nat_cmp}
use Rattle.std.proofs.lemmas.Result.{IfOk-weaker}
use Rattle.ir_model.specs.declared.object.ObjId.TheVariants as id
use Rattle.need_lists.proofs.Exact.{exactly_by, appended}
use Rattle.needs.proofs.Matched.{either}
use Rattle.needs.proofs.need.periphs.Goals as goal

pub returns : goal.returns
returns c =
    let all = c.extend_from_slice.new.self.items in
    IfOk-weaker c.each_once.result _ _
    (λ qs e. exactly_by nat_cmp (Contains all) (λ q. Contains c.args.written.now (id.Periph q) ⊎ Contains c.args.read.now (id.Periph q)) qs.items
    (λ q. either
    (appended c.in_ok-all.all.items all c.as_slice.result.now q (Contains c.args.read.now (id.Periph q)) c.in_ok-extend_from_slice.ensures.items
    (subst (λ l. Contains l q ↔ Contains c.args.read.now (id.Periph q)) (sym c.as_slice.ensures.value) (c.in_ok-others.ensures q)))
    (c.in_ok-all.ensures q)) e)
    c.each_once.ensures
