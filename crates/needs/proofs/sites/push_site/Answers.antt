use Rattle.std.proofs.Common.{◌≡◌, ◌<◌, [], ◌∷◌, length, sym, ap, subst, ◌∙◌}
use Rattle.std.specs.Ordering.{nat_cmp}
use Rattle.std.proofs.lemmas.List.{get_or_default}
use Rattle.std.proofs.lemmas.Result.{on_ok_weaker}
use Rattle.ir_model.specs.Resolved.{Does}
use Rattle.ir_program.specs.Parts.{operation_of}
use Rattle.plan_model.specs.Lists.{ListsExactly}
use Rattle.plan_model.specs.Calls.{calls_from}
use Rattle.needs.specs.Accesses.{IsTarget}
use Rattle.needs.specs.Sites.{CallsBelow}
use Rattle.needs.proofs.Walked.{idle, same_adds, adds_one, one_target, site_is}
use Rattle.needs.proofs.sites.push_site.Goals as goal

pub returns-in-Const : goal.returns-in-Const
returns-in-Const c = λ p S ks h e. idle p S c.args.sites.now.items _ (ap (λ o. calls_from c.args.place.func c.args.place.block c.args.place.inst (operation_of ks o ∷ [])) c.in-Const.is)

pub returns-in-Move : goal.returns-in-Move
returns-in-Move c = λ p S ks h e. idle p S c.args.sites.now.items _ (ap (λ o. calls_from c.args.place.func c.args.place.block c.args.place.inst (operation_of ks o ∷ [])) c.in-Move.is)

pub returns-in-Bin : goal.returns-in-Bin
returns-in-Bin c = λ p S ks h e. idle p S c.args.sites.now.items _ (ap (λ o. calls_from c.args.place.func c.args.place.block c.args.place.inst (operation_of ks o ∷ [])) c.in-Bin.is)

pub returns-in-Cmp : goal.returns-in-Cmp
returns-in-Cmp c = λ p S ks h e. idle p S c.args.sites.now.items _ (ap (λ o. calls_from c.args.place.func c.args.place.block c.args.place.inst (operation_of ks o ∷ [])) c.in-Cmp.is)

pub returns-in-Addr : goal.returns-in-Addr
returns-in-Addr c = λ p S ks h e. idle p S c.args.sites.now.items _ (ap (λ o. calls_from c.args.place.func c.args.place.block c.args.place.inst (operation_of ks o ∷ [])) c.in-Addr.is)

pub returns-in-FAddr : goal.returns-in-FAddr
returns-in-FAddr c = λ p S ks h e. idle p S c.args.sites.now.items _ (ap (λ o. calls_from c.args.place.func c.args.place.block c.args.place.inst (operation_of ks o ∷ [])) c.in-FAddr.is)

pub returns-in-Elem : goal.returns-in-Elem
returns-in-Elem c = λ p S ks h e. idle p S c.args.sites.now.items _ (ap (λ o. calls_from c.args.place.func c.args.place.block c.args.place.inst (operation_of ks o ∷ [])) c.in-Elem.is)

pub returns-in-Field : goal.returns-in-Field
returns-in-Field c = λ p S ks h e. idle p S c.args.sites.now.items _ (ap (λ o. calls_from c.args.place.func c.args.place.block c.args.place.inst (operation_of ks o ∷ [])) c.in-Field.is)

pub returns-in-Load : goal.returns-in-Load
returns-in-Load c = λ p S ks h e. idle p S c.args.sites.now.items _ (ap (λ o. calls_from c.args.place.func c.args.place.block c.args.place.inst (operation_of ks o ∷ [])) c.in-Load.is)

pub returns-in-Store : goal.returns-in-Store
returns-in-Store c = λ p S ks h e. idle p S c.args.sites.now.items _ (ap (λ o. calls_from c.args.place.func c.args.place.block c.args.place.inst (operation_of ks o ∷ [])) c.in-Store.is)

pub returns-in_ok-called-in-Call : goal.returns-in_ok-called-in-Call
returns-in_ok-called-in-Call c =
    on_ok_weaker c.push.result
    (λ q p S ks h e.
    let a = c.args.place in
    let o = c.args.sites.now.items in
    let n = c.push.new.sites.items in
    let g = c.in-Call.func in
    let is = ap (λ x. operation_of ks x) c.in-Call.is in
    let t = subst (ListsExactly nat_cmp (λ x. x ≡ g)) (sym (c.in_ok-called-in-Call.ensures.items ∙ ap (λ y. y ∷ []) c.from.ensures)) (one_target g) in
    same_adds p S o n _ _ (sym (ap (λ x. calls_from a.func a.block a.inst (x ∷ [])) is))
    (adds_one p S o n _ _ q (site_is p S a.func a.block a.inst _ c.in_ok-called-in-Call.called.items (e ∙ ap Does is) t)))
    c.push.ensures

pub returns-in_ok-called-in-ICall : goal.returns-in_ok-called-in-ICall
returns-in_ok-called-in-ICall c =
    on_ok_weaker c.push-in-ICall.result
    (λ q p S ks h e.
    let a = c.args.place in
    let o = c.args.sites.now.items in
    let n = c.push-in-ICall.new.sites.items in
    let r = c.in-ICall.func in
    let ts = c.args.targets.now in
    let below : r < length ts = subst (CallsBelow (length ts)) c.in-ICall.is c.requires in
    let is = ap (λ x. operation_of ks x) c.in-ICall.is in
    let d = c.in_ok-called-in-ICall.ensures.items ∙ (c.as_slice.ensures ∙ (c.index-targets-func.is ∙ get_or_default ts r c.index-targets-func.result [] below)) in
    let t = subst (ListsExactly nat_cmp (IsTarget p S a.func r)) (sym d) (h r below) in
    same_adds p S o n _ _ (sym (ap (λ x. calls_from a.func a.block a.inst (x ∷ [])) is))
    (adds_one p S o n _ _ q (site_is p S a.func a.block a.inst _ c.in_ok-called-in-ICall.called.items (e ∙ ap Does is) t)))
    c.push-in-ICall.ensures
