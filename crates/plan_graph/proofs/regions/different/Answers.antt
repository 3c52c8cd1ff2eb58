use Rattle.std.proofs.Common.{◌++◌, [], ◌∷◌, cond, sym, ap, ◌∙◌, Bor}
use Rattle.std.proofs.lemmas.List.{map_push, append-nil}
use Rattle.plan_graph.specs.declared.users.UserLists.{UserLists}
use Rattle.plan_graph.specs.UserLists.{users_seen}
use Rattle.plan_graph.proofs.DifferentUsers.{kinds_more, kinds_seen}
use Rattle.plan_graph.proofs.regions.different.Goals as goal
use Rattle.plan_graph.proofs.regions.different.Goals.{then-is_new+in_ok-push, else-is_new}

pub loop-i-preserved : goal.loop-i-preserved
loop-i-preserved c =
    let more = kinds_more c.args.all.now c.loop-i.i c.index-all-i.result c.loop-i.kinds.items c.deref.result.now (kinds_seen c.if-is_new.kinds.items) c.is_new.result c.loop-i-test.true c.index-all-i.is c.deref.ensures.value c.loop-i.invariant c.is_new.ensures in
    elim c.if-is_new.branch [
      | then-is_new+in_ok-push w ↦ more (ap (λ v. kinds_seen v.items) w.kinds-is ∙ (ap kinds_seen w.in_ok-push.ensures.items ∙ (map_push (λ (k : Bor UserLists). users_seen k.now) c.loop-i.kinds.items _ ∙ ap (λ b. kinds_seen c.loop-i.kinds.items ++ cond b (users_seen c.index-all-i.result ∷ []) []) (sym w.if-is_new.true))))
      | else-is_new w ↦ more (ap (λ v. kinds_seen v.items) w.kinds-is ∙ (sym (append-nil (kinds_seen c.loop-i.kinds.items)) ∙ ap (λ b. kinds_seen c.loop-i.kinds.items ++ cond b (users_seen c.index-all-i.result ∷ []) []) (sym w.if-is_new.false)))
    ]
