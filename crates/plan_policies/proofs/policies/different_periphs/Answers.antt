use Rattle.std.proofs.Common.{◌≡◌, ◌∙◌, ap, map, Bor, List, ℕ, length, arith}
use Rattle.std.proofs.lemmas.List.{map_push}
use Rattle.plan_policies.proofs.Periphs.{periphs_new, periphs_known}
use Rattle.plan_policies.proofs.policies.different_periphs.Goals as goal
use Rattle.plan_policies.proofs.policies.different_periphs.Goals.{then-place_of-len+in_ok-push, else-place_of-len}

pub loop-i-preserved : goal.loop-i-preserved
loop-i-preserved c =
    let seen = map (λ (l : Bor (List ℕ)). l.now) in
    let counted : length c.loop-i.lists.items ≡ c.len.result = omega arith in
    elim c.if-place_of-len.branch [
      | then-place_of-len+in_ok-push w ↦
          let last : c.place_of.result ≡ length c.loop-i.lists.items = omega arith in
          periphs_new c.args.facts.now c.loop-i.i c.index-facts-i.result c.loop-i.lists.items c.deref.result.now c.as_slice-periphs.result.now _ c.place_of.result c.loop-i-test.true c.as_slice-periphs.ensures c.deref.ensures.value c.loop-i.invariant c.place_of.ensures last
          (ap (λ v. seen v.items) w.lists-is ∙ (ap seen w.in_ok-push.ensures.items ∙ map_push (λ (l : Bor (List ℕ)). l.now) c.loop-i.lists.items c.as_slice-periphs.result))
      | else-place_of-len w ↦
          periphs_known c.args.facts.now c.loop-i.i c.index-facts-i.result c.loop-i.lists.items c.deref.result.now c.as_slice-periphs.result.now _ c.place_of.result c.loop-i-test.true c.as_slice-periphs.ensures c.deref.ensures.value c.loop-i.invariant c.place_of.ensures (λ e. w.if-place_of-len.false (e ∙ counted))
          (ap (λ v. seen v.items) w.lists-is)
    ]
