use Rattle.std.proofs.Common.{rules, ◌≡◌, ◌<◌, ◌≤◌, ◌+◌, Bool, false, cond, get_or, length, refl, sym, ap, subst, ◌∙◌, List, ℕ, arith}
use Rattle.std.proofs.lemmas.Bool.{cond_both}
use Rattle.std.proofs.lemmas.List.{length_push}
use Rattle.plan_model.specs.Lists.{has}
use Rattle.plan_model.specs.Compartments.{compartment_number}
use Rattle.plan_policies.specs.Marks.{AreMarks}
use Rattle.plan_policies.proofs.UsedGroups.{none_below, one_below}
use Rattle.plan_policies.proofs.NextNumber.{first_number, next_number}
use Rattle.plan_policies.proofs.numbering.numbers.Goals as goal

pub loop-i-init : goal.loop-i-init
loop-i-init c = record {
  each = search rules;
  small = omega arith;
  number = λ groups marks. sym (none_below groups);
  exact = λ groups marks. first_number groups _ (search rules);
}

number_more : (groups : List ℕ) (used : List Bool) (i before after one : ℕ) (it : Bool) → AreMarks groups used → i < length used → it ≡ get_or used i false → one ≡ cond it 1 0
    → before ≡ compartment_number groups i → after ≡ before + one → after ≡ compartment_number groups (i + 1)
number_more groups used i before after one it marks l read o b a =
    let marked : it ≡ has groups i = read ∙ marks i l in
    a ∙ (ap (λ n. n + one) b ∙ (ap (λ n. compartment_number groups i + n) (o ∙ ap (λ m. cond m 1 0) marked) ∙ sym (one_below groups i)))

pub loop-i-preserved : goal.loop-i-preserved
loop-i-preserved c =
    let it : Bool = get_or c.args.used.now c.loop-i.i false in
    let one : c.from-number.result ≡ cond it 1 0 = search rules in
    let small : c.from-number.result ≤ 1 = subst (λ n. n ≤ 1) (sym one) (cond_both it 1 0 (λ n. n ≤ 1) (λ _. omega arith) (λ _. omega arith)) in
    let number = λ (groups : List ℕ) (marks : AreMarks groups c.args.used.now). number_more groups c.args.used.now c.loop-i.i c.loop-i.number (c.loop-i.number + c.from-number.result) c.from-number.result it marks c.loop-i-test.true refl one (c.loop-i.invariant.number groups marks) refl in
    record {
      each = ap length c.in_ok-push-2.ensures.items ∙ (length_push c.loop-i.numbers.items (c.loop-i.number + c.from-number.result) ∙ ap (λ n. n + 1) c.loop-i.invariant.each);
      small = omega arith;
      number = number;
      exact = λ groups marks. next_number groups c.loop-i.numbers.items _ _ (c.loop-i.invariant.exact groups marks) c.in_ok-push-2.ensures.items (number groups marks ∙ ap (compartment_number groups) (sym c.loop-i.invariant.each));
    }
