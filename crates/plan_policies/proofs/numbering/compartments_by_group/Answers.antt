use Rattle.std.proofs.Common.{◌≡◌, ◌<◌, ◌≤◌, ◌+◌, [], ◌∷◌, ◌++◌, get_or, length, take, map, sym, ap, subst, ◌∙◌, List, ℕ, arith}
use Rattle.std.proofs.lemmas.List.{map_more, take_all, get_or_read}
use Rattle.plan_model.specs.declared.groups.Groups.{Groups}
use Rattle.plan_model.specs.Compartments.{compartments, compartment_number, used_groups}
use Rattle.plan_policies.specs.Marks.{AreMarks, AreNumbers}
use Rattle.plan_policies.proofs.UsedGroups.{all_below}
use Rattle.plan_policies.proofs.numbering.compartments_by_group.Goals as goal

of_more : (groups numbers before after : List ℕ) (i x : ℕ) → AreNumbers groups numbers → i < length groups → get_or groups i 0 < length numbers → x ≡ get_or numbers (get_or groups i 0) 0
    → before ≡ map (compartment_number groups) (take i groups) → after ≡ before ++ x ∷ [] → after ≡ map (compartment_number groups) (take (i + 1) groups)
of_more groups numbers before after i x h l m e b a = a ∙ (ap (λ xs. xs ++ x ∷ []) b ∙ (ap (λ y. map (compartment_number groups) (take i groups) ++ y ∷ []) (e ∙ h (get_or groups i 0) m) ∙ sym (map_more (compartment_number groups) groups i 0 l)))

made : (groups of : List ℕ) (i count n : ℕ) → of ≡ map (compartment_number groups) (take i groups) → length groups ≤ i → count ≡ compartment_number groups n → compartment_number groups n ≡ length (used_groups groups)
    → (let g : Groups = record { of = of; count = count } in g) ≡ compartments groups
unfolding compartments
made groups of i count n o l c a =
    ap (λ (xs : List ℕ). let g : Groups = record { of = xs; count = count } in g) (o ∙ ap (map (compartment_number groups)) (take_all i groups l))
    ∙ ap (λ (k : ℕ). let g : Groups = record { of = map (compartment_number groups) groups; count = k } in g) (c ∙ a)

pub loop-i-preserved : goal.loop-i-preserved
loop-i-preserved c =
    let exact : AreNumbers c.args.groups.now c.in_ok-numbers.numbers.items = c.in_ok-numbers.ensures.exact c.args.groups.now (subst (AreMarks c.args.groups.now) (sym c.deref.ensures.value) c.in_ok-used.ensures.exact) in
    let group : get_or c.args.groups.now c.loop-i.i 0 < c.args.count = c.requires c.loop-i.i 0 c.loop-i-test.true in
    let longer : length c.in_ok-numbers.numbers.items ≡ c.args.count + 1 = c.in_ok-numbers.ensures.each ∙ (ap (λ us. length us + 1) c.deref.ensures.value ∙ ap (λ n. n + 1) c.in_ok-used.ensures.each) in
    let there : get_or c.args.groups.now c.loop-i.i 0 < length c.in_ok-numbers.numbers.items = omega arith in
    of_more c.args.groups.now c.in_ok-numbers.numbers.items c.loop-i.of.items _ c.loop-i.i _ exact c.loop-i-test.true there
    (get_or_read c.in_ok-numbers.numbers.items (get_or c.args.groups.now c.loop-i.i 0) c.index.result.now there c.index.ensures 0) c.loop-i.invariant c.in_ok-push.ensures.items

pub returns : goal.returns
returns c =
    let exact : AreNumbers c.args.groups.now c.in_ok-numbers.numbers.items = c.in_ok-numbers.ensures.exact c.args.groups.now (subst (AreMarks c.args.groups.now) (sym c.deref.ensures.value) c.in_ok-used.ensures.exact) in
    let longer : length c.in_ok-numbers.numbers.items ≡ c.args.count + 1 = c.in_ok-numbers.ensures.each ∙ (ap (λ us. length us + 1) c.deref.ensures.value ∙ ap (λ n. n + 1) c.in_ok-used.ensures.each) in
    let there : c.args.count < length c.in_ok-numbers.numbers.items = omega arith in
    ap (λ (xs : List ℕ). let g : Groups = record { of = xs; count = c.index-2.result.now } in g) c.new.ensures
    ∙ made c.args.groups.now c.loop-i.of.items c.loop-i.i c.index-2.result.now c.args.count c.loop-i.invariant c.loop-i-test.false
    (get_or_read c.in_ok-numbers.numbers.items c.args.count c.index-2.result.now there c.index-2.ensures 0 ∙ exact c.args.count there) (all_below c.args.groups.now c.args.count c.requires)
