use Rattle.std.proofs.Common.{rules, ◌≡◌, ◌∙◌, ◌<◌, ap, sym, subst, length, map, get_or, Bor, List, arith}
use Rattle.std.specs.List.{All}
use Rattle.std.proofs.lemmas.Fn.{always_returns_same}
use Rattle.std.proofs.lemmas.List.{length-map, get_or-map}
use Rattle.std.proofs.lemmas.List.Sorted.{All-permutation}
use Rattle.plan_model.specs.declared.groups.FuncFacts.{FuncFacts}
use Rattle.plan_model.specs.Lists.{in_order}
use Rattle.plan_model.proofs.Orders.{sorted_is_in_order}
use Rattle.plan_policies.specs.Functions.{AreFunctions, IsAmong}
use Rattle.plan_policies.proofs.ByName.{named_before, named_weakly, in_order_seen}
use Rattle.plan_policies.proofs.policies.sorted_by_name.Goals as goal

among : (fs : List FuncFacts) (bs : List (Bor FuncFacts)) → AreFunctions fs → map (λ (b : Bor FuncFacts). b.now) bs ≡ fs → All (λ (b : Bor FuncFacts). IsAmong (length fs) b.now) bs
among fs bs h e k d l =
    let same = length-map bs (λ (b : Bor FuncFacts). b.now) in
    let whole = ap length e in
    let there : k < length fs = omega arith in
    let item : get_or fs k d.now ≡ (get_or bs k d).now = ap (λ xs. get_or xs k d.now) (sym e) ∙ get_or-map (λ (b : Bor FuncFacts). b.now) bs k d d.now l in
    subst (IsAmong (length fs)) item (record { index = subst (λ n. n < length fs) (sym (h.numbered k d.now there)) there; callers = h.callers k d.now there })

pub returns-clause-order : goal.returns-clause-order
returns-clause-order c =
    let lt = λ (a b : Bor FuncFacts). named_before a.now b.now in
    let compares = always_returns_same _ _ _ (λ a r f' k. search rules) in
    let sorted : c.sort_by.new.self.items ≡ in_order lt c.in_ok-sorted.sorted.items = sorted_is_in_order lt named_weakly c.in_ok-sorted.sorted.items c.sort_by.new.self.items (c.in_ok-sort_by.ensures.sorted lt named_weakly compares) (c.sort_by.ensures.stable lt named_weakly compares) in
    ap (map (λ (b : Bor FuncFacts). b.now)) sorted ∙ (in_order_seen (λ (b : Bor FuncFacts). b.now) named_before c.in_ok-sorted.sorted.items ∙ ap (in_order named_before) c.in_ok-sorted.ensures)

pub returns-clause-among : goal.returns-clause-among
returns-clause-among c =
    All-permutation (λ (b : Bor FuncFacts). IsAmong (length c.args.facts.now) b.now) c.in_ok-sorted.sorted.items c.sort_by.new.self.items c.sort_by.ensures.permutation
    (among c.args.facts.now c.in_ok-sorted.sorted.items c.requires c.in_ok-sorted.ensures)
