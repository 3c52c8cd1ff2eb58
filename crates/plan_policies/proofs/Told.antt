-- What is told of functions.
use Rattle.std.proofs.Common.{◌≡◌, ◌<◌, ◌+◌, ℕ, List, [], length, map, get_or, nat_eq, not, ◌&&◌, ap, sym, ◌∙◌, subst, arith}
use Rattle.std.specs.List.{All}
use Rattle.std.proofs.lemmas.List.{get_or-map, length-map}
use Rattle.std.proofs.lemmas.List.Elements.{All-filter}
use Rattle.std.proofs.lemmas.List.FromFn.{length-range_with_len, get_or-range_with_len}
use Rattle.plan_model.specs.declared.groups.FuncFacts.{FuncFacts}
use Rattle.plan_model.specs.declared.needs.Needs.{Needs}
use Rattle.plan_model.specs.Lists.{numbers_below, has}
use Rattle.plan_model.specs.Needs.{need_of}
use Rattle.plan_model.specs.Facts.{callers_of, facts_of, all_facts}
use Rattle.plan_policies.specs.Functions.{AreFunctions, HasCallersBelow}
use Rattle.plan_policies.specs.declared.origins.Origin.{Origin}
use Rattle.plan_model.proofs.Numbers.{all_below}

abbrev pub names_of : List Origin → List (List ℕ)
names_of os = map (λ (o : Origin). o.name.now) os

abbrev pub files_of : List Origin → List ℕ
files_of os = map (λ (o : Origin). o.file) os

-- one function's, by its origin
pub fact_read : (os : List Origin) (n : Needs) (i : ℕ) (o : Origin) (f : FuncFacts) → i < length os → o ≡ get_or os i o
    → f ≡ record { index = i; name = o.name.now; file = o.file; periphs = (need_of n i).periphs; callers = callers_of n i }
    → f ≡ facts_of (names_of os) (files_of os) n i
fact_read os n i o f l r e =
    let name : get_or (names_of os) i [] ≡ o.name.now = get_or-map (λ (o : Origin). o.name.now) os i o [] l ∙ ap (λ (o : Origin). o.name.now) (sym r) in
    let file : get_or (files_of os) i 0 ≡ o.file = get_or-map (λ (o : Origin). o.file) os i o 0 l ∙ ap (λ (o : Origin). o.file) (sym r) in
    e ∙ (ap (λ (m : List ℕ). let f : FuncFacts = record { index = i; name = m; file = o.file; periphs = (need_of n i).periphs; callers = callers_of n i } in f) (sym name)
    ∙ ap (λ (k : ℕ). let f : FuncFacts = record { index = i; name = get_or (names_of os) i []; file = k; periphs = (need_of n i).periphs; callers = callers_of n i } in f) (sym file))

callers_small : (n : Needs) (f : ℕ) → All (λ h. h < length n.funcs) (callers_of n f)
callers_small n f = All-filter (λ h. not (nat_eq h f) && has (need_of n h).callees f) (λ h. h < length n.funcs) (numbers_below (length n.funcs)) (all_below (length n.funcs))

pub length_told : (names : List (List ℕ)) (files : List ℕ) (n : Needs) → length (all_facts names files n) ≡ length n.funcs
length_told names files n = length-map (numbers_below (length n.funcs)) (facts_of names files n) ∙ length-range_with_len 0 (length n.funcs)

told_at : (names : List (List ℕ)) (files : List ℕ) (n : Needs) (k : ℕ) (d : FuncFacts) → k < length (all_facts names files n) → get_or (all_facts names files n) k d ≡ facts_of names files n k
told_at names files n k d l =
    let place : 0 + k ≡ k = omega arith in
    let count = length_told names files n in
    let below = length-range_with_len 0 (length n.funcs) in
    get_or-map (facts_of names files n) (numbers_below (length n.funcs)) k 0 d (omega arith) ∙ ap (facts_of names files n) (get_or-range_with_len 0 (length n.funcs) k 0 (omega arith) ∙ place)

-- they have their places as their numbers
pub told_are_functions : (names : List (List ℕ)) (files : List ℕ) (n : Needs) → AreFunctions (all_facts names files n)
told_are_functions names files n = record {
  numbered = λ k d l. ap (λ (f : FuncFacts). f.index) (told_at names files n k d l);
  callers = λ k d l.
      let count : length n.funcs ≡ length (all_facts names files n) = sym (length_told names files n) in
      subst (λ (f : FuncFacts). HasCallersBelow (length (all_facts names files n)) f) (sym (told_at names files n k d l)) (subst (λ (b : ℕ). All (λ h. h < b) (callers_of n k)) count (callers_small n k));
}

-- all are told
pub all_told : (os : List Origin) (n : Needs) (i : ℕ) (fs : List FuncFacts) → fs ≡ map (facts_of (names_of os) (files_of os) n) (numbers_below i) → i ≡ length n.funcs
    → fs ≡ all_facts (names_of os) (files_of os) n
all_told os n i fs e same = e ∙ ap (λ k. map (facts_of (names_of os) (files_of os) n) (numbers_below k)) same
