-- Functions move one by one.
use Rattle.std.proofs.Common.{◌≡◌, ◌<◌, ◌+◌, ◌≤◌, ℕ, Bool, true, false, cond, List, length, map, get_or, take, Bor, Option, Some, None, refl, sym, ap, ◌∙◌, arith}
use Rattle.std.specs.List.{fold}
use Rattle.std.proofs.lemmas.List.{length-set, length-map, take_all, take-map, get_or-map}
use Rattle.std.proofs.lemmas.List.Sums.{fold_more}
use Rattle.plan_model.specs.declared.groups.FuncFacts.{FuncFacts}
use Rattle.plan_model.specs.Lists.{is_empty}
use Rattle.plan_model.specs.Policies.{move, moved_to, common_group}

-- there are as many groups as before
pub length_moved : (groups : List ℕ) (f : FuncFacts) → length (move groups f) ≡ length groups
length_moved groups f = by (is_empty f.periphs) (common_group groups f.callers)
  where
    by : (b : Bool) (o : Option ℕ) → length (cond b (moved_to groups f.index o) groups) ≡ length groups
    by true (Some g) = length-set groups f.index g
    by true None = refl
    by false o = refl

abbrev seen : List (Bor FuncFacts) → List FuncFacts
seen bs = map (λ (b : Bor FuncFacts). b.now) bs

-- one more has moved
pub moves_more : (bs : List (Bor FuncFacts)) (i : ℕ) (d : Bor FuncFacts) (start before after : List ℕ) → i < length bs → before ≡ fold move start (seen (take i bs))
    → after ≡ move before (get_or bs i d).now → after ≡ fold move start (seen (take (i + 1) bs))
moves_more bs i d start before after l e a =
    let longer = length-map bs (λ (b : Bor FuncFacts). b.now) in
    let there : i < length (seen bs) = omega arith in
    let item : get_or (seen bs) i d.now ≡ (get_or bs i d).now = get_or-map (λ (b : Bor FuncFacts). b.now) bs i d d.now l in
    a
    ∙ (ap (λ gs. move gs (get_or bs i d).now) (e ∙ ap (fold move start) (sym (take-map (λ (b : Bor FuncFacts). b.now) i bs)))
    ∙ (ap (move (fold move start (take i (seen bs)))) (sym item) ∙ (sym (fold_more move start (seen bs) i d.now there) ∙ ap (fold move start) (take-map (λ (b : Bor FuncFacts). b.now) (i + 1) bs))))

-- all have
pub moves_all : (bs : List (Bor FuncFacts)) (fs : List FuncFacts) (i : ℕ) (start after : List ℕ) → length bs ≤ i → seen bs ≡ fs → after ≡ fold move start (seen (take i bs)) → after ≡ fold move start fs
moves_all bs fs i start after l s e = e ∙ ap (fold move start) (ap seen (take_all i bs l) ∙ s)
