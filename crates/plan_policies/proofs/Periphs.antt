-- The different lists of peripherals, function by function.
use Rattle.std.proofs.Common.{◌≡◌, ◌<◌, ◌+◌, ℕ, Bool, true, false, not, cond, List, [], ◌∷◌, ◌++◌, length, map, get_or, take, Bor, nat_eq, sym, ap, ◌∙◌}
use Rattle.std.specs.List.{list_any, position_or_len}
use Rattle.std.specs.Cmp.Lexicographic.{same_text}
use Rattle.std.proofs.lemmas.List.{map_more, append-nil}
use Rattle.std.proofs.lemmas.Bool.{eq-eqb, ne_eqb}
use Rattle.plan_model.specs.declared.groups.FuncFacts.{FuncFacts}
use Rattle.plan_model.specs.Lists.{distinct, same_numbers}
use Rattle.plan_model.specs.Policies.{periph_lists}
use Rattle.plan_policies.proofs.Distinct.{distinct_more, any_distinct, found_any, position_seen, any_seen}

pub same_through : (x z y : List ℕ) → same_numbers x z ≡ true → same_numbers z y ≡ true → same_numbers x y ≡ true
same_through x z y e f = ap (λ w. same_numbers w y) (same_text x z (sym e)) ∙ f

abbrev seen : List (Bor (List ℕ)) → List (List ℕ)
seen ls = map (λ (l : Bor (List ℕ)). l.now) ls

abbrev periphs_of : FuncFacts → List ℕ
periphs_of f = f.periphs

-- whether the next list is new is found among the different ones
periphs_more : (fs : List FuncFacts) (i : ℕ) (d : FuncFacts) (ls : List (Bor (List ℕ))) (after : List (List ℕ)) (b : Bool) → i < length fs → seen ls ≡ periph_lists (take i fs)
    → nat_eq (position_or_len (λ (l : Bor (List ℕ)). same_numbers l.now (get_or fs i d).periphs) ls) (length ls) ≡ b
    → after ≡ seen ls ++ cond (not b) [] ((get_or fs i d).periphs ∷ []) → after ≡ periph_lists (take (i + 1) fs)
periphs_more fs i d ls after b l e p a =
    let mine : List ℕ = (get_or fs i d).periphs in
    let earlier : List (List ℕ) = map periphs_of (take i fs) in
    let known : list_any (λ x. same_numbers x mine) earlier ≡ not b =
    sym (any_distinct same_numbers earlier mine (λ x z. same_through x z mine)) ∙ (ap (list_any (λ x. same_numbers x mine)) (sym e)
    ∙ (sym (any_seen (λ (l : Bor (List ℕ)). l.now) (λ x. same_numbers x mine) ls) ∙ (found_any (λ (l : Bor (List ℕ)). same_numbers l.now mine) ls ∙ ap not p))) in
    a ∙ (ap (λ ks. ks ++ cond (not b) [] (mine ∷ [])) e ∙ (ap (λ c. distinct same_numbers earlier ++ cond c [] (mine ∷ [])) (sym known)
    ∙ (sym (distinct_more same_numbers earlier mine) ∙ ap (distinct same_numbers) (sym (map_more periphs_of fs i d l)))))

-- by what a look-up among them has told
pub periphs_new : (fs : List FuncFacts) (i : ℕ) (f : FuncFacts) (ls looked : List (Bor (List ℕ))) (mine : List ℕ) (after : List (List ℕ)) (place : ℕ) → i < length fs → mine ≡ (get_or fs i f).periphs
    → looked ≡ ls → seen ls ≡ periph_lists (take i fs) → place ≡ position_or_len (λ (l : Bor (List ℕ)). same_numbers l.now mine) looked → place ≡ length ls → after ≡ seen ls ++ mine ∷ []
    → after ≡ periph_lists (take (i + 1) fs)
periphs_new fs i f ls looked mine after place l m v e p n a =
    let same : mine ≡ (get_or fs i f).periphs = m in
    let found : place ≡ position_or_len (λ (l : Bor (List ℕ)). same_numbers l.now (get_or fs i f).periphs) ls =
    p ∙ (ap (position_or_len (λ (l : Bor (List ℕ)). same_numbers l.now mine)) v ∙ ap (λ q. position_or_len (λ (l : Bor (List ℕ)). same_numbers l.now q) ls) same) in
    periphs_more fs i f ls after true l e (eq-eqb _ _ (sym found ∙ n)) (a ∙ ap (λ q. seen ls ++ q ∷ []) same)

pub periphs_known : (fs : List FuncFacts) (i : ℕ) (f : FuncFacts) (ls looked : List (Bor (List ℕ))) (mine : List ℕ) (after : List (List ℕ)) (place : ℕ) → i < length fs → mine ≡ (get_or fs i f).periphs
    → looked ≡ ls → seen ls ≡ periph_lists (take i fs) → place ≡ position_or_len (λ (l : Bor (List ℕ)). same_numbers l.now mine) looked → (place ≡ length ls → ⊥) → after ≡ seen ls
    → after ≡ periph_lists (take (i + 1) fs)
periphs_known fs i f ls looked mine after place l m v e p n a =
    let same : mine ≡ (get_or fs i f).periphs = m in
    let found : place ≡ position_or_len (λ (l : Bor (List ℕ)). same_numbers l.now (get_or fs i f).periphs) ls =
    p ∙ (ap (position_or_len (λ (l : Bor (List ℕ)). same_numbers l.now mine)) v ∙ ap (λ q. position_or_len (λ (l : Bor (List ℕ)). same_numbers l.now q) ls) same) in
    periphs_more fs i f ls after false l e (ne_eqb _ _ (λ s. n (found ∙ s))) (a ∙ sym (append-nil (seen ls)))

-- the groups of one more function
pub group_more : (fs : List FuncFacts) (i : ℕ) (f : FuncFacts) (ls looked : List (Bor (List ℕ))) (mine before after : List ℕ) (place group : ℕ) → i < length fs → mine ≡ (get_or fs i f).periphs
    → looked ≡ ls → seen ls ≡ periph_lists fs → place ≡ position_or_len (λ (l : Bor (List ℕ)). same_numbers l.now mine) looked → group ≡ place
    → before ≡ map (λ (f : FuncFacts). position_or_len (λ qs. same_numbers qs f.periphs) (periph_lists fs)) (take i fs)
    → after ≡ before ++ group ∷ [] → after ≡ map (λ (f : FuncFacts). position_or_len (λ qs. same_numbers qs f.periphs) (periph_lists fs)) (take (i + 1) fs)
group_more fs i f ls looked mine before after place group l m v e p g b a =
    let group_of = λ (f : FuncFacts). position_or_len (λ qs. same_numbers qs f.periphs) (periph_lists fs) in
    let same : mine ≡ (get_or fs i f).periphs = m in
    let here : group ≡ group_of (get_or fs i f) =
    g ∙ (p ∙ (ap (position_or_len (λ (l : Bor (List ℕ)). same_numbers l.now mine)) v ∙ (ap (λ q. position_or_len (λ (l : Bor (List ℕ)). same_numbers l.now q) ls) same
    ∙ (position_seen (λ (l : Bor (List ℕ)). l.now) (λ qs. same_numbers qs (get_or fs i f).periphs) ls ∙ ap (position_or_len (λ qs. same_numbers qs (get_or fs i f).periphs)) e)))) in
    a ∙ (ap (λ gs. gs ++ group ∷ []) b ∙ (ap (λ g. map group_of (take i fs) ++ g ∷ []) here ∙ sym (map_more group_of fs i f l)))
