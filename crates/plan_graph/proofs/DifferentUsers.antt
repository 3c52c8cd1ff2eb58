-- The different users of globals, global by global.
use Rattle.std.proofs.Common.{◌≡◌, ℕ, ◌<◌, ◌+◌, Bool, true, false, not, ◌&&◌, List, [], ◌∷◌, ◌++◌, cond, length, map, filter, get_or, take, Bor, refl, sym, ap, ◌∙◌}
use Rattle.std.specs.List.{list_any}
use Rattle.std.proofs.lemmas.List.{append-nil, map_more, get_or-map}
use Rattle.std.proofs.lemmas.List.Elements.{filter-append}
use Rattle.plan_model.specs.InitialGraph.{Users, has_users, same_users}
use Rattle.plan_model.specs.Lists.{distinct}
use Rattle.plan_policies.proofs.Distinct.{distinct_more, any_distinct, any_seen}
use Rattle.plan_graph.specs.declared.users.UserLists.{UserLists}
use Rattle.plan_graph.specs.UserLists.{users_seen, users_at, no_users}
use Rattle.plan_model.proofs.SameUsers.{same_through}

-- what stands at a place
pub users_read : (all : List UserLists) (x : ℕ) (r : UserLists) → x < length all → r ≡ get_or all x r → users_at all x ≡ users_seen r
users_read all x r l e = get_or-map users_seen all x r no_users l ∙ ap users_seen (sym e)

abbrev pub kinds_seen : List (Bor UserLists) → List Users
kinds_seen ks = map (λ (k : Bor UserLists). users_seen k.now) ks

step : (us : List Users) (u : Users) (known b : Bool) → list_any (λ k. same_users k u) (distinct same_users (filter has_users us)) ≡ known → b ≡ (has_users u && not known)
    → distinct same_users (filter has_users us) ++ cond b (u ∷ []) [] ≡ distinct same_users (filter has_users (us ++ u ∷ []))
step us u known b n e = by (has_users u) refl
  where
    pick : (k : Bool) → cond (not k) (u ∷ []) [] ≡ cond k [] (u ∷ [])
    pick true = refl
    pick false = refl

    by : (h : Bool) → has_users u ≡ h → distinct same_users (filter has_users us) ++ cond b (u ∷ []) [] ≡ distinct same_users (filter has_users (us ++ u ∷ []))
    by true h =
        let fresh : b ≡ not known = e ∙ ap (λ c. c && not known) h in
        let found : list_any (λ k. same_users k u) (filter has_users us) ≡ known = sym (any_distinct same_users (filter has_users us) u (λ x z. same_through x z u)) ∙ n in
        ap (λ c. distinct same_users (filter has_users us) ++ cond c (u ∷ []) []) fresh
        ∙ (ap (λ zs. distinct same_users (filter has_users us) ++ zs) (pick known ∙ ap (λ c. cond c [] (u ∷ [])) (sym found))
        ∙ (sym (distinct_more same_users (filter has_users us) u)
        ∙ ap (distinct same_users) (ap (λ c. filter has_users us ++ cond c (u ∷ []) []) (sym h) ∙ sym (filter-append has_users us (u ∷ [])))))
    by false h =
        let none : b ≡ false = e ∙ ap (λ c. c && not known) h in
        ap (λ c. distinct same_users (filter has_users us) ++ cond c (u ∷ []) []) none
        ∙ (append-nil (distinct same_users (filter has_users us))
        ∙ ap (distinct same_users) (sym (append-nil (filter has_users us)) ∙ (ap (λ c. filter has_users us ++ cond c (u ∷ []) []) (sym h) ∙ sym (filter-append has_users us (u ∷ [])))))

-- one more
pub kinds_more : (all : List UserLists) (i : ℕ) (r : UserLists) (ks looked : List (Bor UserLists)) (after : List Users) (b : Bool) → i < length all → r ≡ get_or all i r → looked ≡ ks
    → kinds_seen ks ≡ distinct same_users (filter has_users (map users_seen (take i all)))
    → b ≡ (has_users (users_seen r) && not (list_any (λ (k : Bor UserLists). same_users (users_seen k.now) (users_seen r)) looked))
    → after ≡ kinds_seen ks ++ cond b (users_seen r ∷ []) []
    → after ≡ distinct same_users (filter has_users (map users_seen (take (i + 1) all)))
kinds_more all i r ks looked after b l e v h t a =
    let u : Users = users_seen r in
    let us : List Users = map users_seen (take i all) in
    let known : list_any (λ k. same_users k u) (distinct same_users (filter has_users us)) ≡ list_any (λ (k : Bor UserLists). same_users (users_seen k.now) u) looked =
    ap (list_any (λ k. same_users k u)) (sym h) ∙ (sym (any_seen (λ (k : Bor UserLists). users_seen k.now) (λ k. same_users k u) ks) ∙ ap (list_any (λ (k : Bor UserLists). same_users (users_seen k.now) u)) (sym v)) in
    a ∙ (ap (λ zs. zs ++ cond b (u ∷ []) []) h
    ∙ (step us u (list_any (λ (k : Bor UserLists). same_users (users_seen k.now) u) looked) b known t
    ∙ ap (λ zs. distinct same_users (filter has_users zs)) (ap (λ (w : UserLists). us ++ users_seen w ∷ []) e ∙ sym (map_more users_seen all i r l))))
