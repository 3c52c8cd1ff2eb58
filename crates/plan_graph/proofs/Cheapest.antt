-- The cheapest of the pairs of a list of numbers, number by number.
use Rattle.std.proofs.Common.{◌≡◌, ℕ, suc, ◌<◌, ◌≤◌, ◌+◌, ◌-◌, Bool, true, false, List, [], ◌∷◌, ◌++◌, cond, nat_lt, map, Option, Some, None, refl, sym, ap, subst, ◌∙◌, arith}
use Rattle.std.specs.Prelude.{option_map}
use Rattle.std.specs.List.{best_of, range_with_len}
use Rattle.std.proofs.lemmas.List.FromFn.{map-range_with_len_more}
use Rattle.std.proofs.lemmas.List.{map-append, map-id}
use Rattle.std.proofs.lemmas.List.Sums.{fold-append}
use Rattle.plan_model.specs.Choices.{Pair, pairs, cheapest}
use Rattle.plan_graph.specs.declared.choices.Choice.{Choice}
use Rattle.plan_graph.specs.Choices.{pair_of, priced, cheaper, cheapest_from, pairs_with}

range_more : (a n m : ℕ) → a + n ≡ m → range_with_len a (n + 1) ≡ range_with_len a n ++ m ∷ []
range_more a n m e = sym (map-id (range_with_len a (n + 1))) ∙ (map-range_with_len_more (λ (k : ℕ). k) a n m e ∙ ap (λ ns. ns ++ m ∷ []) (map-id (range_with_len a n)))

module _ (price : Pair → ℕ) where
  chosen : (t : Bool) (q b : Pair) → cond t (priced price q) (priced price b) ≡ priced price (cond t q b)
  chosen true q b = refl
  chosen false q b = refl

  from_some : (b : Pair) (qs : List Pair) → cheapest_from (Some (priced price b)) (map (priced price) qs) ≡ Some (priced price (best_of (λ y best. nat_lt (price y) (price best)) b qs))
  from_some b [] = refl
  from_some b (q ∷ qs) =
      ap (λ c. cheapest_from (Some c) (map (priced price) qs)) (chosen (nat_lt (price q) (price b)) q b)
      ∙ from_some (cond (nat_lt (price q) (price b)) q b) qs

  -- the cheapest of the priced pairs is the cheapest pair
  pub cheapest_is : (qs : List Pair) → option_map pair_of (cheapest_from None (map (priced price) qs)) ≡ cheapest price qs
  cheapest_is [] = refl
  cheapest_is (q ∷ qs) = ap (option_map pair_of) (from_some q qs)

  -- one more number with those behind it
  pub pairs_next : (n : ℕ) (ns : List ℕ) (best after all : Option Choice)
      → cheapest_from best (map (priced price) (pairs (n ∷ ns))) ≡ all
      → after ≡ cheapest_from best (map (priced price) (pairs_with n ns))
      → cheapest_from after (map (priced price) (pairs ns)) ≡ all
  pairs_next n ns best after all h a =
      ap (λ b. cheapest_from b (map (priced price) (pairs ns))) a
      ∙ (sym (fold-append cheaper best (map (priced price) (pairs_with n ns)) (map (priced price) (pairs ns)))
      ∙ (ap (λ cs. cheapest_from best cs) (sym (map-append (priced price) (pairs_with n ns) (pairs ns))) ∙ h))

  -- one more later number
  later_pushed : (first : ℕ) (ms more : List ℕ) (second : ℕ) (start before after : Option Choice) (choice : Choice) → more ≡ ms ++ second ∷ []
      → before ≡ cheapest_from start (map (priced price) (pairs_with first ms))
      → choice ≡ priced price (record { first = first; second = second }) → after ≡ cheaper before choice
      → after ≡ cheapest_from start (map (priced price) (pairs_with first more))
  later_pushed first ms more second start before after choice e h c a =
      a ∙ (ap (λ x. cheaper before x) c
      ∙ (ap (λ b. cheaper b (priced price (record { first = first; second = second }))) h
      ∙ (sym (fold-append cheaper start (map (priced price) (pairs_with first ms)) (priced price (record { first = first; second = second }) ∷ []))
      ∙ ap (λ cs. cheapest_from start cs) (sym joined))))
    where
      joined : map (priced price) (pairs_with first more) ≡ map (priced price) (pairs_with first ms) ++ priced price (record { first = first; second = second }) ∷ []
      joined =
          ap (λ ns. map (priced price) (pairs_with first ns)) e
          ∙ (ap (map (priced price)) (map-append (λ (m : ℕ). let q : Pair = record { first = first; second = m } in q) ms (second ∷ []))
          ∙ map-append (priced price) (pairs_with first ms) (record { first = first; second = second } ∷ []))

  -- one more of the numbers from the first on
  pub later_ranged : (first second : ℕ) (start before after : Option Choice) (choice : Choice) → first + 1 ≤ second
      → before ≡ cheapest_from start (map (priced price) (pairs_with first (range_with_len (first + 1) (second - (first + 1)))))
      → choice ≡ priced price (record { first = first; second = second }) → after ≡ cheaper before choice
      → after ≡ cheapest_from start (map (priced price) (pairs_with first (range_with_len (first + 1) (second + 1 - (first + 1)))))
  later_ranged first second start before after choice l h c a =
      later_pushed first (range_with_len (first + 1) (second - (first + 1))) (range_with_len (first + 1) (second + 1 - (first + 1))) second start before after choice
      (ap (range_with_len (first + 1)) more ∙ range_more (first + 1) (second - (first + 1)) second (omega arith)) h c a
    where
      more : second + 1 - (first + 1) ≡ second - (first + 1) + 1
      more = omega arith

  pub ranged_next : (first n : ℕ) (best after all : Option Choice) → first < n
      → cheapest_from best (map (priced price) (pairs (range_with_len first (n - first)))) ≡ all
      → after ≡ cheapest_from best (map (priced price) (pairs_with first (range_with_len (first + 1) (n - (first + 1)))))
      → cheapest_from after (map (priced price) (pairs (range_with_len (first + 1) (n - (first + 1))))) ≡ all
  ranged_next first n best after all l h a =
      pairs_next first (range_with_len (first + 1) (n - (first + 1))) best after all
      (subst (λ k. cheapest_from best (map (priced price) (pairs (range_with_len first k))) ≡ all) (let e : n - first ≡ suc (n - (first + 1)) = omega arith in e) h) a
