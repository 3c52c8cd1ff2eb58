-- The costs of joins, by what is known of regions: one more row, and where a cost is found.
use Rattle.std.proofs.Common.{◌≡◌, ℕ, zero, suc, ◌<◌, ◌≤◌, ◌+◌, List, [], ◌∷◌, ◌++◌, length, get_or, take, map, max, min, refl, sym, ap, subst, ◌∙◌, arith, length-append}
use Rattle.std.specs.List.{range_with_len}
use Rattle.std.proofs.lemmas.List.{get_or-map, length-map}
use Rattle.std.proofs.lemmas.List.FromFn.{map-range_with_len_more, get_or-map-range_with_len, length-range_with_len}
use Rattle.std.proofs.lemmas.Grind.{common_steps}
use Rattle.std.proofs.lemmas.Bool.{cases_lt}
use mathlib.Core.Logic.{⊎_elim}
use Rattle.ir_model.specs.Resolved.{Program}
use Rattle.plan_model.specs.declared.graph.DataRegion.{DataRegion}
use Rattle.plan_model.specs.Exposure.{added_exposure}
use Rattle.plan_model.specs.Lists.{numbers_below}
use Rattle.plan_graph.specs.declared.known.Known.{Known}
use Rattle.plan_graph.specs.Known.{known_at, nothing_known, row_of, AreCosts, IsLearned, exposure_of}
use Rattle.plan_graph.proofs.Exposures.{exposure_is, exposure_turned}

before_all : (ks : List Known) (k : Known) (n : ℕ) → n < length ks → known_at (ks ++ k ∷ []) n ≡ known_at ks n
before_all ks k n l = grind (arith, common_steps)

front_of : (ks : List Known) (k : Known) (n : ℕ) → n < length ks → take (n + 1) (ks ++ k ∷ []) ≡ take (n + 1) ks
front_of ks k n l = grind (arith, common_steps)

same_row : (ks : List Known) (k : Known) (n : ℕ) → n < length ks → row_of (ks ++ k ∷ []) n ≡ row_of ks n
same_row ks k n l =
    ap (λ js. map (λ (j : Known). exposure_of j (known_at (ks ++ k ∷ []) n)) js) (front_of ks k n l)
    ∙ ap (λ (x : Known). map (λ (j : Known). exposure_of j x) (take (n + 1) ks)) (before_all ks k n l)

map_alike : {X : Type 0} (f g : ℕ → X) (a n : ℕ) → ((i : ℕ) → i < a + n → f i ≡ g i) → map f (range_with_len a n) ≡ map g (range_with_len a n)
map_alike f g a zero h = refl
map_alike f g a (suc n) h = ap (λ x. x ∷ map f (range_with_len (a + 1) n)) (h a (omega arith)) ∙ ap (λ xs. g a ∷ xs) (map_alike f g (a + 1) n (λ i l. h i (omega arith)))

-- one more row
pub costs_more : (ks after : List Known) (k : Known) (costs more : List (List ℕ)) (row : List ℕ) → AreCosts ks costs → after ≡ ks ++ k ∷ [] → row ≡ row_of after (length ks) → more ≡ costs ++ row ∷ [] → AreCosts after more
costs_more ks after k costs more row h a r m =
    subst (λ js. AreCosts js more) (sym a)
    (m ∙ (ap (λ x. costs ++ x ∷ []) (r ∙ ap (λ js. row_of js (length ks)) a)
    ∙ (ap (λ rows. rows ++ row_of (ks ++ k ∷ []) (length ks) ∷ []) (h ∙ sym (map_alike (row_of (ks ++ k ∷ [])) (row_of ks) 0 (length ks) (λ i l. same_row ks k i (omega arith))))
    ∙ (sym (map-range_with_len_more (row_of (ks ++ k ∷ [])) 0 (length ks) (length ks) (omega arith))
    ∙ ap (λ n. map (row_of (ks ++ k ∷ [])) (numbers_below n)) (sym size)))))
  where
    size : length (ks ++ k ∷ []) ≡ length ks + 1
    size = let n = length-append ks (k ∷ []) in omega arith

-- a row, and a cost in it
pub row_at : (ks : List Known) (costs : List (List ℕ)) (n : ℕ) (row : List ℕ) → AreCosts ks costs → n < length ks → row ≡ get_or costs n row → row ≡ row_of ks n
row_at ks costs n row h l e = e ∙ (ap (λ rows. get_or rows n row) h ∙ get_or-map-range_with_len (row_of ks) 0 (length ks) n n row l (omega arith))

pub costs_length : (ks : List Known) (costs : List (List ℕ)) → AreCosts ks costs → length costs ≡ length ks
costs_length ks costs h = ap length h ∙ (length-map (numbers_below (length ks)) (row_of ks) ∙ length-range_with_len 0 (length ks))

pub row_length : (ks : List Known) (n : ℕ) → n < length ks → length (row_of ks n) ≡ n + 1
row_length ks n l = length-map (take (n + 1) ks) (λ (j : Known). exposure_of j (known_at ks n)) ∙ grind (arith, common_steps)

pub in_row : (ks : List Known) (n m d : ℕ) → n < length ks → m ≤ n → get_or (row_of ks n) m d ≡ exposure_of (known_at ks m) (known_at ks n)
in_row ks n m d l le =
    let front : m < length (take (n + 1) ks) = grind (arith, common_steps) in
    get_or-map (λ (j : Known). exposure_of j (known_at ks n)) (take (n + 1) ks) m nothing_known d front
    ∙ ap (λ (j : Known). exposure_of j (known_at ks n)) (grind (arith, common_steps))

-- a cost stands in the row of the later one
pub cost_at : (ks : List Known) (one other d : ℕ) → one < length ks → other < length ks → get_or (row_of ks (max one other)) (min one other) d ≡ exposure_of (known_at ks one) (known_at ks other)
cost_at ks one other d l m =
    ⊎_elim
    (λ lt. let high : max one other ≡ other = omega arith in let low : min one other ≡ one = omega arith in
    ap (λ n. get_or (row_of ks n) (min one other) d) high ∙ (ap (λ n. get_or (row_of ks other) n d) low ∙ in_row ks other one d m (omega arith)))
    (λ le. let high : max one other ≡ one = omega arith in let low : min one other ≡ other = omega arith in
    ap (λ n. get_or (row_of ks n) (min one other) d) high ∙ (ap (λ n. get_or (row_of ks one) n d) low ∙ (in_row ks one other d l le ∙ exposure_turned (known_at ks other) (known_at ks one))))
    (cases_lt one other)

-- by the two numbers of a place: it is in its row, and the cost that is read there is that of the regions
module _ (ks : List Known) (costs : List (List ℕ)) (one other high low : ℕ) (row : List ℕ) (h : AreCosts ks costs) (g : high ≡ max one other) (l : low ≡ min one other) (e : row ≡ get_or costs high row) where
  pub in_bounds : one < length ks → other < length ks → low < length row
  in_bounds u v =
      let there : high < length ks = omega arith in
      let long = ap length (row_at ks costs high row h there e) ∙ row_length ks high there in
      omega arith

  pub cost_read : (p : Program) (a b : DataRegion) (cost : ℕ) → IsLearned p ks a one → IsLearned p ks b other → cost ≡ get_or row low 0 → cost ≡ added_exposure p a b
  cost_read p a b cost m n c =
      let u = m.below in
      let v = n.below in
      let there : high < length ks = omega arith in
      c ∙ (ap (λ ns. get_or ns low 0) (row_at ks costs high row h there e)
      ∙ (ap (λ i. get_or (row_of ks i) low 0) g
      ∙ (ap (λ j. get_or (row_of ks (max one other)) j 0) l
      ∙ (cost_at ks one other 0 m.below n.below ∙ exposure_is p a b (known_at ks one) (known_at ks other) m.known n.known))))
