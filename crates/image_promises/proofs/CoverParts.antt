-- Each cover is an aligned power of two of addresses of peripherals, and a join of two is one too.
use Rattle.std.proofs.Common.{◌≡◌, ℕ, zero, suc, ◌<◌, ◌≤◌, ◌+◌, ◌-◌, ◌*◌, ◌/◌, ◌%◌, ◌^◌, ◌⊎◌, inl, inr, Bool, true, false, not, List, [], ◌∷◌, length, map, filter, get_or, set, cond, Option, Some, nat_eq, nat_lt, nat_le, refl, ap, sym, ◌∙◌, subst, eq-eqb, eqb-true, le-leb, lit<, arith}
use Rattle.std.specs.Prelude.{find, unwrap_or}
use Rattle.std.specs.List.{range_with_len, best_of}
use Rattle.std.proofs.lemmas.Bool.{cases_lt, cases_eq, and_from as both}
use mathlib.Core.Logic.{⊎_elim}
use Rattle.std.proofs.lemmas.Option.{same_Some, none-some}
use Rattle.std.proofs.lemmas.Nat.{div-add-mod', mod_below, div_below, pow-add, pow_pos}
use Rattle.std.proofs.Math.Nat.{mul-mod_left}
use Rattle.std.proofs.lemmas.List.{get_or-set_same, get_or-set_other, get_or_past, length-set}
use Rattle.ir_model.specs.Resolved.{Program}
use Rattle.base_laws.proofs.Lists.{each_at, each_both}
use Rattle.base_laws.specs.Lists.{Each}
use Rattle.plan_model.specs.declared.graph.Cover.{Cover}
use Rattle.plan_model.specs.declared.graph.Graph.{Graph}
use Rattle.plan_model.specs.Choices.{Pair, pairs, cheapest}
use Rattle.plan_model.specs.Lists.{numbers_below, placed, in_order}
use Rattle.plan_model.specs.Covers.{least_power, lowest, highest, joined_size, joined, is_inside, end_of, cover_at}
use Rattle.plan_model.specs.FinalGraph.{Merges, stays, joins}
use Rattle.plan_model.specs.Merging.{covers_at, cover_cost, cover_pair, with_joined_cover, next}
use Rattle.image_promises.proofs.Kept.{by_next}
use Rattle.image_promises.proofs.KeptItems.{each_filter}
use Rattle.image_promises.proofs.Lists.{each_map, below_all}
use Rattle.image_promises.proofs.Products.{times}

pub record IsPart (d : Cover) : Type 0 where
  pub power : ℕ
  pub least : 5 ≤ power
  pub most : power ≤ 29
  pub size : d.size ≡ 2 ^ power
  pub aligned : d.base % 2 ^ power ≡ 0
  pub from : 0x40000000 ≤ d.base
  pub to : d.base + d.size ≤ 0x60000000

abbrev pub AreParts : List Cover → Type 0
AreParts cs = Each IsPart cs

-- ---- the least power that passes

record IsFound (test : ℕ → Bool) (a m : ℕ) (o : Option ℕ) : Type 0 where
  pub power : ℕ
  pub from : a ≤ power
  pub to : power ≤ m
  pub is : o ≡ Some (2 ^ power)
  pub passes : test (2 ^ power) ≡ true

found : (test : ℕ → Bool) (n a m : ℕ) → a ≤ m → m < a + n → test (2 ^ m) ≡ true → IsFound test a m (find test (map (λ k. 2 ^ k) (range_with_len a n)))
found test zero a m l h t = absurd (omega arith)
found test (suc n) a m l h t = by (test (2 ^ a)) refl (cases_lt a m) (λ lt. found test n (a + 1) m (omega arith) (omega arith) t)
  where
    by : (b : Bool) → test (2 ^ a) ≡ b → (a < m) ⊎ (m ≤ a) → (a < m → IsFound test (a + 1) m (find test (map (λ k. 2 ^ k) (range_with_len (a + 1) n)))) → IsFound test a m (cond b (Some (2 ^ a)) (find test (map (λ k. 2 ^ k) (range_with_len (a + 1) n))))
    by true e c ih = record { power = a; from = omega arith; to = l; is = refl; passes = e }
    by false e (inl lt) ih =
        let r = ih lt in
        record { power = r.power; from = let f = r.from in omega arith; to = r.to; is = r.is; passes = r.passes }
    by false e (inr le) ih = absurd (let s : a ≡ m = omega arith in let wrong : false ≡ true = sym e ∙ (ap (λ k. test (2 ^ k)) s ∙ t) in cc)

-- ---- a join

third : (n : ℕ) → 0x40000000 ≤ n → n < 0x60000000 → n / 0x20000000 ≡ 2
third n l h = let e = div-add-mod' n 0x20000000 in let m = mod_below n 0x20000000 (lit< tt) in omega (arith, e, m)

-- the aligned range of a number between two multiples lies between them
range_in : (x n lo hi : ℕ) → 0 < n → lo * n ≤ x → x < hi * n → (lo * n ≤ x / n * n) × (x / n * n + n ≤ hi * n)
range_in x n lo hi p l h =
    let e = div-add-mod' x n in
    let m = mod_below x n p in
    let below = div_below x n hi p h in
    let up = times (x / n + 1) hi n (omega (arith, below)) in
    let spread : (x / n + 1) * n ≡ x / n * n + n = grind arith in (
      ⊎_elim (λ lt. let t = times (x / n + 1) lo n (omega arith) in absurd (omega (arith, t, spread, e, m, l))) (λ le. times lo (x / n) n le) (cases_lt (x / n) lo),
      omega (arith, up, spread),
    )

-- what the search for the size of a join finds
join_found : (c d : Cover) → IsPart c → IsPart d → IsFound (λ n. nat_eq (lowest c d / n) (highest c d / n)) 5 29 (find (λ n. nat_eq (lowest c d / n) (highest c d / n)) (map (λ k. 2 ^ k) (range_with_len 5 28)))
join_found c d one two =
    let lo : ℕ = lowest c d in
    let hi : ℕ = highest c d in
    let some_c = pow_pos one.power in
    let some_d = pow_pos two.power in
    let cs = one.size in
    let ds = two.size in
    let cf = one.from in
    let ct = one.to in
    let df = two.from in
    let dt = two.to in
    let low_from : 0x40000000 ≤ lo = omega (arith, cf, df) in
    let low_to : lo < 0x60000000 = omega (arith, cf, ct, df, dt, cs, ds, some_c, some_d) in
    let high_from : 0x40000000 ≤ hi = omega (arith, cf, ct, df, dt, cs, ds, some_c, some_d) in
    let high_to : hi < 0x60000000 = omega (arith, cf, ct, df, dt, cs, ds, some_c, some_d) in
    let test : ℕ → Bool = λ n. nat_eq (lo / n) (hi / n) in
    let last : test (2 ^ 29) ≡ true = eq-eqb (lo / 0x20000000) (hi / 0x20000000) (third lo low_from low_to ∙ sym (third hi high_from high_to)) in
    found test 28 5 29 (omega arith) (omega arith) last

pub joined_part : (c d : Cover) → IsPart c → IsPart d → IsPart (joined c d)
unfolding joined least_power
joined_part c d one two =
    let lo : ℕ = lowest c d in
    let some_c = pow_pos one.power in
    let some_d = pow_pos two.power in
    let cs = one.size in
    let ds = two.size in
    let cf = one.from in
    let ct = one.to in
    let df = two.from in
    let dt = two.to in
    let low_from : 0x40000000 ≤ lo = omega (arith, cf, df) in
    let low_to : lo < 0x60000000 = omega (arith, cf, ct, df, dt, cs, ds, some_c, some_d) in
    let f = join_found c d one two in
    let n : ℕ = 2 ^ f.power in
    let size : joined_size c d ≡ n = ap (λ o. unwrap_or o (2 ^ 32)) f.is in
    let pos = pow_pos f.power in
    let to = f.to in
    let split : 2 ^ (29 - f.power) * n ≡ 0x20000000 = sym (pow-add 2 (29 - f.power) f.power) ∙ ap (λ k. 2 ^ k) (let e : 29 - f.power + f.power ≡ 29 = omega (arith, to) in e) in
    let two_of : 2 * 2 ^ (29 - f.power) * n ≡ 0x40000000 = grind (arith, split) in
    let three_of : 3 * 2 ^ (29 - f.power) * n ≡ 0x60000000 = grind (arith, split) in
    let r = range_in lo n (2 * 2 ^ (29 - f.power)) (3 * 2 ^ (29 - f.power)) pos (omega (arith, two_of, low_from)) (omega (arith, three_of, low_to)) in
    let base : lo / joined_size c d * joined_size c d ≡ lo / n * n = ap (λ k. lo / k * k) size in
    record {
      power = f.power;
      least = f.from;
      most = f.to;
      size = size;
      aligned = ap (λ b. b % n) base ∙ mul-mod_left (lo / n) n;
      from = let a = r.0 in omega (arith, a, base, two_of);
      to = let b = r.1 in omega (arith, b, base, three_of, size);
    }

-- the join holds its first cover
pub joined_holds : (c d : Cover) → IsPart c → IsPart d → is_inside c (joined c d) ≡ true
unfolding joined least_power
joined_holds c d one two =
    let lo : ℕ = lowest c d in
    let hi : ℕ = highest c d in
    let f = join_found c d one two in
    let n : ℕ = 2 ^ f.power in
    let pos = pow_pos f.power in
    let size : joined_size c d ≡ n = ap (λ o. unwrap_or o (2 ^ 32)) f.is in
    let base : lo / joined_size c d * joined_size c d ≡ lo / n * n = ap (λ k. lo / k * k) size in
    let same : lo / n ≡ hi / n = eqb-true (lo / n) (hi / n) f.passes in
    let same_base : lo / n * n ≡ hi / n * n = ap (λ k. k * n) same in
    let low = div-add-mod' lo n in
    let high = div-add-mod' hi n in
    let rest = mod_below hi n pos in
    let least : lo ≤ c.base = omega arith in
    let most : end_of c ≤ hi + 1 = omega arith in
    both (nat_le (joined c d).base c.base) (nat_le (end_of c) (end_of (joined c d))) (le-leb (joined c d).base c.base (omega (arith, base, low, least)))
    (le-leb (end_of c) (end_of (joined c d)) (omega (arith, base, size, same_base, high, rest, most)))

-- ---- lists of covers

module _ {X : Type 0} (P : X → Type 0) where
  each_placed : (lt : X → X → Bool) (x : X) (ys : List X) → P x → Each P ys → Each P (placed lt x ys)
  each_placed lt x [] h e = (h, tt)
  each_placed lt x (y ∷ ys) h e = by (lt y x) (each_placed lt x ys h e.1)
    where
      by : (b : Bool) → Each P (placed lt x ys) → Each P (cond b (y ∷ placed lt x ys) (x ∷ y ∷ ys))
      by true ih = (e.0, ih)
      by false ih = (h, e)

  pub each_in_order : (lt : X → X → Bool) (xs : List X) → Each P xs → Each P (in_order lt xs)
  each_in_order lt [] e = tt
  each_in_order lt (x ∷ xs) e = each_placed lt x (in_order lt xs) e.0 (each_in_order lt xs e.1)

  pick : (b : Bool) (x y : X) → P x → P y → P (cond b x y)
  pick true x y h e = h
  pick false x y h e = e

  each_best : (beats : X → X → Bool) (a : X) (xs : List X) → P a → Each P xs → P (best_of beats a xs)
  each_best beats a [] h e = h
  each_best beats a (x ∷ xs) h e = each_best beats (cond (beats x a) x a) xs (pick (beats x a) x a e.0 h) e.1

-- ---- the pair that is joined

pairs_are : (m : ℕ) (ns : List ℕ) → Each (λ k. k < m) ns → Each (λ (q : Pair). (q.first < m) × (q.second < m)) (pairs ns)
pairs_are m [] e = tt
pairs_are m (n ∷ ns) e =
    each_both (λ (q : Pair). (q.first < m) × (q.second < m)) (map (λ (k : ℕ). record { first = n; second = k }) ns) (pairs ns)
    (each_map (λ (q : Pair). (q.first < m) × (q.second < m)) (λ (k : ℕ). record { first = n; second = k }) (λ k. k < m) ns (λ k l. (e.0, l)) e.1) (pairs_are m ns e.1)

pub cheapest_is : {X : Type 0} (P : X → Type 0) (cost : X → ℕ) (xs : List X) (x : X) → Each P xs → cheapest cost xs ≡ Some x → P x
cheapest_is P cost [] x e f = absurd (none-some x f)
cheapest_is P cost (y ∷ ys) x e f =
    subst P (same_Some (best_of (λ z best. nat_lt (cost z) (cost best)) y ys) x f) (each_best P (λ z best. nat_lt (cost z) (cost best)) y ys e.0 e.1)

chosen : (cs : List Cover) (q : Pair) → cover_pair cs ≡ Some q → (q.first < length cs) × (q.second < length cs)
chosen cs q e =
    cheapest_is (λ (q : Pair). (q.first < length cs) × (q.second < length cs)) (cover_cost cs) (pairs (numbers_below (length cs))) q
    (pairs_are (length cs) (numbers_below (length cs)) (below_all 0 (length cs) (length cs) (omega arith))) e

-- ---- joins of a graph

-- what a join has from both of its covers, each cover keeps
module _ (P : Cover → Type 0) (joins_both : (c d : Cover) → P c → P d → P (joined c d)) where
  joined_covers : (cs : List Cover) (q : Pair) → cover_pair cs ≡ Some q → Each P cs → Each P (with_joined_cover cs q)
  joined_covers cs q e a =
      let m = chosen cs q e in
      let d : Cover = joined (cover_at cs q.first) (cover_at cs q.second) in
      each_in_order P (λ (x y : Cover). nat_lt x.base y.base) (d ∷ filter (λ (c : Cover). not (is_inside c d)) cs) (
        joins_both (cover_at cs q.first) (cover_at cs q.second) (each_at P cs _ q.first a m.0) (each_at P cs _ q.second a m.1),
        each_filter P (λ (c : Cover). not (is_inside c d)) cs a,
      )

  covers_set : (css : List (List Cover)) (k : ℕ) (new : List Cover) → ((c : ℕ) → Each P (get_or css c [])) → Each P new → (c : ℕ) → Each P (get_or (set css k new) c [])
  covers_set css k new a e c = ⊎_elim same other (cases_eq c k)
    where
      other : (c ≡ k → ⊥) → Each P (get_or (set css k new) c [])
      other d = subst (Each P) (sym (get_or-set_other css k c new [] d)) (a c)

      same : c ≡ k → Each P (get_or (set css k new) c [])
      same s =
          subst (λ j. Each P (get_or (set css k new) j [])) (sym s)
          (⊎_elim (λ lt. subst (Each P) (sym (get_or-set_same css k new [] lt)) e)
          (λ le. subst (Each P) (sym (get_or_past (set css k new) k [] (let n = length-set css k new in omega (arith, n, le)))) tt) (cases_lt k (length css)))

  covers_next : (p : Program) (slots : ℕ) (g h : Graph) → next p slots g ≡ Some h → ((c : ℕ) → Each P (get_or g.covers c [])) → (c : ℕ) → Each P (get_or h.covers c [])
  covers_next p slots g h e =
      by_next p (λ g h. ((c : ℕ) → Each P (get_or g.covers c [])) → (c : ℕ) → Each P (get_or h.covers c [])) (λ g q c f a. a)
      (λ g c q f a. covers_set g.covers c (with_joined_cover (covers_at g c) q) a (joined_covers (covers_at g c) q f (a c))) slots g h e

  pub covers_all : (p : Program) (slots : ℕ) (g h : Graph) → Merges p slots g h → ((c : ℕ) → Each P (get_or g.covers c [])) → (c : ℕ) → Each P (get_or h.covers c [])
  covers_all p slots g h stays a = a
  covers_all p slots g k (joins {h = h} e m) a = covers_all p slots h k m (covers_next p slots g h e a)
