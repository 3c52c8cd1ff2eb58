-- Digits read one after another, where the number so far is told apart only up to 2^32.
use Rattle.std.proofs.Common.{◌≡◌, ◌<◌, ◌≤◌, ◌⊎◌, inl, inr, ℕ, ◌+◌, ◌*◌, ◌^◌, min, List, [], ◌∷◌, refl, ap, ◌∙◌, Option, Some, None, length, drop, suc, get_or, arith, drop-cons, add-one}
use Rattle.std.proofs.lemmas.Bool.{cases_lt}
use Rattle.base_numerals.specs.Numerals.{and_more}
use Rattle.base_numerals.specs.Capped.{capped}

-- what a digit, or a byte that is none, makes of the bytes behind it
behind : (digit : ℕ → Option ℕ) (base n : ℕ) → List ℕ → Option ℕ → Option ℕ
behind digit base n bs None = None
behind digit base n bs (Some d) = and_more digit base (base * n + d) bs

and_more-cons : (digit : ℕ → Option ℕ) (base n b : ℕ) (bs : List ℕ) (o : Option ℕ) → digit b ≡ o
    → and_more digit base n (b ∷ bs) ≡ behind digit base n bs o
unfolding behind
and_more-cons digit base n b bs None h = ap (λ o. elim o [ Some d ↦ and_more digit base (base * n + d) bs | None ↦ None ]) h
and_more-cons digit base n b bs (Some c) h = ap (λ o. elim o [ Some d ↦ and_more digit base (base * n + d) bs | None ↦ None ]) h

-- a product of a number that is at least 2^32 is at least 2^32 too
large_product : (base n d : ℕ) → 0 < base → 2 ^ 32 ≤ n → 2 ^ 32 ≤ base * n + d
large_product base n d p h = grind arith

next_capped : (base m n d : ℕ) → 0 < base → min m (2 ^ 32) ≡ min n (2 ^ 32) → min (base * m + d) (2 ^ 32) ≡ min (base * n + d) (2 ^ 32)
next_capped base m n d p h = by_size (same_or_large m n h)
  where
    same_or_large : (x y : ℕ) → min x (2 ^ 32) ≡ min y (2 ^ 32) → (x ≡ y) ⊎ ((2 ^ 32 ≤ x) × (2 ^ 32 ≤ y))
    same_or_large x y e = elim (cases_lt x (2 ^ 32)) [ inl l ↦ inl (omega arith) | inr g ↦ inr (omega arith, omega arith) ]

    by_size : (m ≡ n) ⊎ ((2 ^ 32 ≤ m) × (2 ^ 32 ≤ n)) → min (base * m + d) (2 ^ 32) ≡ min (base * n + d) (2 ^ 32)
    by_size (inl e) = ap (λ x. min (base * x + d) (2 ^ 32)) e
    by_size (inr g) = omega (arith, large_product base m d p g.0, large_product base n d p g.1)

-- digits behind numbers that are the same up to the cap
and_more_capped : (digit : ℕ → Option ℕ) (base : ℕ) (bs : List ℕ) (m n : ℕ) → 0 < base → min m (2 ^ 32) ≡ min n (2 ^ 32)
    → capped (and_more digit base m bs) ≡ capped (and_more digit base n bs)
and_more_capped digit base [] m n p h = ap Some h
and_more_capped digit base (b ∷ bs) m n p h = by_digit (digit b) (λ d. and_more_capped digit base bs (base * m + d) (base * n + d) p (next_capped base m n d p h))
  where
    by_digit : (o : Option ℕ) → ((d : ℕ) → capped (and_more digit base (base * m + d) bs) ≡ capped (and_more digit base (base * n + d) bs))
        → capped (elim o [ Some d ↦ and_more digit base (base * m + d) bs | None ↦ None ])
        ≡ capped (elim o [ Some d ↦ and_more digit base (base * n + d) bs | None ↦ None ])
    by_digit None ih = refl
    by_digit (Some d) ih = ih d

-- the next digit
pub and_more-step : (digit : ℕ → Option ℕ) (base n m : ℕ) (bs : List ℕ) (i b d : ℕ) → 0 < base → i < length bs → b ≡ get_or bs i 0
    → digit b ≡ Some d → m ≡ min (base * n + d) (2 ^ 32)
    → capped (and_more digit base n (drop i bs)) ≡ capped (and_more digit base m (drop (i + 1) bs))
unfolding behind
and_more-step digit base n m bs i b d p h e s k =
    rw (drop-cons bs i 0 h, ← e, add-one)
    (ap capped (and_more-cons digit base n b (drop (suc i) bs) (Some d) s)
    ∙ and_more_capped digit base (drop (suc i) bs) (base * n + d) m p (omega arith))

-- and a byte that is none
pub and_more-none : (digit : ℕ → Option ℕ) (base n : ℕ) (bs : List ℕ) (i b : ℕ) → i < length bs → b ≡ get_or bs i 0
    → digit b ≡ None → capped (and_more digit base n (drop i bs)) ≡ None
unfolding behind
and_more-none digit base n bs i b h e s =
    rw (drop-cons bs i 0 h, ← e) (ap capped (and_more-cons digit base n b (drop (suc i) bs) None s))

pub ruleset digit_rules = (and_more-step, and_more-none)
