-- Each test of a range is true exactly where its fact holds.
use Rattle.std.proofs.Common.{◌≡◌, ℕ, zero, suc, ◌+◌, ◌-◌, ◌%◌, ◌^◌, ◌<◌, ◌≤◌, ◌⊎◌, inl, inr, true, sym, ap, ◌∙◌, subst, arith}
use Rattle.std.specs.Prelude.{nat_eq, nat_le, ◌&&◌}
use Rattle.std.specs.Bool.{Decides}
use Rattle.std.specs.List.{list_any, range_with_len}
use Rattle.std.proofs.lemmas.Nat.{pow_pos}
use Rattle.std.proofs.lemmas.Bool.Decides.{Decides-eqb, Decides-and, Decides-or, Decides-like, nat_tests}
use Rattle.base_ranges.specs.Ranges.{IsPowerBetween, is_power_between, IsInside, is_inside, AreApart, are_apart, peripherals_base, peripherals_size, least_window, greatest_window, IsWindowRange, is_window_size, is_window_place}

pub decides_order : (a b : ℕ) → Decides (nat_le a b) (a ≤ b)
decides_order a b = (λ h. grind (arith, nat_tests), λ h. grind (arith, nat_tests))

pub decides_inside : (b n o m : ℕ) → Decides (is_inside b n o m) (IsInside b n o m)
decides_inside b n o m = Decides-and _ _ (decides_order o b) (decides_order (b + n) (o + m))

pub decides_apart : (b n c m : ℕ) → Decides (are_apart b n c m) (AreApart b n c m)
decides_apart b n c m = Decides-or _ _ (decides_order (b + n) c) (decides_order (c + m) b)

-- a power of two whose exponent is one of so many from this one on
abbrev IsPowerFrom : (low count number : ℕ) → Type 0
IsPowerFrom a m n = (k : ℕ) × (a ≤ k) × (k < a + m) × (n ≡ 2 ^ k)

equal_or_more : (a b : ℕ) → a ≤ b → (b ≡ a) ⊎ (a + 1 ≤ b)
equal_or_more a b h = grind arith

decides_power_from : (a m n : ℕ) → Decides (list_any (λ k. nat_eq n (2 ^ k)) (range_with_len a m)) (IsPowerFrom a m n)
decides_power_from a zero n = (λ h. cc, λ p. none p.0 p.1 p.2)
  where
    none : (k : ℕ) → a ≤ k → k < a + 0 → list_any (λ k. nat_eq n (2 ^ k)) (range_with_len a 0) ≡ true
    none k l h = absurd (omega arith)
decides_power_from a (suc m) n =
    Decides-like _ wider narrower (Decides-or _ _ (Decides-eqb n (2 ^ a)) (decides_power_from (a + 1) m n))
  where
    wider : (n ≡ 2 ^ a) ⊎ IsPowerFrom (a + 1) m n → IsPowerFrom a (suc m) n
    wider (inl e) = (a, omega arith, omega arith, e)
    wider (inr p) = (p.0, omega (arith, p.1), omega (arith, p.2), p.3)

    first : (k : ℕ) → a ≤ k → k < a + suc m → n ≡ 2 ^ k → (k ≡ a) ⊎ (a + 1 ≤ k) → (n ≡ 2 ^ a) ⊎ IsPowerFrom (a + 1) m n
    first k l h e (inl same) = inl (e ∙ ap (λ x. 2 ^ x) same)
    first k l h e (inr more) = inr (k, more, omega arith, e)

    narrower : IsPowerFrom a (suc m) n → (n ≡ 2 ^ a) ⊎ IsPowerFrom (a + 1) m n
    narrower p = first p.0 p.1 p.2 p.3 (equal_or_more a p.0 p.1)

pub decides_power : (low high n : ℕ) → Decides (is_power_between low high n) (IsPowerBetween low high n)
decides_power low high n = Decides-like _ to from (decides_power_from low (suc high - low) n)
  where
    to : IsPowerFrom low (suc high - low) n → IsPowerBetween low high n
    to p = (p.0, p.1, omega (arith, p.1, p.2), p.3)

    from : IsPowerBetween low high n → IsPowerFrom low (suc high - low) n
    from p = (p.0, p.1, omega (arith, p.1, p.2), p.3)

pub decides_size : (n : ℕ) → Decides (is_window_size n) (IsPowerBetween least_window greatest_window n)
decides_size n = decides_power least_window greatest_window n

pub decides_place : (b n : ℕ) → Decides (is_window_place b n) ((b % n ≡ 0) × IsInside b n peripherals_base peripherals_size)
decides_place b n = Decides-and _ _ (Decides-eqb (b % n) 0) (decides_inside b n peripherals_base peripherals_size)

pub decides_window : (b n : ℕ) → Decides (is_window_size n && is_window_place b n) (IsWindowRange b n)
decides_window b n = Decides-like _ to from (Decides-and _ _ (decides_size n) (decides_place b n))
  where
    to : IsPowerBetween least_window greatest_window n × ((b % n ≡ 0) × IsInside b n peripherals_base peripherals_size) → IsWindowRange b n
    to h = record { power = h.0; aligned = h.1.0; place = h.1.1 }

    from : IsWindowRange b n → IsPowerBetween least_window greatest_window n × ((b % n ≡ 0) × IsInside b n peripherals_base peripherals_size)
    from w = (w.power, (w.aligned, w.place))

-- what `is_window_place` requires of a window's size
pub size_is_some : (n : ℕ) → is_window_size n ≡ true → 0 < n
size_is_some n h = let p = (decides_size n).0 h in subst (λ (x : ℕ). 0 < x) (sym p.3) (pow_pos p.0)
