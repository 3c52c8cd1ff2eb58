-- Ranges of addresses, powers of two, and where the window of a peripheral may lie: each as a fact and as a test that is
-- true exactly where the fact holds. Sizes are in bytes.
use Rattle.std.specs.Prelude.{◌≡◌, ℕ, suc, ◌+◌, ◌-◌, ◌%◌, ◌^◌, ◌≤◌, ◌⊎◌, Bool, ◌&&◌, ◌||◌, nat_eq, nat_le}
use Rattle.std.specs.List.{list_any, range_with_len}

-- ---- powers of two and ranges

-- a power of two between two others, by their exponents
abbrev pub IsPowerBetween : (low high number : ℕ) → Type 0
IsPowerBetween low high n = (k : ℕ) × (low ≤ k) × (k ≤ high) × (n ≡ 2 ^ k)

abbrev pub is_power_between : (low high number : ℕ) → Bool
is_power_between low high n = list_any (λ k. nat_eq n (2 ^ k)) (range_with_len low (suc high - low))

-- the range [base, base + size) lies inside another
abbrev pub IsInside : (base size outer outer_size : ℕ) → Type 0
IsInside b n o m = (o ≤ b) × (b + n ≤ o + m)

abbrev pub is_inside : (base size outer outer_size : ℕ) → Bool
is_inside b n o m = nat_le o b && nat_le (b + n) (o + m)

-- two ranges have no address in common
abbrev pub AreApart : (base size other other_size : ℕ) → Type 0
AreApart b n c m = (b + n ≤ c) ⊎ (c + m ≤ b)

abbrev pub are_apart : (base size other other_size : ℕ) → Bool
are_apart b n c m = nat_le (b + n) c || nat_le (c + m) b

-- ---- windows

-- the peripherals' part of the memory map
abbrev pub peripherals_base : ℕ
peripherals_base = 0x40000000

abbrev pub peripherals_size : ℕ
peripherals_size = 0x20000000

-- the least window has 2 ^ 5 bytes, and the greatest 2 ^ 16
abbrev pub least_window : ℕ
least_window = 5

abbrev pub greatest_window : ℕ
greatest_window = 16

-- a window: an aligned power of two from 32 bytes to 64 KiB in the peripherals' part of the memory map
pub record IsWindowRange (base size : ℕ) : Type 0 where
  pub power : IsPowerBetween least_window greatest_window size
  pub aligned : base % size ≡ 0
  pub place : IsInside base size peripherals_base peripherals_size

abbrev pub is_window_size : (size : ℕ) → Bool
is_window_size n = is_power_between least_window greatest_window n

abbrev pub is_window_place : (base size : ℕ) → Bool
is_window_place b n = nat_eq (b % n) 0 && is_inside b n peripherals_base peripherals_size
