-- Checks that do not fail.
use Rattle.std.proofs.Common.{◌≡◌, ◌≢◌, ℕ, ◌+◌, ◌<◌, ◌≤◌, inl, inr, Bool, true, false, not, ◌&&◌, List, [], ◌∷◌, nat_eq, nat_lt, nat_le, Option, Some, None, refl, arith}
use Rattle.std.proofs.lemmas.Bool.Decides.{nat_tests}
use Rattle.base_laws.specs.Lists.{Each}
use Rattle.machine_devices.specs.declared.image.Image.{Image}
use Rattle.base_ranges.specs.Ranges.{IsInside, AreApart, are_apart, is_inside}
use Rattle.base_ranges.proofs.Decisions.{decides_inside, decides_apart}
use Rattle.machine_devices.specs.Rules.{block_size}
use Rattle.monitor_model.specs.declared.tables.Tables.{Tables}
use Rattle.monitor_model.specs.RegionChecks.{is_data_range}
use Rattle.monitor_model.specs.Checks.{must, and_then, each_record}

pub and_yes : {a b : Bool} → a ≡ true → b ≡ true → (a && b) ≡ true
and_yes {a = true} {b = true} g h = refl
and_yes {a = true} {b = false} g h = h
and_yes {a = false} g h = g

pub le_yes : {a b : ℕ} → a ≤ b → nat_le a b ≡ true
le_yes {a = a} {b = b} h = grind (arith, nat_tests, h)

pub lt_yes : {a b : ℕ} → a < b → nat_lt a b ≡ true
lt_yes {a = a} {b = b} h = grind (arith, nat_tests, h)

pub eq_yes : {a b : ℕ} → a ≡ b → nat_eq a b ≡ true
eq_yes {a = a} {b = b} h = grind (arith, nat_tests, h)

pub ne_yes : {a b : ℕ} → a ≢ b → not (nat_eq a b) ≡ true
ne_yes {a = a} {b = b} h = grind (arith, nat_tests, h)

pub apart_yes : (b n c m : ℕ) → AreApart b n c m → are_apart b n c m ≡ true
apart_yes b n c m h = (decides_apart b n c m).1 h

pub inside_yes : (b n o m : ℕ) → IsInside b n o m → is_inside b n o m ≡ true
inside_yes b n o m h = (decides_inside b n o m).1 h

pub data_yes : (i : Image) (t : Tables) (b n : ℕ) → IsInside b n i.ram_base i.ram_size → AreApart b n t.stack.base t.stack.size → AreApart b n t.monitor block_size → is_data_range i t b n ≡ true
data_yes i t b n h a c = and_yes (inside_yes b n i.ram_base i.ram_size h) (and_yes (apart_yes b n t.stack.base t.stack.size a) (apart_yes b n t.monitor block_size c))

pub must_yes : (b : Bool) (a : ℕ) → b ≡ true → must b a ≡ None
must_yes true a h = refl
must_yes false a h = cc

pub then_yes : {o p : Option ℕ} → o ≡ None → p ≡ None → and_then o p ≡ None
then_yes {o = None} g h = h
then_yes {o = Some a} g h = cc

pub each_yes : {A : Type 0} (test : A → Bool) (a z : ℕ) (xs : List A) → Each (λ x. test x ≡ true) xs → each_record test a z xs ≡ None
each_yes test a z [] h = refl
each_yes test a z (x ∷ xs) h = then_yes (must_yes (test x) a h.0) (each_yes test (a + z) z xs h.1)

-- two ranges that share no address, of which neither is empty
pub apart_from : (b n c m : ℕ) → 0 < n → 0 < m → ((x : ℕ) → b ≤ x → x < b + n → c ≤ x → x < c + m → ⊥) → AreApart b n c m
apart_from b n c m p q none = by (nat_le (b + n) c) (nat_le (c + m) b) refl refl
  where
    by : (u v : Bool) → nat_le (b + n) c ≡ u → nat_le (c + m) b ≡ v → AreApart b n c m
    by true v h k = inl (grind (arith, nat_tests, h))
    by false true h k = inr (grind (arith, nat_tests, k))
    by false false h k = absurd (both (grind (arith, nat_tests, h)) (grind (arith, nat_tests, k)))
      where
        both : c < b + n → b < c + m → ⊥
        both s t = at_greater (nat_le b c) refl s t
          where
            at_greater : (u : Bool) → nat_le b c ≡ u → c < b + n → b < c + m → ⊥
            at_greater true e s t = none c (grind (arith, nat_tests, e)) s (omega arith) (omega (arith, q))
            at_greater false e s t = none b (omega arith) (omega (arith, p)) (grind (arith, nat_tests, e)) t
