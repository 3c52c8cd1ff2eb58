-- Eighths of a region: one that does not hold data decides.
use Rattle.std.proofs.Common.{◌≡◌, ℕ, zero, suc, ◌+◌, ◌*◌, ◌/◌, ◌^◌, ◌<◌, ◌≤◌, Bool, true, false, ◌&&◌, ◌||◌, nat_eq, nat_lt, ⊎_elim, refl, ap, ◌∙◌, subst, lt-ltb, arith}
use Rattle.std.specs.Int.{bit_at}
use Rattle.std.proofs.lemmas.Bool.{cases_lt}
use Rattle.std.proofs.Math.Pow.{pow_mono}
use Rattle.machine_protection.specs.declared.region.Region.{Region}
use Rattle.machine_devices.specs.declared.image.Image.{Image}
use Rattle.monitor_model.specs.declared.tables.Tables.{Tables}
use Rattle.monitor_model.specs.RegionChecks.{base_of, size_of, taken_out, is_data_range, eighths_hold_data}

and_false : (b : Bool) → (b && false) ≡ false
and_false true = refl
and_false false = refl

module _ (i : Image) (t : Tables) (g : Region) where
  abbrev pub eighth : ℕ → Bool
  eighth n = nat_eq (bit_at (taken_out g) n) 1 || is_data_range i t (base_of g + n * (size_of g / 8)) (size_of g / 8)

  pub fails_above : (n m : ℕ) → n < m → eighth n ≡ false → eighths_hold_data i t g m ≡ false
  fails_above n zero lt e = absurd (omega (arith, lt))
  fails_above n (suc m) lt e = ⊎_elim (λ l. ap (λ o. eighth m && o) (fails_above n m l e) ∙ and_false (eighth m)) here (cases_lt n m)
    where
      here : m ≤ n → eighths_hold_data i t g (suc m) ≡ false
      here le = let s : n ≡ m = omega (arith, lt, le) in ap (λ b. b && eighths_hold_data i t g m) (subst (λ k. eighth k ≡ false) s e)

-- a mask of 32 bits, where so many locals or more are lendable
pub mask_fits : (m n : ℕ) → m < 2 ^ 32 → 32 ≤ n → nat_lt m (2 ^ n) ≡ true
mask_fits m n lt le = let p = pow_mono {i = 32} {j = n} le in lt-ltb m (2 ^ n) (omega (arith, lt, p))
