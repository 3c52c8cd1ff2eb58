-- Shifts, bits and products as the lists compute them.
use Rattle.std.proofs.Common.{◌≡◌, ℕ, zero, suc, ◌+◌, ◌-◌, ◌*◌, ◌/◌, ◌%◌, ◌^◌, ◌<◌, ◌≤◌, ◌⊎◌, inl, inr, Bool, true, false, List, [], ◌∷◌, length, refl, sym, ap, ◌∙◌, arith}
use Rattle.std.specs.Prelude.{bit_and}
use Rattle.std.proofs.lemmas.Nat.{div-mul-add, pow_pos}
use Rattle.base_words.specs.Arithmetic.{word, shift_left, shift_right}
use Rattle.monitor_program.specs.Opening.{bits_of}

-- ---- shifts

pub shl2 : (x y : ℕ) → y ≡ shift_left x 2 → x < 2 ^ 28 → y ≡ 4 * x
unfolding shift_left
shl2 x y e h = omega arith

pub shl3 : (x y : ℕ) → y ≡ shift_left x 3 → x < 2 ^ 28 → y ≡ 8 * x
unfolding shift_left
shl3 x y e h = omega arith

pub shl4 : (x y : ℕ) → y ≡ shift_left x 4 → x < 2 ^ 28 → y ≡ 16 * x
unfolding shift_left
shl4 x y e h = omega arith

pub shl8 : (x y : ℕ) → y ≡ shift_left x 8 → x < 2 ^ 24 → y ≡ x * 256
unfolding shift_left
shl8 x y e h = omega arith

-- a number of words from their bytes
pub quarter : (d z n : ℕ) → z ≡ shift_right d 2 → d ≡ 4 * n → z ≡ n
unfolding shift_right
quarter d z n a b = omega (arith, a, b)

-- by an eighth's exponent
pub shr_by : (d e y : ℕ) → y ≡ shift_right d e → e < 256 → y ≡ d / 2 ^ e
unfolding shift_right
shr_by d e y h lt = let z : e % 256 ≡ e = omega arith in h ∙ ap (λ n. d / 2 ^ n) z

pub times_over : (n a : ℕ) → 0 < a → n * a / a ≡ n
times_over n a h = let e : n * a + 0 ≡ n * a = omega arith in ap (λ x. x / a) (sym e) ∙ div-mul-add n a 0 h

-- ---- the stack's eighths

-- 0xFF shifted by the number of open eighths, in eight bits
srd_by : (n : ℕ) → (n ≡ 1) ⊎ ((n ≡ 2) ⊎ ((n ≡ 3) ⊎ ((n ≡ 4) ⊎ ((n ≡ 5) ⊎ ((n ≡ 6) ⊎ ((n ≡ 7) ⊎ ((n ≡ 8)))))))) → bit_and (word (255 * 2 ^ (n % 256))) 255 ≡ 256 - 2 ^ n
srd_by n (inl e) = rw e refl
srd_by n (inr (inl e)) = rw e refl
srd_by n (inr (inr (inl e))) = rw e refl
srd_by n (inr (inr (inr (inl e)))) = rw e refl
srd_by n (inr (inr (inr (inr (inl e))))) = rw e refl
srd_by n (inr (inr (inr (inr (inr (inl e)))))) = rw e refl
srd_by n (inr (inr (inr (inr (inr (inr (inl e))))))) = rw e refl
srd_by n (inr (inr (inr (inr (inr (inr (inr e))))))) = rw e refl

one_to_eight : (n : ℕ) → 1 ≤ n → n ≤ 8 → (n ≡ 1) ⊎ ((n ≡ 2) ⊎ ((n ≡ 3) ⊎ ((n ≡ 4) ⊎ ((n ≡ 5) ⊎ ((n ≡ 6) ⊎ ((n ≡ 7) ⊎ ((n ≡ 8))))))))
one_to_eight n a b = grind arith

pub srd_is : (n : ℕ) → 1 ≤ n → n ≤ 8 → bit_and (word (255 * 2 ^ (n % 256))) 255 ≡ 256 - 2 ^ n
srd_is n a b = srd_by n (one_to_eight n a b)

pub srd_word : (n v x : ℕ) → v ≡ n → x ≡ shift_left 255 v → x ≡ word (255 * 2 ^ (n % 256))
unfolding shift_left
srd_word n v x e h = h ∙ ap (λ n. word (255 * 2 ^ (n % 256))) e

pub below_256 : (n : ℕ) → n ≤ 8 → (256 - 2 ^ n) < 256
below_256 n h = let p = pow_pos n in omega arith

-- ---- products by doubling

-- a number given by its bits, times another, behind what was there
abbrev pub horner : List Bool → (x y : ℕ) → ℕ
horner [] x y = x
horner (true ∷ bs) x y = horner bs (x + x + y) y
horner (false ∷ bs) x y = horner bs (x + x) y

abbrev pub Small : List Bool → (x y : ℕ) → Type 0
Small [] x y = Unit {0}
Small (true ∷ bs) x y = (x + x + y < 2 ^ 32) × Small bs (x + x + y) y
Small (false ∷ bs) x y = (x + x < 2 ^ 32) × Small bs (x + x) y

four_to_twelve : (s : ℕ) → 4 ≤ s → s ≤ 12 → (s ≡ 4) ⊎ ((s ≡ 5) ⊎ ((s ≡ 6) ⊎ ((s ≡ 7) ⊎ ((s ≡ 8) ⊎ ((s ≡ 9) ⊎ ((s ≡ 10) ⊎ ((s ≡ 11) ⊎ ((s ≡ 12)))))))))
four_to_twelve s a b = grind arith

times_by : (s y : ℕ) → (s ≡ 4) ⊎ ((s ≡ 5) ⊎ ((s ≡ 6) ⊎ ((s ≡ 7) ⊎ ((s ≡ 8) ⊎ ((s ≡ 9) ⊎ ((s ≡ 10) ⊎ ((s ≡ 11) ⊎ ((s ≡ 12))))))))) → y < 2 ^ 16 → (horner (bits_of 4 (s + 2)) 0 y ≡ (s + 2) * y) × Small (bits_of 4 (s + 2)) 0 y
times_by s y (inl e) c = rw e (omega arith, (omega arith, (omega arith, (omega arith, (omega arith, tt)))))
times_by s y (inr (inl e)) c = rw e (omega arith, (omega arith, (omega arith, (omega arith, (omega arith, tt)))))
times_by s y (inr (inr (inl e))) c = rw e (omega arith, (omega arith, (omega arith, (omega arith, (omega arith, tt)))))
times_by s y (inr (inr (inr (inl e)))) c = rw e (omega arith, (omega arith, (omega arith, (omega arith, (omega arith, tt)))))
times_by s y (inr (inr (inr (inr (inl e))))) c = rw e (omega arith, (omega arith, (omega arith, (omega arith, (omega arith, tt)))))
times_by s y (inr (inr (inr (inr (inr (inl e)))))) c = rw e (omega arith, (omega arith, (omega arith, (omega arith, (omega arith, tt)))))
times_by s y (inr (inr (inr (inr (inr (inr (inl e))))))) c = rw e (omega arith, (omega arith, (omega arith, (omega arith, (omega arith, tt)))))
times_by s y (inr (inr (inr (inr (inr (inr (inr (inl e)))))))) c = rw e (omega arith, (omega arith, (omega arith, (omega arith, (omega arith, tt)))))
times_by s y (inr (inr (inr (inr (inr (inr (inr (inr e)))))))) c = rw e (omega arith, (omega arith, (omega arith, (omega arith, (omega arith, tt)))))

-- the records of 4 to 12 slots
pub times_is : (s y : ℕ) → 4 ≤ s → s ≤ 12 → y < 2 ^ 16 → (horner (bits_of 4 (s + 2)) 0 y ≡ (s + 2) * y) × Small (bits_of 4 (s + 2)) 0 y
times_is s y a b c = times_by s y (four_to_twelve s a b) c

-- the steps of such a product
abbrev pub times_ticks : List Bool → ℕ
times_ticks [] = 0
times_ticks (true ∷ bs) = 4 + (4 + times_ticks bs)
times_ticks (false ∷ bs) = 4 + times_ticks bs

few_ticks : (bs : List Bool) → times_ticks bs ≤ 8 * length bs
few_ticks [] = omega arith
few_ticks (true ∷ bs) = let h = few_ticks bs in omega (arith, h)
few_ticks (false ∷ bs) = let h = few_ticks bs in omega (arith, h)

bit_count : (k n : ℕ) → length (bits_of k n) ≡ k
bit_count zero n = refl
bit_count (suc k) n = let h = bit_count k n in omega (arith, h)

pub product_ticks : (n : ℕ) → times_ticks (bits_of 4 n) ≤ 32
product_ticks n = let h = few_ticks (bits_of 4 n) in let e = bit_count 4 n in omega (arith, h, e)

-- ---- the words of records

pub product : (s n : ℕ) → (8 * s + 16) * n ≡ 4 * ((2 * s + 4) * n)
product s n = grind arith
