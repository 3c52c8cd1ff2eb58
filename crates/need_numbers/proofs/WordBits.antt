-- Bits of words of 64.
use Rattle.std.proofs.Common.{◌≡◌, ℕ, zero, suc, ◌+◌, ◌*◌, ◌/◌, ◌%◌, ◌^◌, ◌<◌, ◌≤◌, Bool, true, false, ◌||◌, List, [], ◌∷◌, ◌++◌, length, get_or, set, take, refl, sym, ap, ◌∙◌, subst, arith, nat_eq, Option, Some, None, slice_get}
use Rattle.std.specs.Int.{bit_at, w64}
use Rattle.std.specs.Int.RustNames.{bit_or}
use Rattle.std.proofs.lemmas.Bool.{false≢true, eqb-true, eq-eqb}
use Rattle.std.proofs.lemmas.Option.{slice_get_within, get_or_from_slice_get}
use Rattle.std.proofs.lemmas.List.{take_all, take_more, get_or_default, get_or-set_same, get_or-set_other}
use Rattle.std.proofs.lemmas.List.Folds.{list_any-append}
use Rattle.std.proofs.lemmas.Nat.Bits.{bit_at_set_same, bit_at_set_other}
use Rattle.need_numbers.specs.Rows.{has}
use Rattle.need_numbers.specs.Stretches.{bit_in, AreBitsOf}
use Rattle.base_laws.proofs.Tests.{is_false}

other_number : (k o : ℕ) → (k ≡ o → ⊥) → nat_eq k o ≡ false
other_number k o h = is_false (nat_eq k o) (λ e. h (eqb-true k o e))

-- one bit is set
pub bit_set : (ws : List ℕ) (n w v : ℕ) → n / 64 < length ws → w ≡ get_or ws (n / 64) w → v ≡ bit_or w (1 * 2 ^ (n % 64) % 2 ^ 64) → (k : ℕ) → bit_in (set ws (n / 64) v) k ≡ (nat_eq k n || bit_in ws k)
bit_set ws n w v l e f k = at (nat_eq (k / 64) (n / 64)) refl
  where
    within : n % 64 < 64
    within = omega arith

    at : (c : Bool) → nat_eq (k / 64) (n / 64) ≡ c → bit_in (set ws (n / 64) v) k ≡ (nat_eq k n || bit_in ws k)
    at true q = in_word (nat_eq (k % 64) (n % 64)) refl
      where
        same : k / 64 ≡ n / 64
        same = eqb-true (k / 64) (n / 64) q

        word : get_or (set ws (n / 64) v) (k / 64) 0 ≡ v
        word = ap (λ p. get_or (set ws (n / 64) v) p 0) same ∙ get_or-set_same ws (n / 64) v 0 l

        in_word : (c : Bool) → nat_eq (k % 64) (n % 64) ≡ c → bit_in (set ws (n / 64) v) k ≡ (nat_eq k n || bit_in ws k)
        in_word true r =
            let m : k % 64 ≡ n % 64 = eqb-true (k % 64) (n % 64) r in
            let s = same in
            let i : k ≡ n = omega (arith, m, s) in
            ap (λ x. nat_eq (bit_at x (k % 64)) 1) (word ∙ f)
            ∙ (ap (λ j. nat_eq (bit_at (bit_or w (1 * 2 ^ (n % 64) % 2 ^ 64)) j) 1) m
            ∙ (eq-eqb (bit_at (bit_or w (1 * 2 ^ (n % 64) % 2 ^ 64)) (n % 64)) 1 (bit_at_set_same w64 w (n % 64) within)
            ∙ sym (ap (λ b. b || bit_in ws k) (eq-eqb k n i))))
        in_word false r =
            let d : k % 64 ≡ n % 64 → ⊥ = λ m. false≢true (sym r ∙ eq-eqb (k % 64) (n % 64) m) in
            ap (λ x. nat_eq (bit_at x (k % 64)) 1) (word ∙ f)
            ∙ (ap (λ b. nat_eq b 1) (bit_at_set_other w64 w (n % 64) within (k % 64) d)
            ∙ (ap (λ x. nat_eq (bit_at x (k % 64)) 1) (e ∙ (get_or_default ws (n / 64) w 0 l ∙ ap (λ p. get_or ws p 0) (sym same)))
            ∙ sym (ap (λ b. b || bit_in ws k) (other_number k n (λ i. d (ap (λ j. j % 64) i))))))
    at false q =
        let d : k / 64 ≡ n / 64 → ⊥ = λ m. false≢true (sym q ∙ eq-eqb (k / 64) (n / 64) m) in
        ap (λ x. nat_eq (bit_at x (k % 64)) 1) (get_or-set_other ws (n / 64) (k / 64) v 0 d)
        ∙ sym (ap (λ b. b || bit_in ws k) (other_number k n (λ i. d (ap (λ j. j / 64) i))))

-- one number more has its bit
pub bits_more : (numbers words more new : List ℕ) (o : ℕ) → AreBitsOf numbers words → more ≡ numbers ++ o ∷ [] → ((k : ℕ) → bit_in new k ≡ (nat_eq k o || bit_in words k)) → AreBitsOf more new
bits_more numbers words more new o a e h = record { each = λ k. h k ∙ (ap (λ b. nat_eq k o || b) (a.each k) ∙ (turned (nat_eq k o) (has k numbers) ∙ sym (ap (has k) e ∙ list_any-append (nat_eq k) numbers (o ∷ [])))) }
  where
    turned : (b c : Bool) → b || c ≡ (c || (b || false))
    turned true true = refl
    turned true false = refl
    turned false true = refl
    turned false false = refl

pub bits_alike : (numbers words new : List ℕ) → AreBitsOf numbers words → ((k : ℕ) → bit_in new k ≡ bit_in words k) → AreBitsOf numbers new
bits_alike numbers words new a h = record { each = λ k. h k ∙ a.each k }

-- numbers that were looked at, one by one
pub take_one : (ns : List ℕ) (p q n : ℕ) (r : Option ℕ) → r ≡ slice_get ns p → r ≡ Some n → q ≡ p + 1 → (take q ns ≡ take p ns ++ n ∷ []) × (q ≤ length ns)
take_one ns p q n r e f g =
    let l = slice_get_within ns p n (sym e ∙ f) in
    let h = get_or_from_slice_get ns p n n (sym e ∙ f) in
    (ap (λ k. take k ns) g ∙ (take_more ns p n l ∙ ap (λ x. take p ns ++ x ∷ []) h), omega (arith, l, g))

left : (ns : List ℕ) (p : ℕ) → slice_get ns p ≡ None → length ns ≤ p
left [] p e = omega arith
left (x ∷ ns) zero e = cc
left (x ∷ ns) (suc p) e = let h = left ns p e in omega arith

pub all_taken : (ns words : List ℕ) (p : ℕ) (r : Option ℕ) → AreBitsOf (take p ns) words → r ≡ slice_get ns p → r ≡ None → AreBitsOf ns words
all_taken ns words p r a e f = subst (λ xs. AreBitsOf xs words) (take_all p ns (left ns p (sym e ∙ f))) a
