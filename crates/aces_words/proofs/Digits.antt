-- The decimal digits of a number, from the last on.
use Rattle.std.proofs.Common.{◌≡◌, ◌≢◌, ◌↔◌, ℕ, ◌+◌, ◌-◌, ◌/◌, ◌%◌, ◌<◌, ◌≤◌, ◌^◌, List, [], ◌∷◌, ◌++◌, length, get_or, take, refl, ap, sym, ◌∙◌, arith, append-nil, Bool, true}
use Rattle.std.specs.Prelude.{◌==◌}
use Rattle.std.proofs.lemmas.Bool.Decides.{nat_tests}
use Rattle.std.proofs.lemmas.Grind.{take_at_read}
use Rattle.std.proofs.lemmas.List.{take_at, same_from_push}
use Rattle.std.specs.Fmt.{decimal}
use Rattle.std.proofs.lemmas.Fmt.{decimal_digit, decimal_step, decimal_by_steps, decimal_nonempty}

-- every number has a last digit
pub last_digit : (n : ℕ) → n < 2 ^ 32 → (front : List ℕ) × (decimal n ≡ front ++ (48 + n % 10) ∷ [])
last_digit n h =
    decimal_by_steps (λ m ds. (front : List ℕ) × (ds ≡ front ++ (48 + m % 10) ∷ []))
    (λ m k. let e : m % 10 ≡ m = omega arith in ([], sym (ap (λ d. (48 + d) ∷ []) e)))
    (λ m ds k p. (ds, refl)) n (omega arith)

no_items : (xs : List ℕ) → (length xs == 0) ≡ true → xs ≡ []
no_items [] h = refl
no_items (x ∷ xs) h = let f : ⊥ = grind (arith, nat_tests) in absurd f

-- digits are their front and the last
split_last : (ds : List ℕ) → 1 ≤ length ds → ds ≡ take (length ds - 1) ds ++ get_or ds (length ds - 1) 0 ∷ []
split_last ds h =
    let n : length ds - 1 + 1 ≡ length ds = omega arith in
    let all : take (length ds) ds ≡ ds = ap (take (length ds)) (sym (append-nil ds)) ∙ take_at ds [] (length ds) refl in
    sym all ∙ ap (λ k. take k ds) (sym n) ∙ (take_at_read ds (length ds - 1) 0 (omega arith)).1

pub not_empty : (ds : List ℕ) (n : ℕ) → length ds < 1 → n < 2 ^ 32 → ds ≡ decimal n → ⊥
not_empty ds n h k e = omega (arith, ap length e, decimal_nonempty n (omega arith))

module _ (ds : List ℕ) (n : ℕ) (some : 1 ≤ length ds) (small : n < 2 ^ 32) where
  -- another last digit is another number
  pub other_last : get_or ds (length ds - 1) 0 ≢ 48 + n % 10 → ds ≡ decimal n → ⊥
  other_last k e = let d = last_digit n small in k (same_from_push (take (length ds - 1) ds) d.0 (get_or ds (length ds - 1) 0) (48 + n % 10) (sym (split_last ds some) ∙ e ∙ d.1)).1

  same_last : get_or ds (length ds - 1) 0 ≡ 48 + n % 10 → ds ≡ take (length ds - 1) ds ++ (48 + n % 10) ∷ []
  same_last h = split_last ds some ∙ ap (λ d. take (length ds - 1) ds ++ d ∷ []) h

  pub one_digit : (b : Bool) → get_or ds (length ds - 1) 0 ≡ 48 + n % 10 → n < 10 → b ≡ (length (take (length ds - 1) ds) == 0) → (b ≡ true) ↔ (ds ≡ decimal n)
  one_digit b h k q =
      let one : decimal n ≡ [] ++ (48 + n % 10) ∷ [] = let e : n % 10 ≡ n = omega arith in decimal_digit n k ∙ sym (ap (λ d. (48 + d) ∷ []) e) in (
        λ t. same_last h ∙ ap (λ x. x ++ (48 + n % 10) ∷ []) (no_items (take (length ds - 1) ds) (sym q ∙ t)) ∙ sym one,
        λ e. q ∙ ap (λ (x : List ℕ). length x == 0) (same_from_push (take (length ds - 1) ds) [] (48 + n % 10) (48 + n % 10) (sym (same_last h) ∙ e ∙ one)).0,
      )

  pub more_digits : (b : Bool) → get_or ds (length ds - 1) 0 ≡ 48 + n % 10 → 10 ≤ n → (b ≡ true) ↔ (take (length ds - 1) ds ≡ decimal (n / 10)) → (b ≡ true) ↔ (ds ≡ decimal n)
  more_digits b h k q =
      let s = decimal_step n k (omega arith) in (
        λ t. same_last h ∙ ap (λ x. x ++ (48 + n % 10) ∷ []) (q.0 t) ∙ sym s,
        λ e. q.1 (same_from_push (take (length ds - 1) ds) (decimal (n / 10)) (48 + n % 10) (48 + n % 10) (sym (same_last h) ∙ e ∙ s)).0,
      )
