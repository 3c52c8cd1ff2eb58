-- Multiples of a number.
use Rattle.std.proofs.Common.{◌≡◌, ℕ, ◌+◌, ◌*◌, ◌/◌, ◌%◌, Bool, true, false, cond, List, [], ◌∷◌, sum, refl, sym, ap, ◌∙◌, arith}
use Rattle.std.specs.Prelude.{filter}
use Rattle.std.proofs.Math.Nat.{mul-mod_left, mul_assoc}
use Rattle.std.proofs.lemmas.Nat.{div-add-mod'}
use Rattle.base_laws.specs.Lists.{Each}
use Rattle.std.proofs.lemmas.List.Sums.{sum_by-cons}

-- x is a multiple of v
pub record IsMultiple (v x : ℕ) : Type 0 where
  pub times : ℕ
  pub is : x ≡ times * v

pub none : (v : ℕ) → IsMultiple v 0
none v = record { times = 0; is = omega arith }

pub both : (v x y : ℕ) → IsMultiple v x → IsMultiple v y → IsMultiple v (x + y)
both v x y m n = let a = m.is in let b = n.is in record { times = m.times + n.times; is = omega arith }

pub through : (u v x : ℕ) → IsMultiple u v → IsMultiple v x → IsMultiple u x
through u v x m n = record { times = n.times * m.times; is = n.is ∙ (ap (λ w. n.times * w) m.is ∙ sym (mul_assoc n.times m.times u)) }

pub no_rest : (v x : ℕ) → IsMultiple v x → x % v ≡ 0
no_rest v x m = ap (λ y. y % v) m.is ∙ mul-mod_left m.times v

pub from_no_rest : (v x : ℕ) → x % v ≡ 0 → IsMultiple v x
from_no_rest v x e = record { times = x / v; is = let d = div-add-mod' x v in omega (arith, d, e) }

regrouped : (a b c : ℕ) → a * (b * c) ≡ a * c * b
regrouped a b c = grind arith

-- a multiple of n is one of each number that n is a multiple of
pub multiple_of : (x c m n : ℕ) → n ≡ c * m → x % n ≡ 0 → x % c ≡ 0
multiple_of x c m n split e =
    let d = div-add-mod' x n in
    let q : ℕ = x / n in
    let whole : x ≡ q * n = omega (arith, d, e) in
    ap (λ y. y % c) (whole ∙ (ap (λ z. q * z) split ∙ regrouped q c m)) ∙ mul-mod_left (q * m) c

-- two behind an even number is even
pub even_back : (n : ℕ) → n % 2 ≡ 0 → (n + 2) / 2 * 2 ≡ n + 2
even_back n e = omega (arith, e)

-- the sum of the numbers that pass a test
pub sum_of_some : (v : ℕ) (p : ℕ → Bool) (Good : ℕ → Type 0) → ((x : ℕ) → Good x → p x ≡ true → IsMultiple v x) → (xs : List ℕ) → Each Good xs → IsMultiple v (sum (filter p xs))
sum_of_some v p Good each [] g = none v
sum_of_some v p Good each (x ∷ xs) g = by (p x) refl (sum_of_some v p Good each xs g.1)
  where
    by : (b : Bool) → p x ≡ b → IsMultiple v (sum (filter p xs)) → IsMultiple v (sum (cond b (x ∷ filter p xs) (filter p xs)))
    by true e ih =
        let m = both v x (sum (filter p xs)) (each x g.0 e) ih in
        let first = sum_by-cons (λ (n : ℕ). n) x (filter p xs) in
        record { times = m.times; is = first ∙ m.is }
    by false e ih = ih
