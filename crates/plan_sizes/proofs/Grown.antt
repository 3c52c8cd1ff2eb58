-- Lists and counts that grow one by one.
use Rattle.std.proofs.Common.{◌≡◌, ℕ, ◌+◌, Bool, [], ◌∷◌, cond, count_by, ap, ◌∙◌, arith}
use Rattle.std.proofs.lemmas.List.Sums.{sum_by-append, sum_by-cons}
use Rattle.plan_model.specs.Lists.{numbers_below}
use Rattle.plan_model.proofs.Numbers.{numbers_more}

-- how many numbers pass a test, with one more
pub count_more : (p : ℕ → Bool) (k : ℕ) (b : Bool) → p k ≡ b → count_by p (numbers_below (k + 1)) ≡ count_by p (numbers_below k) + cond b 1 0
count_more p k b e =
    let one : ℕ → ℕ = λ j. cond (p j) 1 0 in
    let whole = ap (count_by p) (numbers_more k) ∙ sum_by-append one (numbers_below k) (k ∷ []) in
    let last = sum_by-cons one k [] in
    let is = ap {B = ℕ} (λ c. cond c 1 0) e in
    omega (arith, whole, last, is)
