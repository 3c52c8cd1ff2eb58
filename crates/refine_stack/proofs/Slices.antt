-- A list that was lent as a slice.
use Rattle.std.proofs.Common.{◌≡◌, ℕ, List, ◌++◌, length, take, drop, ap, ◌∙◌, append-nil, arith}
use Rattle.std.proofs.lemmas.List.{drop_all, take_all}

pub whole_again : (xs ys : List ℕ) (n : ℕ) → n ≡ length ys → length ys ≡ length xs → take n (ys ++ drop (length ys) xs) ≡ ys
whole_again xs ys n e l =
    ap (λ (z : List ℕ). take n (ys ++ z)) (drop_all (length ys) xs (omega arith)) ∙ (ap (λ (z : List ℕ). take n z) (append-nil ys) ∙ take_all n ys (omega arith))
