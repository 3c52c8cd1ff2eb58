-- Records that are read one by one: what was made and what is left are the whole.
use Rattle.std.proofs.Common.{◌≡◌, ℕ, suc, ◌+◌, ◌-◌, ◌*◌, ◌<◌, ◌≤◌, List, [], ◌∷◌, ◌++◌, sym, ap, ap₂, ◌∙◌, append-nil, append_assoc, arith}
use Rattle.std.proofs.lemmas.Nat.{mul-le}
use Rattle.monitor_model.specs.FromFlash.{records}

-- a record lies in front of what is behind the last
pub fits : (z n k s m l : ℕ) → k < n → m ≡ z → s + z * n ≤ l → s + m * k + z ≤ l
fits z n k s m l lt e room =
    let below : z * (k + 1) ≤ z * n = mul-le z (k + 1) z n (omega arith) (omega (arith, lt)) in
    let next : s + z * (k + 1) ≡ s + z * k + z = grind arith in
    let same : s + m * k + z ≡ s + z * k + z = ap (λ a. s + a * k + z) e in
    omega (arith, below, next, same, room)

-- one record more
pub one_more : {A : Type 0} (f : ℕ → A) (z n k s : ℕ) (xs : List A) (x : A) → k < n → x ≡ f (s + z * k)
    → (xs ++ x ∷ []) ++ records f z (n - (k + 1)) (s + z * (k + 1)) ≡ xs ++ records f z (n - k) (s + z * k)
one_more f z n k s xs x lt e =
    let m : n - k ≡ suc (n - (k + 1)) = omega (arith, lt) in
    let o : s + z * (k + 1) ≡ s + z * k + z = grind arith in
    append_assoc xs (x ∷ []) (records f z (n - (k + 1)) (s + z * (k + 1)))
    ∙ ap₂ (λ y a. xs ++ y ∷ records f z (n - (k + 1)) a) e o
    ∙ sym (ap (λ c. xs ++ records f z c (s + z * k)) m)

-- none is left
pub none_left : {A : Type 0} (f : ℕ → A) (z n k s : ℕ) (xs : List A) → n ≤ k → xs ++ records f z (n - k) (s + z * k) ≡ xs
none_left f z n k s xs le =
    let e : n - k ≡ 0 = omega (arith, le) in
    ap (λ c. xs ++ records f z c (s + z * k)) e ∙ append-nil xs

-- none is made
pub none_made : {A : Type 0} (f : ℕ → A) (z n s : ℕ) → [] ++ records f z (n - 0) (s + z * 0) ≡ records f z n s
none_made f z n s =
    let e : s + z * 0 ≡ s = grind arith in
    let c : n - 0 ≡ n = omega arith in
    ap₂ (λ m a. records f z m a) c e
