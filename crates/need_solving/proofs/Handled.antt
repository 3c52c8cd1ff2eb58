-- How many of the first pairs are of a node.
use Rattle.std.proofs.Common.{◌≡◌, ℕ, zero, suc, ◌+◌, ◌<◌, ◌≤◌, Bool, true, false, List, refl, sym, ap, subst, arith, nat_eq}
use Rattle.std.proofs.lemmas.Bool.{false≢true, eq-eqb}
use Rattle.need_sets.specs.declared.rules.Pair.{Pair}
use Rattle.need_solving.specs.Searching.{pair_at, one_if, handled}

pub handled_same : (a k : ℕ) (l m : List Pair) → ((i : ℕ) → i < k → pair_at m i ≡ pair_at l i) → handled a k m ≡ handled a k l
handled_same a zero l m h = refl
handled_same a (suc k) l m h =
    let r = handled_same a k l m (λ i b. h i (omega arith)) in
    let s : one_if (nat_eq (pair_at m k).node a) ≡ one_if (nat_eq (pair_at l k).node a) = ap (λ (p : Pair). one_if (nat_eq p.node a)) (h k (omega arith)) in
    omega arith

pub handled_more : (a k n : ℕ) (l : List Pair) → n ≡ k + 1 → handled a k l ≤ handled a n l
handled_more a k n l e = let q : n ≡ suc k = omega arith in subst (λ m. handled a k l ≤ handled a m l) (sym q) (omega arith)

pub handled_next : (a k n : ℕ) (l : List Pair) → n ≡ k + 1 → (pair_at l k).node ≡ a → handled a k l + 1 ≡ handled a n l
handled_next a k n l e f =
    let q : n ≡ suc k = omega arith in
    let s : one_if (nat_eq (pair_at l k).node a) ≡ 1 = one (nat_eq (pair_at l k).node a) (eq-eqb (pair_at l k).node a f) in
    subst (λ m. handled a k l + 1 ≡ handled a m l) (sym q) (omega arith)
  where
    one : (b : Bool) → b ≡ true → one_if b ≡ 1
    one true r = refl
    one false r = absurd (false≢true r)
