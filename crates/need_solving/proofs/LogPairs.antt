-- Pairs that are kept as two lists: what comes at the end, and what stands at a place.
use Rattle.std.proofs.Common.{◌≡◌, ℕ, zero, suc, ◌+◌, ◌-◌, ◌<◌, ◌≤◌, Bool, true, List, [], ◌∷◌, ◌++◌, length, refl, ap, sym, ◌∙◌, arith, Option, Some, None, slice_get}
use Rattle.std.specs.Prelude.{not, is_some}
use Rattle.std.proofs.lemmas.Bool.{false≢true}
use Rattle.std.proofs.lemmas.List.{append-nil}
use Rattle.need_sets.specs.declared.rules.Pair.{Pair}
use Rattle.need_solving.specs.Logs.{pairs_of}

pub pushed : (ns os : List ℕ) (n o : ℕ) → length ns ≡ length os → pairs_of (ns ++ n ∷ []) (os ++ o ∷ []) ≡ pairs_of ns os ++ record { node = n; object = o } ∷ []
pushed [] [] n o e = refl
pushed [] (y ∷ os) n o e = absurd (omega (arith, e))
pushed (x ∷ ns) [] n o e = absurd (omega (arith, e))
pushed (x ∷ ns) (y ∷ os) n o e = ap (λ (l : List Pair). record { node = x; object = y } ∷ l) (pushed ns os n o (omega (arith, e)))

pub stands : (ns os : List ℕ) (k n o : ℕ) → slice_get ns k ≡ Some n → slice_get os k ≡ Some o → slice_get (pairs_of ns os) k ≡ Some (record { node = n; object = o })
stands [] os k n o e f = cc
stands (x ∷ ns) [] k n o e f = cc
stands (x ∷ ns) (y ∷ os) zero n o e f = cc
stands (x ∷ ns) (y ∷ os) (suc k) n o e f = stands ns os k n o e f

pub no_node : (ns os : List ℕ) (k : ℕ) → slice_get ns k ≡ None → slice_get (pairs_of ns os) k ≡ None
no_node [] os k e = refl
no_node (x ∷ ns) [] k e = refl
no_node (x ∷ ns) (y ∷ os) zero e = cc
no_node (x ∷ ns) (y ∷ os) (suc k) e = no_node ns os k e

pub no_object : (ns os : List ℕ) (k : ℕ) → slice_get os k ≡ None → slice_get (pairs_of ns os) k ≡ None
no_object [] os k e = refl
no_object (x ∷ ns) [] k e = refl
no_object (x ∷ ns) (y ∷ os) zero e = cc
no_object (x ∷ ns) (y ∷ os) (suc k) e = no_object ns os k e

-- the pair at a place of two lists, of which one is behind the other
pub among_first : (xs ys : List Pair) (k : ℕ) (r : Option Pair) → k < length xs → r ≡ slice_get xs k → r ≡ slice_get (xs ++ ys) k
among_first [] ys k r l e = absurd (omega arith)
among_first (x ∷ xs) ys zero r l e = e
among_first (x ∷ xs) ys (suc k) r l e = among_first xs ys k r (omega arith) e

right : (xs ys : List Pair) (p q : ℕ) → p ≡ length xs + q → slice_get (xs ++ ys) p ≡ slice_get ys q
right [] ys p q e = let f : p ≡ q = omega arith in ap (slice_get ys) f
right (x ∷ xs) ys zero q e = absurd (omega arith)
right (x ∷ xs) ys (suc p) q e = right xs ys p q (omega arith)

pub among_others : (xs ys : List Pair) (k : ℕ) (r : Option Pair) → length xs ≤ k → r ≡ slice_get ys (k - length xs) → r ≡ slice_get (xs ++ ys) k
among_others xs ys k r l e = e ∙ sym (right xs ys k (k - length xs) (omega arith))

-- one pair more behind the first of two lists, where the second has none
pub behind_first : (xs ys : List Pair) (o : Pair) (b : Bool) → is_some (slice_get ys 0) ≡ not b → b ≡ true → (xs ++ o ∷ []) ++ ys ≡ (xs ++ ys) ++ o ∷ []
behind_first xs [] o b e f = append-nil (xs ++ o ∷ []) ∙ ap (λ zs. zs ++ o ∷ []) (sym (append-nil xs))
behind_first xs (y ∷ ys) o b e f = absurd (false≢true (sym (e ∙ ap not f)))
