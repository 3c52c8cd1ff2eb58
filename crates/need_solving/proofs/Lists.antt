-- Lists without repeats that grow.
use Rattle.std.proofs.Common.{◌≡◌, ℕ, zero, suc, ◌+◌, ◌<◌, ◌≤◌, Bool, true, false, List, [], ◌∷◌, ◌++◌, length, get_or, set, refl, sym, ap, ◌∙◌, subst, arith, nat_eq, if◌then◌else◌, ◌⊎◌, inl, inr, Some, slice_get}
use Rattle.std.specs.List.{IsDistinct}
use Rattle.std.proofs.lemmas.Bool.{false≢true, eqb-true, eq-eqb, or_left, or_right, or_cases}
use Rattle.std.proofs.lemmas.List.{length-set, get_or-set_same, length-append}
use Rattle.std.proofs.lemmas.Option.{slice_get_within, get_or_from_slice_get}
use Rattle.std.proofs.lemmas.Map.Keys.{IsDistinct-push}
use Rattle.std.specs.Cmp.{nat_eq_equiv}
use Rattle.need_numbers.specs.Rows.{Lists, has, row, added}
use Rattle.need_sets.specs.Solutions.{is_in}
use Rattle.need_sets.proofs.Replaced.{each_replaced}

-- what stands at a place
pub taken : {X : Type 0} (xs : List X) (k : ℕ) (x : X) → slice_get xs k ≡ Some x → (k < length xs) × ((d : X) → get_or xs k d ≡ x)
taken xs k x e = (slice_get_within xs k x e, λ d. get_or_from_slice_get xs k x d e)

push_cases : (p o : ℕ) (xs : List ℕ) → has p (xs ++ o ∷ []) ≡ true → (has p xs ≡ true) ⊎ (p ≡ o)
push_cases p o [] e = elim (or_cases (nat_eq p o) false e) [ inl h ↦ inr (eqb-true p o h) | inr h ↦ absurd (false≢true h) ]
push_cases p o (x ∷ xs) e = elim (or_cases (nat_eq p x) (has p (xs ++ o ∷ [])) e) [ inl h ↦ inl (or_left (nat_eq p x) (has p xs) h) | inr h ↦ later (push_cases p o xs h) ]
  where
    later : (has p xs ≡ true) ⊎ (p ≡ o) → (has p (x ∷ xs) ≡ true) ⊎ (p ≡ o)
    later (inl h) = inl (or_right (nat_eq p x) (has p xs) h)
    later (inr h) = inr h

push_kept : (p o : ℕ) (xs : List ℕ) → has p xs ≡ true → has p (xs ++ o ∷ []) ≡ true
push_kept p o [] e = absurd (false≢true e)
push_kept p o (x ∷ xs) e = elim (or_cases (nat_eq p x) (has p xs) e) [ inl h ↦ or_left (nat_eq p x) (has p (xs ++ o ∷ [])) h | inr h ↦ or_right (nat_eq p x) (has p (xs ++ o ∷ [])) (push_kept p o xs h) ]

push_new : (o : ℕ) (xs : List ℕ) → has o (xs ++ o ∷ []) ≡ true
push_new o [] = or_left (nat_eq o o) false (eq-eqb o o refl)
push_new o (x ∷ xs) = or_right (nat_eq o x) (has o (xs ++ o ∷ [])) (push_new o xs)

pub put_cases : (rows : Lists) (n o m x : ℕ) → is_in (set rows n (row rows n ++ o ∷ [])) m x ≡ true → (is_in rows m x ≡ true) ⊎ ((m ≡ n) × (x ≡ o))
put_cases rows n o m x = each_replaced (λ i r. (y : ℕ) → has y r ≡ true → (is_in rows i y ≡ true) ⊎ ((i ≡ n) × (y ≡ o))) rows n (row rows n ++ o ∷ []) (λ i y h. inl h) (λ y h. one y (push_cases y o (row rows n) h)) m x
  where
    one : (y : ℕ) → (has y (row rows n) ≡ true) ⊎ (y ≡ o) → (is_in rows n y ≡ true) ⊎ ((n ≡ n) × (y ≡ o))
    one y (inl h) = inl h
    one y (inr h) = inr (refl, h)

pub put_kept : (rows : Lists) (n o m x : ℕ) → is_in rows m x ≡ true → is_in (set rows n (row rows n ++ o ∷ [])) m x ≡ true
put_kept rows n o m x = each_replaced (λ i r. (y : ℕ) → is_in rows i y ≡ true → has y r ≡ true) rows n (row rows n ++ o ∷ []) (λ i y h. h) (λ y h. push_kept y o (row rows n) h) m x

pub put_new : (rows : Lists) (n o : ℕ) → n < length rows → is_in (set rows n (row rows n ++ o ∷ [])) n o ≡ true
put_new rows n o l = subst (λ r. has o r ≡ true) (sym (get_or-set_same rows n (row rows n ++ o ∷ []) [] l)) (push_new o (row rows n))

-- what `added` leaves
pub added_cases : (rows : Lists) (n o m x : ℕ) → is_in (added rows n o) m x ≡ true → (is_in rows m x ≡ true) ⊎ ((m ≡ n) × (x ≡ o))
added_cases rows n o m x = pick (is_in rows n o)
  where
    pick : (b : Bool) → is_in (if b then rows else set rows n (row rows n ++ o ∷ [])) m x ≡ true → (is_in rows m x ≡ true) ⊎ ((m ≡ n) × (x ≡ o))
    pick true h = inl h
    pick false h = put_cases rows n o m x h

pub added_kept : (rows : Lists) (n o m x : ℕ) → is_in rows m x ≡ true → is_in (added rows n o) m x ≡ true
added_kept rows n o m x h = pick (is_in rows n o)
  where
    pick : (b : Bool) → is_in (if b then rows else set rows n (row rows n ++ o ∷ [])) m x ≡ true
    pick true = h
    pick false = put_kept rows n o m x h

pub added_new : (rows : Lists) (n o : ℕ) → n < length rows → is_in (added rows n o) n o ≡ true
added_new rows n o l = pick (is_in rows n o) refl
  where
    pick : (b : Bool) → is_in rows n o ≡ b → is_in (if b then rows else set rows n (row rows n ++ o ∷ [])) n o ≡ true
    pick true h = h
    pick false h = put_new rows n o l

pub added_count : (rows : Lists) (n o : ℕ) → length (added rows n o) ≡ length rows
added_count rows n o = pick (is_in rows n o)
  where
    pick : (b : Bool) → length (if b then rows else set rows n (row rows n ++ o ∷ [])) ≡ length rows
    pick true = refl
    pick false = length-set rows n (row rows n ++ o ∷ [])

-- other lists stay
pub added_other : (rows : Lists) (n o m : ℕ) → (m ≡ n → ⊥) → row (added rows n o) m ≡ row rows m
added_other rows n o m d = pick (is_in rows n o)
  where
    pick : (b : Bool) → row (if b then rows else set rows n (row rows n ++ o ∷ [])) m ≡ row rows m
    pick true = refl
    pick false = each_replaced (λ i r. (i ≡ n → ⊥) → r ≡ row rows i) rows n (row rows n ++ o ∷ []) (λ i e. refl) (λ e. absurd (e refl)) m d

-- an item is at a place
pub has_at : (o : ℕ) (xs : List ℕ) → has o xs ≡ true → (k : ℕ) × (k < length xs) × (get_or xs k 0 ≡ o)
has_at o [] e = absurd (false≢true e)
has_at o (x ∷ xs) e = elim (or_cases (nat_eq o x) (has o xs) e) [ inl h ↦ (0, omega arith, sym (eqb-true o x h)) | inr h ↦ later (has_at o xs h) ]
  where
    later : (k : ℕ) × (k < length xs) × (get_or xs k 0 ≡ o) → (k : ℕ) × (k < length (x ∷ xs)) × (get_or (x ∷ xs) k 0 ≡ o)
    later h = (suc h.0, omega (arith, h.1), h.2)

pub at_has : (xs : List ℕ) (k : ℕ) → k < length xs → has (get_or xs k 0) xs ≡ true
at_has [] k l = absurd (omega arith)
at_has (x ∷ xs) zero l = or_left (nat_eq x x) (has x xs) (eq-eqb x x refl)
at_has (x ∷ xs) (suc k) l = or_right (nat_eq (get_or xs k 0) x) (has (get_or xs k 0) xs) (at_has xs k (omega arith))

-- lists grow
pub put_longer : (rows : Lists) (n o m : ℕ) → length (row rows m) ≤ length (row (set rows n (row rows n ++ o ∷ [])) m)
put_longer rows n o m = each_replaced (λ i r. length (row rows i) ≤ length r) rows n (row rows n ++ o ∷ []) (λ i. omega arith) (let e = length-append (row rows n) (o ∷ []) in omega arith) m

pub added_longer : (rows : Lists) (n o m : ℕ) → length (row rows m) ≤ length (row (added rows n o) m)
added_longer rows n o m = pick (is_in rows n o)
  where
    pick : (b : Bool) → length (row rows m) ≤ length (row (if b then rows else set rows n (row rows n ++ o ∷ [])) m)
    pick true = omega arith
    pick false = put_longer rows n o m

pub put_more : (rows : Lists) (n o : ℕ) → n < length rows → length (row (set rows n (row rows n ++ o ∷ [])) n) ≡ length (row rows n) + 1
put_more rows n o l = ap length (get_or-set_same rows n (row rows n ++ o ∷ []) [] l) ∙ length-append (row rows n) (o ∷ [])

pub added_more : (rows : Lists) (n o : ℕ) → n < length rows → is_in rows n o ≡ false → length (row (added rows n o) n) ≡ length (row rows n) + 1
added_more rows n o l e = pick (is_in rows n o) e
  where
    pick : (b : Bool) → b ≡ false → length (row (if b then rows else set rows n (row rows n ++ o ∷ [])) n) ≡ length (row rows n) + 1
    pick true q = absurd (false≢true (sym q))
    pick false q = put_more rows n o l

-- lists without repeats get none
pub put_distinct : (rows : Lists) (n o : ℕ) → ((i : ℕ) → IsDistinct nat_eq (row rows i)) → is_in rows n o ≡ false → (i : ℕ) → IsDistinct nat_eq (row (set rows n (row rows n ++ o ∷ [])) i)
put_distinct rows n o h e = each_replaced (λ i r. IsDistinct nat_eq r) rows n (row rows n ++ o ∷ []) h (IsDistinct-push nat_eq_equiv (row rows n) o (h n) e)

pub added_distinct : (rows : Lists) (n o : ℕ) → ((i : ℕ) → IsDistinct nat_eq (row rows i)) → (i : ℕ) → IsDistinct nat_eq (row (added rows n o) i)
added_distinct rows n o h = pick (is_in rows n o) refl
  where
    pick : (b : Bool) → is_in rows n o ≡ b → (i : ℕ) → IsDistinct nat_eq (row (if b then rows else set rows n (row rows n ++ o ∷ [])) i)
    pick true e = h
    pick false e = put_distinct rows n o h e
