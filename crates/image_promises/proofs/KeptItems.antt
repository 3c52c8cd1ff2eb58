-- What is done with lists keeps what each item has.
use Rattle.std.proofs.Common.{ℕ, zero, suc, Bool, true, false, not, List, [], ◌∷◌, filter, get_or, set, take, drop, cond}
use Rattle.std.specs.List.{remove}
use Rattle.base_laws.specs.Lists.{Each}
use Rattle.plan_model.specs.Lists.{distinct}
use Rattle.base_laws.proofs.Lists.{each_both, each_drop, each_take}

module _ {X : Type 0} (P : X → Type 0) where
  pub each_filter : (test : X → Bool) (xs : List X) → Each P xs → Each P (filter test xs)
  each_filter test [] e = tt
  each_filter test (x ∷ xs) e = by (test x) (each_filter test xs e.1)
    where
      by : (b : Bool) → Each P (filter test xs) → Each P (cond b (x ∷ filter test xs) (filter test xs))
      by true ih = (e.0, ih)
      by false ih = ih

  pub each_distinct : (same : X → X → Bool) (xs : List X) → Each P xs → Each P (distinct same xs)
  each_distinct same [] e = tt
  each_distinct same (x ∷ xs) e = (e.0, each_filter (λ y. not (same x y)) (distinct same xs) (each_distinct same xs e.1))

  pub each_set : (xs : List X) (k : ℕ) (v : X) → P v → Each P xs → Each P (set xs k v)
  each_set [] k v h e = tt
  each_set (x ∷ xs) zero v h e = (h, e.1)
  each_set (x ∷ xs) (suc k) v h e = (e.0, each_set xs k v h e.1)

  pub each_remove : (xs : List X) (k : ℕ) → Each P xs → Each P (remove xs k)
  each_remove xs k e = each_both P (take k xs) (drop (suc k) xs) (each_take P k xs e) (each_drop P (suc k) xs e)

  pub each_or : (xs : List X) (k : ℕ) (d : X) → P d → Each P xs → P (get_or xs k d)
  each_or [] k d h e = h
  each_or (x ∷ xs) zero d h e = e.0
  each_or (x ∷ xs) (suc k) d h e = each_or xs k d h e.1
