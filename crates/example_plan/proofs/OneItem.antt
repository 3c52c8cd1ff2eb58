-- Lists of exactly one thing and of none.
use Rattle.std.proofs.Common.{◌≡◌, zero, suc, [], ◌∷◌, sym, subst, arith, ℕ, ◌<◌}
use Rattle.std.specs.Prelude.{Contains}
use Rattle.std.specs.declared.cmp.Ordering.{Ordering}
use Rattle.std.specs.List.Sorted.{IsStrictlySortedBy}
use Rattle.plan_model.specs.Lists.{ListsExactly}
use Rattle.ir_model.specs.State.{PeriphObject}

module _ {X : Type 0} (cmp : X → X → Ordering) (P : X → Type 0) where
  pub one_item : (x : X) → P x → ((y : X) → P y → y ≡ x) → ListsExactly cmp P (x ∷ [])
  unfolding IsStrictlySortedBy
  one_item x h only = record { rising = (tt, tt); each = each; all = λ y k. (zero, omega arith, sym (only y k)) }
    where
      each : (y : X) → Contains (x ∷ []) y → P y
      each y (zero, l, e) = subst P e h
      each y (suc k, l, e) = absurd (omega arith)

  pub no_item : ((y : X) → P y → ⊥) → ListsExactly cmp P []
  unfolding IsStrictlySortedBy
  no_item none = record { rising = tt; each = λ y k. absurd (omega arith); all = λ y k. absurd (none y k) }

pub number_of_periph : (q r : ℕ) → PeriphObject q ≡ PeriphObject r → q ≡ r
number_of_periph q r e = cc

-- the one argument of a call
pub one_argument : (P : ℕ → Type 0) → P 0 → (k : ℕ) → k < 1 → P k
one_argument P h zero l = h
one_argument P h (suc k) l = absurd (omega arith)
