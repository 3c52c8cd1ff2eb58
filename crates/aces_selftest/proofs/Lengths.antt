-- A run takes one number of steps, and what it does behind an end is nothing.
use Rattle.std.proofs.Common.{◌≡◌, ◌≢◌, ℕ, ◌+◌, ◌-◌, ◌≤◌, ◌++◌, Option, Some, None, inl, inr, refl, sym, ap, ◌∙◌, arith, append-nil}
use Rattle.std.proofs.lemmas.Bool.{cases_order}
use Rattle.base_words.specs.Runs.{run, events}
use Rattle.base_words.proofs.Runs.{run-add, events-add, run_still, events_still}
use Rattle.aces_selftest.specs.TakesSteps.{TakesSteps}

-- what is not none has a value
pub has_value : {E : Type 0} (o : Option E) → o ≢ None → (e : E) × (o ≡ Some e)
has_value None h = absurd (h refl)
has_value (Some e) h = (e, refl)

-- so many steps lead where fewer did, and told no more
pub record Settled {S X : Type 0} (step : S → S) (event : S → Option X) (first : S) (n k : ℕ) : Type 0 where
  pub less : n ≤ k
  pub state : run step k first ≡ run step n first
  pub events : events step event k first ≡ events step event n first

module _ {S E X : Type 0} (ending : S → Option E) (step : S → S) (event : S → Option X)
    (stays : (s : S) (e : E) → ending s ≡ Some e → step s ≡ s) (silent : (s : S) (e : E) → ending s ≡ Some e → event s ≡ None) where
  same_behind : (n k : ℕ) (s : S) (e : E) → n ≤ k → ending (run step n s) ≡ Some e → Settled step event s n k
  same_behind n k s e less at =
      let sum : n + (k - n) ≡ k = omega arith in
      let still = stays (run step n s) e at in
      record {
        less = less;
        state = ap (λ j. run step j s) (sym sum) ∙ run-add step n (k - n) s ∙ run_still step (k - n) (run step n s) still;
        events = ap (λ j. events step event j s) (sym sum) ∙ events-add step event n (k - n) s
            ∙ ap (λ xs. events step event n s ++ xs) (events_still step event (k - n) (run step n s) still (silent (run step n s) e at))
            ∙ append-nil (events step event n s);
      }

  pub settled : (limit n k : ℕ) (s : S) (e : E) → TakesSteps ending step limit s n → k ≤ limit → ending (run step k s) ≡ Some e → Settled step event s n k
  settled limit n k s e takes few at =
      elim (cases_order n k) [
        | inl same ↦ record { less = omega arith; state = ap (λ j. run step j s) (sym same); events = ap (λ j. events step event j s) (sym same) }
        | inr (inl less) ↦ (let there = has_value (ending (run step n s)) (takes.ends (omega arith)) in same_behind n k s there.0 (omega arith) there.1)
        | inr (inr more) ↦ (let wrong : None ≡ Some e = sym (takes.goes k more) ∙ at in cc)
      ]
