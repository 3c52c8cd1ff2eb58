-- Runs that go on behind each of so many steps, and what one step more makes of them.
use Rattle.std.specs.Prelude.{option_to_list}
use Rattle.std.proofs.Common.{◌≡◌, ℕ, ◌+◌, ◌<◌, ◌≤◌, List, [], ◌∷◌, ◌++◌, Option, Some, None, inl, inr, ap, sym, ◌∙◌, arith, append-nil}
use Rattle.std.proofs.Math.Nat.{eq-or-lt_of_le}
use Rattle.base_words.specs.Runs.{run, events}
use Rattle.base_words.proofs.Runs.{run_none, events_none, events_one, events-add}
use Rattle.base_words.proofs.EventLines.{run_behind}
use Rattle.aces_selftest.specs.TakesSteps.{TakesSteps}

events_behind : {S X : Type 0} (step : S → S) (event : S → Option X) (n : ℕ) (s : S)
    → events step event (n + 1) s ≡ events step event n s ++ option_to_list (event (run step n s))
events_behind step event n s = events-add step event n 1 s ∙ ap (λ xs. events step event n s ++ xs) (events_one step event (run step n s))

-- it is in this state behind so many steps, has not ended behind any of them, and has told this
pub record Going {S E X : Type 0} (ending : S → Option E) (step : S → S) (event : S → Option X) (first : S) (n : ℕ) (now : S) (told : List X) : Type 0 where
  pub state : now ≡ run step n first
  pub goes : (k : ℕ) → k ≤ n → ending (run step k first) ≡ None
  pub events : told ≡ events step event n first

-- it has ended by its last step
pub record Ending {S E X : Type 0} (ending : S → Option E) (step : S → S) (event : S → Option X) (limit : ℕ) (first : S) (n : ℕ) (e : Option E) (told : List X) : Type 0 where
  pub takes : TakesSteps ending step limit first n
  pub events : told ≡ events step event n first
  pub end : e ≡ ending (run step n first)

module _ {S E X : Type 0} (ending : S → Option E) (step : S → S) (event : S → Option X) (first : S) where
  pub not_begun : ending first ≡ None → Going ending step event first 0 first []
  not_begun h =
      record {
        state = sym (run_none step first);
        goes = λ k few. let none : k ≡ 0 = omega arith in ap (λ m. ending (run step m first)) none ∙ ap ending (run_none step first) ∙ h;
        events = sym (events_none step event first);
      }

  module _ (n : ℕ) (now next : S) (told : List X) (going : Going ending step event first n now told) (leads : step now ≡ next) where
    behind : next ≡ run step (n + 1) first
    behind = sym leads ∙ ap step going.state ∙ sym (run_behind step n first)

    told_behind : (o : Option X) → event now ≡ o → told ++ option_to_list o ≡ events step event (n + 1) first
    told_behind o h =
        ap (λ xs. xs ++ option_to_list o) going.events ∙ ap (λ x. events step event n first ++ option_to_list x) (sym h ∙ ap event going.state)
        ∙ sym (events_behind step event n first)

    goes_behind : ending next ≡ None → (k : ℕ) → k ≤ n + 1 → ending (run step k first) ≡ None
    goes_behind h k few =
        elim (eq-or-lt_of_le few) [
          | inl e ↦ ap (λ m. ending (run step m first)) e ∙ ap ending (sym behind) ∙ h
          | inr less ↦ going.goes k (omega arith)
        ]

    pub quiet : event now ≡ None → ending next ≡ None → Going ending step event first (n + 1) next told
    quiet silent h = record { state = behind; goes = goes_behind h; events = sym (append-nil told) ∙ told_behind None silent }

    pub tells : (x : X) → event now ≡ Some x → ending next ≡ None → Going ending step event first (n + 1) next (told ++ x ∷ [])
    tells x says h = record { state = behind; goes = goes_behind h; events = told_behind (Some x) says }

    pub ended : (limit : ℕ) (e : E) → n < limit → event now ≡ None → ending next ≡ Some e → Ending ending step event limit first (n + 1) (Some e) told
    ended limit e more silent h =
        let is : ending (run step (n + 1) first) ≡ Some e = ap ending (sym behind) ∙ h in
        record {
          takes = record {
            few = omega arith;
            goes = λ k less. going.goes k (omega arith);
            ends = λ less none. let wrong : Some e ≡ None = sym is ∙ none in cc;
          };
          events = sym (append-nil told) ∙ told_behind None silent;
          end = sym is;
        }

  pub ran_out : (limit : ℕ) (now : S) (told : List X) → Going ending step event first limit now told → Ending ending step event limit first limit None told
  ran_out limit now told going =
      record {
        takes = record {
          few = omega arith;
          goes = λ k less. going.goes k (omega arith);
          ends = λ less. let wrong : ⊥ = omega arith in absurd wrong;
        };
        events = going.events;
        end = sym (going.goes limit (omega arith));
      }
