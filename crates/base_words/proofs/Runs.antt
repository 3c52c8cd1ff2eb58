-- Runs of a step function.
use Rattle.std.proofs.Common.{◌≡◌, ℕ, zero, suc, ◌+◌, List, [], ◌∷◌, ◌++◌, refl, sym, ap, ◌∙◌, arith, Option, Some, None, append_assoc, append-nil}
use Rattle.std.specs.Option.{option_to_list}
use Rattle.base_words.specs.Runs.{run, events, Goes}

-- no step, and one
pub run_none : {S : Type 0} (step : S → S) (s : S) → run step 0 s ≡ s
unfolding run
run_none step s = refl

pub run_one : {S : Type 0} (step : S → S) (s : S) → run step 1 s ≡ step s
unfolding run
run_one step s = refl

pub events_none : {S E : Type 0} (step : S → S) (event : S → Option E) (s : S) → events step event 0 s ≡ []
unfolding events
events_none step event s = refl

pub events_one : {S E : Type 0} (step : S → S) (event : S → Option E) (s : S) → events step event 1 s ≡ option_to_list (event s)
unfolding events
events_one step event s = append-nil (option_to_list (event s))

pub run-add : {S : Type 0} (step : S → S) (j k : ℕ) (s : S) → run step (j + k) s ≡ run step k (run step j s)
unfolding run
run-add step zero k s = let e : 0 + k ≡ k = omega arith in rw e
run-add step (suc j) k s = let e : suc j + k ≡ suc (j + k) = omega arith in rw e (run-add step j k (step s))

pub events-add : {S E : Type 0} (step : S → S) (event : S → Option E) (j k : ℕ) (s : S) → events step event (j + k) s ≡ events step event j s ++ events step event k (run step j s)
unfolding run events
events-add step event zero k s = let e : 0 + k ≡ k = omega arith in rw e
events-add step event (suc j) k s =
    let e : suc j + k ≡ suc (j + k) = omega arith in
    rw e (ap (λ es. option_to_list (event s) ++ es) (events-add step event j k (step s))
    ∙ sym (append_assoc (option_to_list (event s)) (events step event j (step s)) (events step event k (run step j (step s)))))

pub run_still : {S : Type 0} (step : S → S) (n : ℕ) (s : S) → step s ≡ s → run step n s ≡ s
unfolding run
run_still step zero s h = refl
run_still step (suc n) s h = ap (run step n) h ∙ run_still step n s h

pub events_still : {S E : Type 0} (step : S → S) (event : S → Option E) (n : ℕ) (s : S) → step s ≡ s → event s ≡ None → events step event n s ≡ []
unfolding events
events_still step event zero s h e = refl
events_still step event (suc n) s h e = rw (e, h) (events_still step event n s h e)

-- ---- runs of a known length

pub stay : {S E : Type 0} {step : S → S} {event : S → Option E} {s : S} → Goes step event 0 s s []
unfolding run events
stay = record { leads = refl; tells = refl }

-- one step
pub once : {S E : Type 0} {step : S → S} {event : S → Option E} (s : S) → Goes step event 1 s (step s) (option_to_list (event s))
unfolding run events
once {S} {E} {step} {event} s = record { leads = refl; tells = append-nil (option_to_list (event s)) }

pub onward : {S E : Type 0} {step : S → S} {event : S → Option E} {j k : ℕ} {s t u : S} {xs ys : List E} → Goes step event j s t xs → Goes step event k t u ys → Goes step event (j + k) s u (xs ++ ys)
onward {S} {E} {step} {event} {j} {k} {s} {t} {u} {xs} {ys} g h =
    record { leads = run-add step j k s ∙ rw g.leads h.leads; tells = events-add step event j k s ∙ rw (g.tells, g.leads, h.tells) }

-- a step with no event, and then more
pub next : {S E : Type 0} {step : S → S} {event : S → Option E} {k : ℕ} {s t u : S} {es : List E} → step s ≡ t → event s ≡ None → Goes step event k t u es → Goes step event (suc k) s u es
unfolding run events
next {S} {E} {step} {event} {k} {s} {t} {u} {es} e n g = record { leads = rw e g.leads; tells = rw (n, e) g.tells }

-- a step with an event, and then more
pub next_event : {S E : Type 0} {step : S → S} {event : S → Option E} {k : ℕ} {s t u : S} {x : E} {es : List E} → step s ≡ t → event s ≡ Some x → Goes step event k t u es → Goes step event (suc k) s u (x ∷ es)
unfolding run events
next_event {S} {E} {step} {event} {k} {s} {t} {u} {x} {es} e n g = record { leads = rw e g.leads; tells = rw (n, e) (ap (λ l. x ∷ l) g.tells) }
