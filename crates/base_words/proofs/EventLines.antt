-- Lines of the events of runs, of any step function, event function and line function.
use Rattle.std.specs.Prelude.{option_to_list, flat_map}
use Rattle.std.proofs.Common.{◌≡◌, ℕ, zero, suc, ◌+◌, ◌-◌, ◌<◌, ◌≤◌, List, [], ◌∷◌, ◌++◌, Option, Some, None, refl, ap, sym, ◌∙◌, arith, append_assoc, append-nil}
use Rattle.std.proofs.lemmas.List.Concat.{flat_map-append, flat_map-cons}
use Rattle.base_laws.specs.Lists.{Each}
use Rattle.base_words.specs.Runs.{run, events}
use Rattle.base_words.proofs.Runs.{run_one, events_one, run-add, events-add, run_still, events_still}

module _ {S : Type 0} (step : S → S) where
  -- one step behind a run
  pub run_behind : (k : ℕ) (s : S) → run step (k + 1) s ≡ step (run step k s)
  run_behind k s = run-add step k 1 s ∙ run_one step (run step k s)

  -- a run whose next step leads to a state that stays
  pub run_ended : (k n : ℕ) (s t : S) → k < n → step (run step k s) ≡ t → step t ≡ t → run step n s ≡ t
  run_ended k n s t h to stays =
      let sum : k + 1 + (n - (k + 1)) ≡ n = omega arith in
      ap (λ m. run step m s) (sym sum) ∙ run-add step (k + 1) (n - (k + 1)) s
      ∙ ap (run step (n - (k + 1))) (run_behind k s ∙ to) ∙ run_still step (n - (k + 1)) t stays

module _ {S E : Type 0} (step : S → S) (event : S → Option E) (line : E → List ℕ) where
  -- the lines of the events of so many steps from a state
  abbrev pub lines : ℕ → S → List ℕ
  lines n s = flat_map line (events step event n s)

  events_behind : (k : ℕ) (s : S) → events step event (k + 1) s ≡ events step event k s ++ option_to_list (event (run step k s))
  events_behind k s = events-add step event k 1 s ∙ ap (λ es. events step event k s ++ es) (events_one step event (run step k s))

  pub lines_none : (s : S) → lines 0 s ≡ []
  unfolding events
  lines_none s = refl

  -- the lines behind those of a run: none of a step without an event, or the event's
  pub lines_quiet : (k : ℕ) (s : S) → event (run step k s) ≡ None → lines (k + 1) s ≡ lines k s
  lines_quiet k s h =
      ap (flat_map line) (events_behind k s ∙ ap (λ o. events step event k s ++ option_to_list o) h ∙ append-nil (events step event k s))

  lines_of_one : (es : List E) (e : E) → flat_map line (es ++ e ∷ []) ≡ flat_map line es ++ line e
  lines_of_one es e =
      flat_map-append line es (e ∷ []) ∙ ap (λ l. flat_map line es ++ l) (flat_map-cons line e [] ∙ append-nil (line e))

  pub lines_told : (k : ℕ) (s : S) (e : E) → event (run step k s) ≡ Some e → lines (k + 1) s ≡ lines k s ++ line e
  lines_told k s e h =
      ap (flat_map line) (events_behind k s ∙ ap (λ o. events step event k s ++ option_to_list o) h) ∙ lines_of_one (events step event k s) e

  -- the lines of a run begin with those of its first steps
  pub lines_more : (k n : ℕ) (s : S) → k ≤ n → (rest : List ℕ) × (lines n s ≡ lines k s ++ rest)
  lines_more k n s h =
      let later = events step event (n - k) (run step k s) in
      let sum : k + (n - k) ≡ n = omega arith in (
        flat_map line later,
        ap (λ m. lines m s) (sym sum) ∙ ap (flat_map line) (events-add step event k (n - k) s) ∙ flat_map-append line (events step event k s) later,
      )

  -- where the next step tells an event, with its line and more behind
  pub lines_cut : (k n : ℕ) (s : S) (e : E) → k < n → event (run step k s) ≡ Some e →
      (rest : List ℕ) × (lines n s ≡ lines k s ++ (line e ++ rest))
  lines_cut k n s e h t =
      let more = lines_more (k + 1) n s (omega arith) in
      (more.0, more.1 ∙ ap (λ l. l ++ more.0) (lines_told k s e t) ∙ append_assoc (lines k s) (line e) more.0)

  -- a run whose later steps tell nothing
  pub lines_silent : (k n : ℕ) (s : S) → k ≤ n → events step event (n - k) (run step k s) ≡ [] → lines n s ≡ lines k s
  lines_silent k n s h silent =
      let sum : k + (n - k) ≡ n = omega arith in
      ap (λ m. lines m s) (sym sum)
      ∙ ap (flat_map line) (events-add step event k (n - k) s ∙ ap (λ es. events step event k s ++ es) silent ∙ append-nil (events step event k s))

  -- a run whose next step has no event and leads to a state that stays and has none
  pub lines_ended : (k n : ℕ) (s t : S) → k < n → event (run step k s) ≡ None → step (run step k s) ≡ t → step t ≡ t → event t ≡ None
      → lines n s ≡ lines k s
  lines_ended k n s t h quiet to stays silent =
      let sum : k + 1 + (n - (k + 1)) ≡ n = omega arith in
      let later : events step event n s ≡ events step event (k + 1) s =
      ap (λ m. events step event m s) (sym sum) ∙ events-add step event (k + 1) (n - (k + 1)) s
      ∙ ap (λ es. events step event (k + 1) s ++ es)
      (ap (events step event (n - (k + 1))) (run_behind step k s ∙ to) ∙ events_still step event (n - (k + 1)) t stays silent)
      ∙ append-nil (events step event (k + 1) s) in
      ap (flat_map line) later ∙ lines_quiet k s quiet

told_first : {E : Type 0} (P : E → Type 0) (o : Option E) (xs : List E) → ((e : E) → o ≡ Some e → P e) → Each P xs → Each P (option_to_list o ++ xs)
told_first P None xs h all = all
told_first P (Some e) xs h all = (h e refl, all)

-- what holds of the event of any step holds of the events of a run
pub each_event : {S E : Type 0} (step : S → S) (event : S → Option E) (P : E → Type 0) → ((s : S) (e : E) → event s ≡ Some e → P e)
    → (n : ℕ) (s : S) → Each P (events step event n s)
unfolding events
each_event step event P h zero s = tt
each_event step event P h (suc n) s =
    told_first P (event s) (events step event n (step s)) (h s) (each_event step event P h n (step s))
