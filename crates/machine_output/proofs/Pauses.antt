-- Watched runs whose lines were printed, and those of which a part was: which run it is.
use Rattle.std.specs.Prelude.{unwrap_or}
use Rattle.std.proofs.Math.Nat.{eq-or-lt_of_le}
use Rattle.std.proofs.lemmas.Bool.{cases_lt}
use Rattle.std.proofs.Common.{◌≡◌, ℕ, zero, suc, ◌+◌, ◌-◌, ◌<◌, ◌≤◌, ◌⊎◌, inl, inr, Bool, true, false, [], ◌++◌, Option, Some, None, IsTrue, refl, ap, sym, subst, ◌∙◌, arith, append_assoc, append-nil}
use Rattle.base_outside.specs.Counts.{Rose}
use Rattle.base_outside.proofs.Prefixes.{prefix_part, prefix_longer}
use Rattle.base_words.specs.Runs.{run, events}
use Rattle.base_words.proofs.Runs.{run-add}
use Rattle.machine_devices.specs.declared.image.Image.{Image}
use Rattle.base_events.specs.declared.event.Event.{Event}
use Rattle.machine_model.specs.declared.state.End.{End}
use Rattle.machine_model.specs.declared.state.End.TheVariants.{Halt, InputEnd, Limit, Stop, Refused}
use Rattle.machine_model.specs.State.{State}
use Rattle.machine_model.specs.Step.{step, event}
use Rattle.machine_watch.specs.declared.session.Pause.{Pause}
use Rattle.machine_watch.specs.declared.session.Pause.TheVariants.{Hit, Ended}
use Rattle.machine_watch.specs.Watched.{MissesAll, HitsLast, IsPauseOf}
use Rattle.machine_lines.specs.Lines.{end_line, watch_line}
use Rattle.base_outside.specs.Sinks.{SinkState, Puts}
use Rattle.machine_output.specs.Runs.{end_of, event_lines, run_lines, end_status}
use Rattle.machine_output.specs.Watches.{accesses, AnswersAt, WatchedRun, hit, missed}
use Rattle.machine_output.specs.Watching.{IsPrinted, IsBroken, IsWhole, IsPart, pause_line, pause_status}
use Rattle.machine_output.proofs.Ended.{ends_so, same_lines}

-- what some answers miss others miss
misses_also : (A B : Event → Bool → Type 0) (i : Image) (n : ℕ) (s : State) → ((e : Event) (b : Bool) → A e b → B e b) → MissesAll A i n s → MissesAll B i n s
misses_also A B i n s also m k e l h = also e false (m k e l h)

module _ (i : Image) (a : ℕ) (s : State) where
  abbrev at : Event → Bool → Type 0
  at = AnswersAt i.windows a

  -- ---- every run of so many steps hits or misses

  by_event : (k : ℕ) (o : Option Event) → event i (run (step i) k s) ≡ o → MissesAll at i k s
      → ((e : Event) × HitsLast at i (k + 1) s e) ⊎ MissesAll at i (k + 1) s
  by_event k None h m = inr (more (λ e g. let wrong : None ≡ Some e = sym h ∙ g in cc))
    where
      more : ((e : Event) → event i (run (step i) k s) ≡ Some e → at e false) → MissesAll at i (k + 1) s
      more here j e l g =
          let le : j ≤ k = omega arith in
          elim (eq-or-lt_of_le le) [ inl same ↦ here e (ap (λ n. event i (run (step i) n s)) (sym same) ∙ g) | inr less ↦ m j e less g ]
  by_event k (Some x) h m = by_answer (accesses i.windows a x) refl
    where
      more : at x false → MissesAll at i (k + 1) s
      more missing j e l g =
          let le : j ≤ k = omega arith in
          elim (eq-or-lt_of_le le) [
            | inl same ↦ (let is : Some x ≡ Some e = sym h ∙ ap (λ n. event i (run (step i) n s)) (sym same) ∙ g in let y : x ≡ e = cc in subst (λ z. at z false) y missing)
            | inr less ↦ m j e less g
          ]

      by_answer : (b : Bool) → accesses i.windows a x ≡ b → ((e : Event) × HitsLast at i (k + 1) s e) ⊎ MissesAll at i (k + 1) s
      by_answer true answer = inl (x, record { before = k; last = omega arith; misses = m; makes = h; hits = sym answer })
      by_answer false other = inr (more (sym other))

  -- after so many steps that miss, up to the limit
  found : (left k limit : ℕ) → k + left ≡ limit → MissesAll at i k s
      → ((n : ℕ) × (k < n) × (n ≤ limit) × ((e : Event) × HitsLast at i n s e)) ⊎ MissesAll at i limit s
  found zero k limit sum m = let same : k ≡ limit = omega arith in inr (subst (λ n. MissesAll at i n s) same m)
  found (suc left) k limit sum m =
      elim (by_event k (event i (run (step i) k s)) refl m) [
        | inl h ↦ inl (k + 1, omega arith, omega arith, h)
        | inr more ↦ elim (found left (k + 1) limit (omega arith) more) [ inl h ↦ (let less = h.1 in inl (h.0, omega arith, h.2, h.3)) | inr all ↦ inr all ]
      ]

  -- ---- a part was printed

  module _ (limit : ℕ) (old new : SinkState) where
    pub part_of : (A : Event → Bool → Type 0) → ((e : Event) (b : Bool) → A e b → at e b) → IsBroken A i limit s old new → IsPart i a limit s old new
    part_of A also b =
        let few = b.few in
        elim (found (limit - b.before) b.before limit (omega arith) (misses_also A at i b.before s also b.misses)) [
          | inl h ↦ record {
            status = 0;
            printed = event_lines i h.0 s ++ watch_line a;
            is = hit h.0 h.3.0 h.2 h.3.1;
            rose = b.rose;
            part = λ t. prefix_longer old.written new.written (event_lines i h.0 s) (watch_line a) (b.part t h.0 h.1);
          }
          | inr all ↦ record {
            status = end_status (end_of i limit s);
            printed = run_lines i limit s;
            is = missed all;
            rose = b.rose;
            part = λ t. prefix_longer old.written new.written (event_lines i limit s) (end_line (end_of i limit s)) (b.part t limit few);
          }
        ]

  -- ---- all was

  module _ (stays : (n : ℕ) (s : State) (e : End) → s.ending ≡ Some e → run (step i) n s ≡ s)
      (silent : (n : ℕ) (s : State) (e : End) → s.ending ≡ Some e → events (step i) (event i) n s ≡ [])
      (quiet : (s : State) (e : End) → s.ending ≡ Some e → event i s ≡ None) (limit : ℕ) where
    -- an ended machine misses
    misses_later : (k : ℕ) (e : End) → k ≤ limit → (run (step i) k s).ending ≡ Some e → MissesAll at i k s → MissesAll at i limit s
    misses_later k e few end m j x l h = elim (by_place j) [ inl less ↦ m j x less h | inr more ↦ absurd (later more) ]
      where
        by_place : (j : ℕ) → (j < k) ⊎ (k ≤ j)
        by_place j = cases_lt j k

        later : k ≤ j → ⊥
        later more =
            let sum : k + (j - k) ≡ j = omega arith in
            let same : run (step i) j s ≡ run (step i) k s = ap (λ m. run (step i) m s) (sym sum) ∙ run-add (step i) k (j - k) s ∙ stays (j - k) (run (step i) k s) e end in
            let wrong : None ≡ Some x = sym (quiet (run (step i) k s) e end) ∙ ap (event i) (sym same) ∙ h in cc

    ended : (k : ℕ) (e : End) → k ≤ limit → (run (step i) k s).ending ≡ Some e → MissesAll at i k s → WatchedRun i a limit s (end_status e) (event_lines i k s ++ end_line e)
    ended k e few end m =
        subst (λ l. WatchedRun i a limit s (end_status e) (l ++ end_line e)) (same_lines i stays silent k limit s e few end)
        (subst (λ d. WatchedRun i a limit s (end_status d) (event_lines i limit s ++ end_line d)) (ends_so i stays silent k limit s e few end)
        (missed (misses_later k e few end m)))

    -- which run it is
    run_of : (k : ℕ) (p : Pause) → k ≤ limit → IsPauseOf at i limit k s (run (step i) k s) p → WatchedRun i a limit s (pause_status p) (event_lines i k s ++ pause_line a p)
    run_of k (Hit e) few h = hit k e few h
    run_of k (Ended (Halt c)) few h = ended k (Halt c) few h.0 h.1
    run_of k (Ended InputEnd) few h = ended k InputEnd few h.0 h.1
    run_of k (Ended Limit) few h =
        let same : k ≡ limit = h.0.0 in
        let end : end_of i limit s ≡ Limit = ap (λ n. unwrap_or (run (step i) n s).ending Limit) (sym same) ∙ ap (λ o. unwrap_or o Limit) h.0.1 in
        subst (λ n. WatchedRun i a limit s (end_status Limit) (event_lines i n s ++ end_line Limit)) (sym same)
        (subst (λ d. WatchedRun i a limit s (end_status d) (event_lines i limit s ++ end_line d)) end (missed (subst (λ n. MissesAll at i n s) same h.1)))
    run_of k (Ended (Stop r b)) few h = ended k (Stop r b) few h.0 h.1
    run_of k (Ended Refused) few h = absurd h.0

    says_also : (A : Event → Bool → Type 0) → ((e : Event) (b : Bool) → A e b → at e b) → (k : ℕ) (t : State) (p : Pause) → IsPauseOf A i limit k s t p → IsPauseOf at i limit k s t p
    says_also A also k t (Hit e) h = record {
      before = h.before;
      last = h.last;
      misses = misses_also A at i h.before s also h.misses;
      makes = h.makes;
      hits = also e true h.hits;
    }
    says_also A also k t (Ended e) h = (h.0, misses_also A at i k s also h.1)

    module _ (A : Event → Bool → Type 0) (also : (e : Event) (b : Bool) → A e b → at e b) (old mid new : SinkState) (p : Pause) (q : IsPrinted A i limit s old mid p) where
      is_run : WatchedRun i a limit s (pause_status p) (event_lines i q.steps s ++ pause_line a p)
      is_run = run_of q.steps p q.few (says_also A also q.steps (run (step i) q.steps s) p q.says)

      -- the whole run, with the line of the pause
      pub whole_of : mid.told ≡ old.told → Puts mid new (pause_line a p) true → IsWhole i a limit s old new p
      whole_of same put = record {
        printed = event_lines i q.steps s ++ pause_line a p;
        is = is_run;
        faults = put.0 ∙ q.faults;
        added = λ t. put.1 (subst IsTrue (sym same) t) ∙ ap (λ x. x ++ pause_line a p) (q.added t) ∙ append_assoc old.written (event_lines i q.steps s) (pause_line a p);
      }

      -- or a part of it
      pub part_with : mid.told ≡ old.told → Puts mid new (pause_line a p) false → IsPart i a limit s old new
      part_with same put = record {
        status = pause_status p;
        printed = event_lines i q.steps s ++ pause_line a p;
        is = is_run;
        rose = subst (λ x. Rose x new.faults) q.faults put.0;
        part = λ t. prefix_part old.written mid.written new.written (event_lines i q.steps s) (pause_line a p) [] (event_lines i q.steps s ++ pause_line a p)
            (q.added t) (put.1 (subst IsTrue (sym same) t)) (ap (λ l. event_lines i q.steps s ++ l) (sym (append-nil (pause_line a p))));
      }
