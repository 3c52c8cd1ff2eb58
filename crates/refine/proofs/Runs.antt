-- Runs of the source are followed, step by step, or the machine ends before.
use Rattle.std.proofs.Common.{◌≡◌, ℕ, zero, suc, ◌+◌, ◌*◌, ◌<◌, ◌≤◌, ◌⊎◌, Some, List, [], sym, ap, ◌∙◌, subst, arith, inl, inr, ⊎_elim}
use Rattle.std.specs.Prelude.{option_to_list}
use Rattle.base_words.specs.Runs.{run, events}
use Rattle.base_words.proofs.Runs.{stay, onward}
use Rattle.machine_devices.specs.declared.image.Image.{Image}
use Rattle.base_events.specs.declared.event.Event.{Event}
use Rattle.machine_model.specs.declared.state.End.{End}
use Rattle.machine_model.specs.State.{State, by_mpu}
use Rattle.machine_model.specs.Code.{Runs}
use Rattle.machine_model.specs.Step as machine
use Rattle.ir_model.specs.Resolved.{Program}
use Rattle.ir_model.specs.State.{SourceState}
use Rattle.ir_model.specs.State as source
use Rattle.ir_model.specs.Step.{source_step, source_event}
use Rattle.ir_model.specs.Runs.{source_after, source_events}
use Rattle.refine_model.specs.Refines.{EndsAlike, Matched, step_limit, word_limit}
use Rattle.refine.specs.Cases.{FollowsBy}

-- the machine ends in one of these ways, after at most so many steps without an event
pub record EndsBy (IsEnd : End → Type 0) (i : Image) (most : ℕ) (from : State) : Type 0 where
  pub count : ℕ
  pub within : count ≤ most
  pub last : State
  pub end : End
  pub over : last.ending ≡ Some end
  pub is_end : IsEnd end
  pub runs : Runs by_mpu i count from last []

-- the machine has ended in one of these ways, in a step behind the first `done` of n steps of the source, whose events it has made
pub record EndsBefore (IsEnd : End → Type 0) (p : Program) (c : List ℕ) (i : Image) (words : ℕ) (queues : List (List ℕ)) (first : State) (n : ℕ) : Type 0 where
  pub steps : ℕ
  pub most : steps ≤ step_limit * (n + 2) + word_limit * words
  pub done : ℕ
  pub before : done ≤ n
  pub events : events (machine.step i) (machine.event i) steps first ≡ source_events p c queues done
  pub end : End
  pub over : (run (machine.step i) steps first).ending ≡ Some end
  pub is_end : IsEnd end

-- `Good` is what is known of each source state from which a step is made
pub record Followed (IsEnd : End → Type 0) (p : Program) (c : List ℕ) (i : Image) (words : ℕ) (queues : List (List ℕ)) (first : State) (R : SourceState → State → Type 0) (Good : SourceState → Type 0) : Type 0 where
  pub begins : FollowsBy R i (step_limit + word_limit * words) first (source.start p queues) [] ⊎ EndsBy IsEnd i (2 * step_limit + word_limit * words) first
  pub alike : (s : SourceState) (t : State) → R s t → EndsAlike s t.ending
  pub goes_on : (s : SourceState) (t : State) → R s t → Good s → FollowsBy R i step_limit t (source_step p c s) (option_to_list (source_event p c s)) ⊎ EndsBy IsEnd i step_limit t

module _ (IsEnd : End → Type 0) (p : Program) (c : List ℕ) (i : Image) (words : ℕ) (queues : List (List ℕ)) (first : State) (R : SourceState → State → Type 0) (Good : SourceState → Type 0) (fo : Followed IsEnd p c i words queues first R Good) where
  abbrev there : (n : ℕ) → SourceState → SourceState
  there n s = run (source_step p c) n s

  abbrev told_by : (n : ℕ) → SourceState → List Event
  told_by n s = events (source_step p c) (source_event p c) n s

  -- n steps
  record Reached (n : ℕ) (s : SourceState) (t : State) : Type 0 where
    steps : ℕ
    least : n ≤ steps
    most : steps ≤ step_limit * n
    to : State
    runs : Runs by_mpu i steps t to (told_by n s)
    related : R (there n s) to

  -- or an end behind fewer
  record Stopped (n : ℕ) (s : SourceState) (t : State) : Type 0 where
    steps : ℕ
    most : steps ≤ step_limit * n
    done : ℕ
    before : done ≤ n
    to : State
    runs : Runs by_mpu i steps t to (told_by done s)
    end : End
    over : to.ending ≡ Some end
    is_end : IsEnd end

  reached : (n : ℕ) (s : SourceState) (t : State) → R s t → ((j : ℕ) → j < n → Good (there j s)) → Reached n s t ⊎ Stopped n s t
  unfolding run events
  reached zero s t r g = inl (record { steps = 0; least = omega arith; most = omega arith; to = t; runs = stay; related = r })
  reached (suc n) s t r g = ⊎_elim
      (λ f. ⊎_elim
      (λ q. inl (record {
        steps = f.steps + q.steps;
        least = let a = f.least in let b = q.least in omega arith;
        most = let a = f.within in let b = q.most in omega arith;
        to = q.to;
        runs = onward f.runs q.runs;
        related = q.related;
      }))
      (λ q. inr (record {
        steps = f.steps + q.steps;
        most = let a = f.within in let b = q.most in omega arith;
        done = suc q.done;
        before = let a = q.before in omega arith;
        to = q.to;
        runs = onward f.runs q.runs;
        end = q.end;
        over = q.over;
        is_end = q.is_end;
      }))
      (reached n (source_step p c s) f.to f.related (λ j h. g (suc j) (omega arith))))
      (λ e. inr (record {
        steps = e.count;
        most = let a = e.within in omega arith;
        done = 0;
        before = omega arith;
        to = e.last;
        runs = e.runs;
        end = e.end;
        over = e.over;
        is_end = e.is_end;
      }))
      (fo.goes_on s t r (g 0 (omega arith)))

  pub served : (n : ℕ) → ((j : ℕ) → j < n → Good (source_after p c queues j)) → Matched p c words i queues first n ⊎ EndsBefore IsEnd p c i words queues first n
  unfolding events
  served n g = ⊎_elim
      (λ b. ⊎_elim (λ r. inl (whole b r)) (λ r. inr (short b r)) (reached n (source.start p queues) b.to b.related g))
      (λ e. inr (record {
        steps = e.count;
        most = let a = e.within in omega arith;
        done = 0;
        before = omega arith;
        events = e.runs.tells;
        end = e.end;
        over = ap (λ (t : State). t.ending) e.runs.leads ∙ e.over;
        is_end = e.is_end;
      }))
      fo.begins
    where
      whole : (b : FollowsBy R i (step_limit + word_limit * words) first (source.start p queues) []) → Reached n (source.start p queues) b.to → Matched p c words i queues first n
      whole b r =
          let h : Runs by_mpu i (b.steps + r.steps) first r.to (told_by n (source.start p queues)) = onward b.runs r.runs in
          record {
            steps = b.steps + r.steps;
            least = let a = r.least in omega arith;
            most = let a = b.within in let d = r.most in omega arith;
            events = h.tells;
            ends = subst (λ (t : State). EndsAlike (source_after p c queues n) t.ending) (sym h.leads) (fo.alike (source_after p c queues n) r.to r.related);
          }

      short : (b : FollowsBy R i (step_limit + word_limit * words) first (source.start p queues) []) → Stopped n (source.start p queues) b.to → EndsBefore IsEnd p c i words queues first n
      short b r =
          let h : Runs by_mpu i (b.steps + r.steps) first r.to (told_by r.done (source.start p queues)) = onward b.runs r.runs in
          record {
            steps = b.steps + r.steps;
            most = let a = b.within in let d = r.most in omega arith;
            done = r.done;
            before = r.before;
            events = h.tells;
            end = r.end;
            over = ap (λ (t : State). t.ending) h.leads ∙ r.over;
            is_end = r.is_end;
          }
