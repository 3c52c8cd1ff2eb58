-- A watched run in the making, whose lines are printed step by step.
use Rattle.std.proofs.Math.Nat.{eq-or-lt_of_le}
use Rattle.std.specs.Prelude.{IfSome}
use Rattle.std.proofs.Common.{◌≡◌, ◌≢◌, ℕ, ◌+◌, ◌<◌, ◌≤◌, inl, inr, Bool, true, false, List, ◌++◌, Option, Some, None, IsTrue, refl, ap, sym, subst, ◌∙◌, arith, append-nil, append_assoc}
use Rattle.base_outside.specs.Counts.{Rose}
use Rattle.base_outside.proofs.Prefixes.{prefix_part}
use Rattle.base_words.specs.Runs.{run}
use Rattle.base_words.proofs.Runs.{run_none}
use Rattle.base_words.proofs.EventLines.{run_behind, lines_none, lines_quiet, lines_told, lines_more}
use Rattle.machine_devices.specs.declared.image.Image.{Image}
use Rattle.machine_devices.specs.declared.image.Window.{Window}
use Rattle.base_events.specs.declared.event.Event.{Event}
use Rattle.machine_model.specs.declared.state.End.TheVariants.{Halt, InputEnd, Limit, Stop, Refused}
use Rattle.machine_model.specs.State.{State}
use Rattle.machine_model.specs.Step.{step, event}
use Rattle.machine_watch.specs.declared.session.Pause.{Pause}
use Rattle.machine_watch.specs.declared.session.Pause.TheVariants.{Hit, Ended}
use Rattle.machine_watch.specs.Sessions.{SessionState}
use Rattle.machine_watch.specs.Watched.{MissesAll, IsPauseOf}
use Rattle.machine_lines.specs.Lines.{event_line}
use Rattle.base_outside.specs.Sinks.{SinkState, Puts}
use Rattle.machine_output.specs.Runs.{event_lines}
use Rattle.machine_output.specs.Watching.{told_line, IsStepped, IsPrinted, IsBroken}

-- after so many steps the machine goes on, no event was hit, and all lines were printed
pub record IsGoing (answers : Event → Bool → Type 0) (i : Image) (s : State) (old : SinkState) (k : ℕ) (t : State) (now : SinkState) : Type 0 where
  pub leads : run (step i) k s ≡ t
  pub misses : MissesAll answers i k s
  pub goes_on : t.ending ≡ None
  pub faults : now.faults ≡ old.faults
  pub added : IsTrue old.told → now.written ≡ old.written ++ event_lines i k s

-- the lines of one step more
lines_of : (i : Image) (k : ℕ) (s : State) (o : Option Event) → event i (run (step i) k s) ≡ o → event_lines i (k + 1) s ≡ event_lines i k s ++ told_line i.windows o
lines_of i k s None h = lines_quiet (step i) (event i) (event_line i.windows) k s h ∙ sym (append-nil (event_lines i k s))
lines_of i k s (Some e) h = lines_told (step i) (event i) (event_line i.windows) k s e h

module _ (answers : Event → Bool → Type 0) (i : Image) (s : State) (old : SinkState) where
  pub going_none : s.ending ≡ None → IsGoing answers i s old 0 s old
  going_none on = record {
    leads = run_none (step i) s;
    misses = λ j e l h. let wrong : ⊥ = omega arith in absurd wrong;
    goes_on = on;
    faults = refl;
    added = λ t. sym (ap (λ l. old.written ++ l) (lines_none (step i) (event i) (event_line i.windows) s) ∙ append-nil old.written);
  }

  -- one step more of misses
  misses_more : (k : ℕ) (t : State) → run (step i) k s ≡ t → MissesAll answers i k s → MissesAll answers i 1 t → MissesAll answers i (k + 1) s
  misses_more k t leads m one j e l h =
      let le : j ≤ k = omega arith in
      elim (eq-or-lt_of_le le) [
        | inl same ↦ one 0 e (omega arith) (ap (event i) (run_none (step i) t ∙ sym leads ∙ ap (λ n. run (step i) n s) (sym same)) ∙ h)
        | inr less ↦ m j e less h
      ]

  module _ (limit k : ℕ) (t : State) (now later : SinkState) (g : IsGoing answers i s old k t now) where
    here : event i (run (step i) k s) ≡ event i t
    here = ap (event i) g.leads

    next : run (step i) (k + 1) s ≡ step i t
    next = run_behind (step i) k s ∙ ap (step i) g.leads

    line : event_lines i (k + 1) s ≡ event_lines i k s ++ told_line i.windows (event i t)
    line = lines_of i k s (event i t) here

    added : (now.told ≡ old.told) → Puts now later (told_line i.windows (event i t)) true → IsTrue old.told → later.written ≡ old.written ++ event_lines i (k + 1) s
    added same p told =
        p.1 (subst IsTrue (sym same) told) ∙ ap (λ x. x ++ told_line i.windows (event i t)) (g.added told)
        ∙ append_assoc old.written (event_lines i k s) (told_line i.windows (event i t)) ∙ ap (λ x. old.written ++ x) (sym line)

    -- the run goes on behind the step
    pub going_more : now.told ≡ old.told → Puts now later (told_line i.windows (event i t)) true → IsPauseOf answers i 1 1 t (step i t) (Ended Limit)
        → IsGoing answers i s old (k + 1) (step i t) later
    going_more same p h = record {
      leads = next;
      misses = misses_more k t g.leads g.misses h.1;
      goes_on = h.0.1;
      faults = p.0 ∙ g.faults;
      added = added same p;
    }

    -- what a pause says of the step it says of the run
    says_all : (p : Pause) → p ≢ Ended Limit → IsPauseOf answers i 1 1 t (step i t) p → IsPauseOf answers i limit (k + 1) s (run (step i) (k + 1) s) p
    says_all (Hit e) other h =
        let l = h.last in
        let first : h.before ≡ 0 = omega arith in
        record {
          before = k;
          last = omega arith;
          misses = g.misses;
          makes = here ∙ (ap (event i) (sym (ap (λ n. run (step i) n t) first ∙ run_none (step i) t)) ∙ h.makes);
          hits = h.hits;
        }
    says_all (Ended (Halt c)) other h = (ap (λ (x : State). x.ending) next ∙ h.0, misses_more k t g.leads g.misses h.1)
    says_all (Ended InputEnd) other h = (ap (λ (x : State). x.ending) next ∙ h.0, misses_more k t g.leads g.misses h.1)
    says_all (Ended Limit) other h = absurd (other refl)
    says_all (Ended (Stop r a)) other h = (ap (λ (x : State). x.ending) next ∙ h.0, misses_more k t g.leads g.misses h.1)
    says_all (Ended Refused) other h = absurd h.0

    -- it pauses behind the step
    pub paused : (p : Pause) → p ≢ Ended Limit → k < limit → now.told ≡ old.told → Puts now later (told_line i.windows (event i t)) true
        → IsPauseOf answers i 1 1 t (step i t) p → IsPrinted answers i limit s old later p
    paused p other few same put h = record { steps = k + 1; few = omega arith; says = says_all p other h; faults = put.0 ∙ g.faults; added = added same put }

    -- the step's line was not put
    pub broken : k < limit → now.told ≡ old.told → Puts now later (told_line i.windows (event i t)) false → IsBroken answers i limit s old later
    broken few same put = record {
      before = k;
      few = few;
      misses = g.misses;
      rose = subst (λ x. Rose x later.faults) g.faults put.0;
      part = λ told n more.
          let rest = lines_more (step i) (event i) (event_line i.windows) (k + 1) n s (omega arith) in
          let whole = rest.1 ∙ ap (λ x. x ++ rest.0) line ∙ append_assoc (event_lines i k s) (told_line i.windows (event i t)) rest.0 in
          prefix_part old.written now.written later.written (event_lines i k s) (told_line i.windows (event i t)) rest.0 (event_lines i n s)
          (g.added told) (put.1 (subst IsTrue (sym same) told)) whole;
    }

  -- all steps were made
  pub ran_out : (limit k : ℕ) (t : State) (now : SinkState) → k ≡ limit → IsGoing answers i s old k t now → IsPrinted answers i limit s old now (Ended Limit)
  ran_out limit k t now all g = record {
    steps = k;
    few = omega arith;
    says = ((all, ap (λ (x : State). x.ending) g.leads ∙ g.goes_on), g.misses);
    faults = g.faults;
    added = g.added;
  }

-- ---- what a step says, by the watch and the image that the run began with

pub stepped_says : {F : Type 0} (answers : F → Event → Bool → Type 0) (i : Image) (callback : F) (here later : SessionState F) (told : Option Event) (p : Pause)
    → here.callback ≡ callback → here.machine.image ≡ i → IsStepped (answers here.callback) here later told p
    → IsPauseOf (answers callback) i 1 1 here.machine.state (step i here.machine.state) p
stepped_says answers i callback here later told p same image w =
    subst (λ j. IsPauseOf (answers callback) j 1 1 here.machine.state (step j here.machine.state) p) image
    (subst (λ f. IsPauseOf (answers f) here.machine.image 1 1 here.machine.state (step here.machine.image here.machine.state) p) same w.says)

pub stepped_puts : {F : Type 0} (answers : Event → Bool → Type 0) (i : Image) (windows : List Window) (here after : SessionState F) (told : Option Event) (p : Pause) (now later : SinkState) (put : Bool)
    → windows ≡ i.windows → here.machine.image ≡ i → IsStepped answers here after told p → Puts now later (told_line windows told) put
    → Puts now later (told_line i.windows (event i here.machine.state)) put
stepped_puts answers i windows here after told p now later put same image w h =
    subst (λ l. Puts now later l put) (ap (λ ws. told_line ws told) same ∙ ap (told_line i.windows) (w.is_told ∙ ap (λ j. event j here.machine.state) image)) h

pub stepped_to : {F : Type 0} (answers : Event → Bool → Type 0) (i : Image) (here later : SessionState F) (told : Option Event) (p : Pause)
    → here.machine.image ≡ i → IsStepped answers here later told p → later.machine.state ≡ step i here.machine.state
stepped_to answers i here later told p image w = w.state ∙ ap (λ j. step j here.machine.state) image

-- what holds of the event of any step holds of what a step told
pub told_has : (i : Image) (s : State) (told : Option Event) (P : Event → Type 0) → ((x : Event) → event i s ≡ Some x → P x) → told ≡ event i s → IfSome told P
told_has i s None P h e = tt
told_has i s (Some x) P h e = h x (sym e)
