-- A watched run of at most one step, of a machine that goes on.
use Rattle.std.specs.Prelude.{option_to_list}
use Rattle.std.specs.List.{FoldsTo}
use Rattle.std.proofs.Common.{◌≡◌, ℕ, zero, suc, ◌+◌, ◌≤◌, Bool, List, [], ◌∷◌, Option, Some, None, ap, sym, subst, ◌∙◌, arith}
use Rattle.base_words.specs.Runs.{run, events}
use Rattle.base_words.proofs.Runs.{run_none, run_one, events_one}
use Rattle.machine_devices.specs.declared.image.Image.{Image}
use Rattle.base_events.specs.declared.event.Event.{Event}
use Rattle.machine_model.specs.declared.state.End.{End}
use Rattle.machine_model.specs.declared.state.End.TheVariants.{Halt, InputEnd, Limit, Stop, Refused}
use Rattle.machine_model.specs.State.{State}
use Rattle.machine_model.specs.Step.{step, event}
use Rattle.machine_watch.specs.declared.session.Pause.{Pause}
use Rattle.machine_watch.specs.declared.session.Pause.TheVariants.{Hit, Ended}
use Rattle.machine_watch.specs.Sessions.{SessionState}
use Rattle.machine_watch.specs.Watched.{IsPauseOf, IsWatched}
use Rattle.machine_output.specs.Watching.{IsStepped}

-- no step of a machine that goes on leads to no end
none_ends : (i : Image) (s t : State) (e : End) → s.ending ≡ None → t.ending ≡ Some e → run (step i) 0 s ≡ t → ⊥
none_ends i s t e on end leads = let wrong : None ≡ Some e = sym on ∙ (ap (λ (x : State). x.ending) (sym (run_none (step i) s) ∙ leads) ∙ end) in cc

-- a pause says that the step was made
made : (answers : Event → Bool → Type 0) (i : Image) (n : ℕ) (s t : State) (p : Pause) → n ≤ 1 → s.ending ≡ None → run (step i) n s ≡ t → IsPauseOf answers i 1 n s t p → n ≡ 1
made answers i (suc n) s t p few on leads h = omega arith
made answers i zero s t (Hit e) few on leads h = let l = h.last in omega arith
made answers i zero s t (Ended (Halt c)) few on leads h = absurd (none_ends i s t (Halt c) on h.0 leads)
made answers i zero s t (Ended InputEnd) few on leads h = absurd (none_ends i s t InputEnd on h.0 leads)
made answers i zero s t (Ended Limit) few on leads h = h.0.0
made answers i zero s t (Ended (Stop r a)) few on leads h = absurd (none_ends i s t (Stop r a) on h.0 leads)
made answers i zero s t (Ended Refused) few on leads h = absurd h.0

-- a callback that keeps what it is called with was called with the step's event
kept_of : {G : Type 0} (calls : G → Event → G → Type 0) (kept : G → Option Event) → ((f : G) (e : Event) (g : G) → calls f e g → kept g ≡ Some e)
    → (o : Option Event) (f g : G) → kept f ≡ None → FoldsTo calls f (option_to_list o) g → kept g ≡ o
kept_of calls kept keeps None f g fresh h = subst (λ x. kept x ≡ None) h fresh
kept_of calls kept keeps (Some e) f g fresh h = subst (λ x. kept x ≡ Some e) h.2 (keeps f e h.0 h.1)

pub once_stepped : {F G : Type 0} (answers : Event → Bool → Type 0) (calls : G → Event → G → Type 0) (old new : SessionState F) (f g : G) (p : Pause) → IsWatched answers calls 1 old new f g p
    → (kept : G → Option Event) → ((f : G) (e : Event) (g : G) → calls f e g → kept g ≡ Some e) → old.machine.state.ending ≡ None → kept f ≡ None → IsStepped answers old new (kept g) p
once_stepped answers calls old new f g p w kept keeps on fresh =
    let i = old.machine.image in
    let s = old.machine.state in
    let one : w.steps ≡ 1 = made answers i w.steps s new.machine.state p w.few on w.piece.leads w.says in
    let state : new.machine.state ≡ step i s = sym w.piece.leads ∙ ap (λ n. run (step i) n s) one ∙ run_one (step i) s in
    let given = subst (λ n. FoldsTo calls f (events (step i) (event i) n s) g) one w.piece.given in
    record {
      image = w.piece.same_image;
      state = state;
      taken = w.piece.counted ∙ ap (λ n. old.taken + n) one;
      callback = w.same_callback;
      is_told = kept_of calls kept keeps (event i s) f g fresh (subst (λ es. FoldsTo calls f es g) (events_one (step i) (event i) s) given);
      says = subst (λ t. IsPauseOf answers i 1 1 s t p) state (subst (λ n. IsPauseOf answers i 1 n s new.machine.state p) one w.says);
    }

-- what no call changes
pub same_always : {G : Type 0} (calls : G → Event → G → Type 0) (es : List Event) (f g : G) → FoldsTo calls f es g
    → (name : G → ℕ) → ((f : G) (e : Event) (g : G) → calls f e g → name g ≡ name f) → name g ≡ name f
same_always calls [] f g h name keeps = ap name (sym h)
same_always calls (e ∷ es) f g h name keeps = same_always calls es h.0 g h.2 name keeps ∙ keeps f e h.0 h.1
