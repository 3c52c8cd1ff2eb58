-- Runs of the machine under any test of permission.
use Rattle.std.proofs.Common.{◌≡◌, ℕ, zero, suc, ◌+◌, List, [], ◌++◌, Some, None, ap, ◌∙◌, append-nil}
use Rattle.base_words.specs.Runs.{run, events}
use Rattle.base_words.proofs.Runs.{run-add, events-add, run_still, events_still}
use Rattle.machine_devices.specs.declared.image.Image.{Image}
use Rattle.machine_devices.specs.Rules.{ObeysRules}
use Rattle.machine_model.specs.declared.state.End.{End}
use Rattle.machine_model.specs.State.{State, PermissionTest, by_mpu, calm}
use Rattle.machine_model.specs.Step.{turn, running, step, event}
use Rattle.machine_model.specs.Run.{start, after, events_after}
use Rattle.machine_model.specs.Code.{next, event_of}
use Rattle.machine_model.specs.Shape.{StateFits, StepsKeepShape}

-- ---- a machine that has ended

pub turn_ended : (j : PermissionTest) (i : Image) (s : State) (e : End) → s.ending ≡ Some e → turn j i s ≡ calm s
unfolding turn
turn_ended j i s e ended = ap (λ o. running o j i s) ended

pub next_ended : (j : PermissionTest) (i : Image) (s : State) (e : End) → s.ending ≡ Some e → next j i s ≡ s
next_ended j i s e ended = ap (λ t. t.to) (turn_ended j i s e ended)

pub told_ended : (j : PermissionTest) (i : Image) (s : State) (e : End) → s.ending ≡ Some e → event_of j i s ≡ None
told_ended j i s e ended = ap (λ t. t.event) (turn_ended j i s e ended)

pub run_ended : (j : PermissionTest) (i : Image) (n : ℕ) (s : State) (e : End) → s.ending ≡ Some e → run (next j i) n s ≡ s
run_ended j i n s e ended = run_still (next j i) n s (next_ended j i s e ended)

pub events_ended : (j : PermissionTest) (i : Image) (n : ℕ) (s : State) (e : End) → s.ending ≡ Some e → events (next j i) (event_of j i) n s ≡ []
events_ended j i n s e ended = events_still (next j i) (event_of j i) n s (next_ended j i s e ended) (told_ended j i s e ended)

-- ---- states that fit

-- steps that keep the shape of a state keep it over a run
pub run_fits : StepsKeepShape → (j : PermissionTest) (i : Image) → ObeysRules i → (k : ℕ) (s : State) → StateFits i s → StateFits i (run (next j i) k s)
unfolding run
run_fits keeps j i r zero s h = h
run_fits keeps j i r (suc k) s h = run_fits keeps j i r k (next j i s) (keeps j i s r h)

-- ---- the machine from its start

pub after-add : (i : Image) (queues : List (List ℕ)) (fill m n : ℕ) → after i queues fill (m + n) ≡ run (step i) n (after i queues fill m)
after-add i queues fill m n = run-add (step i) m n (start i queues fill)

pub events_after-add : (i : Image) (queues : List (List ℕ)) (fill m n : ℕ) → events_after i queues fill (m + n) ≡ events_after i queues fill m ++ events (step i) (event i) n (after i queues fill m)
events_after-add i queues fill m n = events-add (step i) (event i) m n (start i queues fill)

-- a run that has ended goes on as it is
pub after_ended : (i : Image) (queues : List (List ℕ)) (fill m n : ℕ) (e : End) → (after i queues fill m).ending ≡ Some e → after i queues fill (m + n) ≡ after i queues fill m
after_ended i queues fill m n e ended = after-add i queues fill m n ∙ run_ended by_mpu i n (after i queues fill m) e ended

pub events_after_ended : (i : Image) (queues : List (List ℕ)) (fill m n : ℕ) (e : End) → (after i queues fill m).ending ≡ Some e → events_after i queues fill (m + n) ≡ events_after i queues fill m
events_after_ended i queues fill m n e ended =
    events_after-add i queues fill m n
    ∙ ap (λ es. events_after i queues fill m ++ es) (events_ended by_mpu i n (after i queues fill m) e ended)
    ∙ append-nil (events_after i queues fill m)
