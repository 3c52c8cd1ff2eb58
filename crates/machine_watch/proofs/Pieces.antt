-- Watched runs in the making: so many steps were made, and then one more.
use Rattle.std.specs.Prelude.{option_to_list}
use Rattle.std.specs.List.{FoldsTo}
use Rattle.std.proofs.Math.Nat.{eq-or-lt_of_le}
use Rattle.std.proofs.Common.{◌≡◌, ℕ, ◌+◌, ◌<◌, ◌≤◌, inl, inr, subst, Bool, true, false, List, [], ◌∷◌, ◌++◌, Option, Some, None, refl, ap, sym, ◌∙◌, arith}
use Rattle.base_words.specs.Runs.{run, events}
use Rattle.base_words.proofs.Runs.{run_none, run_one, events_none, events_one, run-add, events-add}
use Rattle.base_events.specs.declared.event.Event.{Event}
use Rattle.machine_model.specs.declared.state.End.{End}
use Rattle.machine_model.specs.declared.state.End.TheVariants.{Halt, InputEnd, Limit, Stop, Refused}
use Rattle.machine_model.specs.State.{State}
use Rattle.machine_model.specs.Step.{step, event}
use Rattle.machine_model.specs.Ends.{IsOwn}
use Rattle.machine_watch.specs.declared.session.Pause.TheVariants.{Hit, Ended}
use Rattle.machine_watch.specs.Sessions.{SessionState}
use Rattle.machine_watch.specs.Watched.{MissesAll, EndsBy, IsPiece, IsWatched}

folds_on : {P A : Type 0} (R : P → A → P → Type 0) (p : P) (xs ys : List A) (q r : P) → FoldsTo R p xs q → FoldsTo R q ys r → FoldsTo R p (xs ++ ys) r
folds_on R p [] ys q r a b = subst (λ u. FoldsTo R u ys r) (sym a) b
folds_on R p (x ∷ xs) ys q r a b = (a.0, a.1, folds_on R a.0 xs ys q r a.2 b)

-- a session one step later
abbrev pub stepped : {F : Type 0} → SessionState F → SessionState F
stepped t = record { machine = record t.machine { state = step t.machine.image t.machine.state }; taken = t.taken + 1; callback = t.callback }

-- ---- pieces of the plain run

pub no_piece : {F G : Type 0} (calls : G → Event → G → Type 0) (a : SessionState F) (callback : F) (f : G) → IsPiece calls 0 a (record a { callback = callback }) f f
no_piece calls a callback f = record {
  counted = omega arith;
  same_image = refl;
  leads = run_none (step a.machine.image) a.machine.state;
  given = rw (events_none (step a.machine.image) (event a.machine.image) a.machine.state) refl;
}

one_piece : {F G : Type 0} (calls : G → Event → G → Type 0) (t : SessionState F) (g : G) (o : Option Event) (h : G) → event t.machine.image t.machine.state ≡ o → FoldsTo calls g (option_to_list o) h → IsPiece calls 1 t (stepped t) g h
one_piece calls t g o h is fold =
    let es : events (step t.machine.image) (event t.machine.image) 1 t.machine.state ≡ option_to_list o =
    events_one (step t.machine.image) (event t.machine.image) t.machine.state ∙ ap option_to_list is in
    record { counted = refl; same_image = refl; leads = run_one (step t.machine.image) t.machine.state; given = subst (λ l. FoldsTo calls g l h) (sym es) fold }

pub join : {F G : Type 0} (calls : G → Event → G → Type 0) (j k : ℕ) (a b c : SessionState F) (f g h : G) → IsPiece calls j a b f g → IsPiece calls k b c g h → IsPiece calls (j + k) a c f h
join {F} {G} calls j k a b c f g h p q =
    let i = a.machine.image in
    let s = a.machine.state in
    let p_counted = p.counted in
    let q_counted = q.counted in
    let more : FoldsTo calls g (events (step i) (event i) k (run (step i) j s)) h =
    subst (λ x. FoldsTo calls g (events (step i) (event i) k x) h) (sym p.leads) (subst (λ x. FoldsTo calls g (events (step x) (event x) k b.machine.state) h) p.same_image q.given) in
    record {
      counted = omega arith;
      same_image = q.same_image ∙ p.same_image;
      leads = run-add (step i) j k s ∙ ap (run (step i) k) p.leads ∙ subst (λ x. run (step x) k b.machine.state ≡ c.machine.state) p.same_image q.leads;
      given = subst (λ es. FoldsTo calls f es h) (sym (events-add (step i) (event i) j k s)) (folds_on calls f (events (step i) (event i) j s) (events (step i) (event i) k (run (step i) j s)) g h p.given more);
    }

-- ---- watched pieces

-- so many steps were made of a session, none of them after the machine's end, and their events were given
pub record Went {F G : Type 0} (calls : G → Event → G → Type 0) (s : SessionState F) (f : G) (k : ℕ) (t : SessionState F) (g : G) : Type 0 where
  pub piece : IsPiece calls k s t f g
  pub same_callback : t.callback ≡ s.callback
  pub goes_on : (j : ℕ) → j < k → (run (step s.machine.image) j s.machine.state).ending ≡ None

-- what holds below a number and at it holds below the next
below_more : (P : ℕ → Type 0) (k : ℕ) → ((j : ℕ) → j < k → P j) → P k → (j : ℕ) → j < k + 1 → P j
below_more P k h p j l =
    let le : j ≤ k = omega arith in
    elim (eq-or-lt_of_le le) [
      | inl e ↦ subst P (sym e) p
      | inr m ↦ h j m
    ]

ends_by : (limit n : ℕ) (t : State) (e : End) → IsOwn e → t.ending ≡ Some e → EndsBy limit n t e
ends_by limit n t (Halt k) o h = h
ends_by limit n t InputEnd o h = h
ends_by limit n t Limit o h = absurd o
ends_by limit n t (Stop r a) o h = h
ends_by limit n t Refused o h = absurd o

module _ {F G : Type 0} (answers : Event → Bool → Type 0) (calls : G → Event → G → Type 0) (s : SessionState F) (f : G) where
  -- the events of so many of its steps are missed
  abbrev pub Misses : ℕ → Type 0
  Misses k = MissesAll answers s.machine.image k s.machine.state

  pub went_none : Went calls s f 0 s f
  went_none = record { piece = no_piece calls s s.callback f; same_callback = refl; goes_on = λ j l. let e : ⊥ = omega arith in absurd e }

  pub misses_none : Misses 0
  misses_none j e l h = let x : ⊥ = omega arith in absurd x

  module _ (k : ℕ) (t : SessionState F) (g : G) (w : Went calls s f k t g) where
    event_here : event s.machine.image (run (step s.machine.image) k s.machine.state) ≡ event t.machine.image t.machine.state
    event_here = ap (event s.machine.image) w.piece.leads ∙ ap (λ i. event i t.machine.state) (sym w.piece.same_image)

    pub went_more : (o : Option Event) (h : G) → t.machine.state.ending ≡ None → event t.machine.image t.machine.state ≡ o → FoldsTo calls g (option_to_list o) h → Went calls s f (k + 1) (stepped t) h
    went_more o h on is fold =
        let i = s.machine.image in
        let a = s.machine.state in
        record {
          piece = join calls k 1 s t (stepped t) f g h w.piece (one_piece calls t g o h is fold);
          same_callback = w.same_callback;
          goes_on = below_more (λ j. (run (step i) j a).ending ≡ None) k w.goes_on (ap (λ (x : State). x.ending) w.piece.leads ∙ on);
        }

    pub misses_more : Misses k → ((e : Event) → event t.machine.image t.machine.state ≡ Some e → answers e false) → Misses (k + 1)
    misses_more m here j e l =
        below_more (λ (x : ℕ). event s.machine.image (run (step s.machine.image) x s.machine.state) ≡ Some e → answers e false) k
        (λ x y. m x e y) (λ h. here e (sym event_here ∙ h)) j l

    -- a step with no event, and one whose event is missed
    pub went_quiet : t.machine.state.ending ≡ None → event t.machine.image t.machine.state ≡ None → Went calls s f (k + 1) (stepped t) g
    went_quiet on is = went_more None g on is refl

    pub misses_quiet : Misses k → event t.machine.image t.machine.state ≡ None → Misses (k + 1)
    misses_quiet m is = misses_more m (λ e h. let x : ⊥ = cc in absurd x)

    pub went_told : (x : Event) (h : G) → t.machine.state.ending ≡ None → event t.machine.image t.machine.state ≡ Some x → calls g x h → Went calls s f (k + 1) (stepped t) h
    went_told x h on is c = went_more (Some x) h on is (h, c, refl)

    pub misses_told : (x : Event) → Misses k → event t.machine.image t.machine.state ≡ Some x → answers x false → Misses (k + 1)
    misses_told x m is missed = misses_more m (λ e h. let p : x ≡ e = cc in subst (λ y. answers y false) p missed)

    -- the pauses
    module _ (n : ℕ) where
      pub pause_hit : (x : Event) (h : G) → k < n → t.machine.state.ending ≡ None → Misses k → event t.machine.image t.machine.state ≡ Some x → calls g x h → answers x true → IsWatched answers calls n s (stepped t) f h (Hit x)
      pause_hit x h l on m is c hit =
          let u = went_told x h on is c in
          record {
            steps = k + 1;
            few = omega arith;
            piece = u.piece;
            same_callback = u.same_callback;
            goes_on = u.goes_on;
            says = record { before = k; last = omega arith; misses = m; makes = event_here ∙ is; hits = hit };
          }

      pub pause_ended : (e : End) → k < n → t.machine.state.ending ≡ None → Misses k → event t.machine.image t.machine.state ≡ None → IsOwn e → (stepped t).machine.state.ending ≡ Some e → IsWatched answers calls n s (stepped t) f g (Ended e)
      pause_ended e l on m is own end =
          let u = went_quiet on is in
          record {
            steps = k + 1;
            few = omega arith;
            piece = u.piece;
            same_callback = u.same_callback;
            goes_on = u.goes_on;
            says = (ends_by n (k + 1) (stepped t).machine.state e own end, misses_quiet m is);
          }

      -- no further step is made
      pub pause_over : (e : End) → k ≤ n → Misses k → EndsBy n k t.machine.state e → IsWatched answers calls n s t f g (Ended e)
      pause_over e l m end = record {
        steps = k;
        few = l;
        piece = w.piece;
        same_callback = w.same_callback;
        goes_on = w.goes_on;
        says = (end, m);
      }

  -- a session whose machine had ended
  pub pause_at_once : (n : ℕ) (e : End) → IsOwn e → s.machine.state.ending ≡ Some e → IsWatched answers calls n s s f f (Ended e)
  pause_at_once n e own end = pause_over 0 s f went_none n e (omega arith) misses_none (ends_by n 0 s.machine.state e own end)
