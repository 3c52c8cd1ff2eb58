-- Runs of a machine's steps, one step in front of others, and what their answers say.
use Rattle.std.specs.List.{FoldsTo}
use Rattle.std.specs.Prelude.{option_to_list}
use Rattle.std.proofs.Common.{◌≡◌, ℕ, suc, ◌++◌, subst, Bool, true, false, List, ◌∷◌, Option, Some, None, refl, ap, sym, ◌∙◌, arith}
use Rattle.base_words.specs.Runs.{run, events}
use Rattle.base_words.proofs.Runs.{run_none, events_none}
use Rattle.machine_devices.specs.declared.image.Image.{Image}
use Rattle.base_events.specs.declared.event.Event.{Event}
use Rattle.machine_model.specs.declared.state.End.{End}
use Rattle.machine_model.specs.declared.state.End.TheVariants.{Halt, InputEnd, Limit, Stop, Refused}
use Rattle.machine_emulator.specs.declared.Step.TheVariants.{Ran, Event as Told, Ended}
use Rattle.machine_model.specs.State.{State, Turn, by_mpu}
use Rattle.machine_model.specs.Step.{turn, step, event}
use Rattle.machine_model.specs.Ends.{IsOwn}
use Rattle.machine_emulator.specs.Machine.{MachineState, HasOwn, answer, answer_by, AcceptsAll, RefusesLast, IsEndOf, IsRun}
use Rattle.machine_emulator.proofs.StepAnswers.{ended_by as ended_of, silent as silent_end, own_of}

-- ---- what a step's answer says of its turn

record Quiet (t : Turn) : Type 0 where
  goes_on : t.to.ending ≡ None
  silent : t.event ≡ None

record Tells (t : Turn) (x : Event) : Type 0 where
  goes_on : t.to.ending ≡ None
  told : t.event ≡ Some x

quiet_of : (o : Option End) (x : Option Event) (t : Turn) → t.to.ending ≡ o → t.event ≡ x → Ran ≡ answer_by o x → Quiet t
quiet_of (Some e) x t p q h = cc
quiet_of None (Some x) t p q h = cc
quiet_of None None t p q h = record { goes_on = p; silent = q }

tells_of : (o : Option End) (x : Option Event) (t : Turn) (y : Event) → t.to.ending ≡ o → t.event ≡ x → Told y ≡ answer_by o x → Tells t y
tells_of (Some e) x t y p q h = cc
tells_of None None t y p q h = cc
tells_of None (Some x) t y p q h = record { goes_on = p; told = cc }

-- ---- one step in front

module _ (i : Image) (n : ℕ) (s : State) where
  events_quiet : event i s ≡ None → events (step i) (event i) (suc n) s ≡ events (step i) (event i) n (step i s)
  unfolding events
  events_quiet h = ap (λ (o : Option Event). option_to_list o ++ events (step i) (event i) n (step i s)) h

  events_told : (x : Event) → event i s ≡ Some x → events (step i) (event i) (suc n) s ≡ x ∷ events (step i) (event i) n (step i s)
  unfolding events
  events_told x h = ap (λ (o : Option Event). option_to_list o ++ events (step i) (event i) n (step i s)) h

  run_on : run (step i) (suc n) s ≡ run (step i) n (step i s)
  unfolding run
  run_on = refl

module _ {G : Type 0} (calls : G → Event → Bool → G → Type 0) (i : Image) where
  accepts_none : (s : State) (f : G) → AcceptsAll calls i 0 s f f
  accepts_none s f = rw (events_none (step i) (event i) s) refl

  accepts_quiet : (n : ℕ) (s : State) (f g : G) → event i s ≡ None → AcceptsAll calls i n (step i s) f g → AcceptsAll calls i (suc n) s f g
  accepts_quiet n s f g h a =
      let P : List Event → Type 0 = λ l. FoldsTo (λ p e q. calls p e true q) f l g in
      subst P (sym (events_quiet i n s h)) a

  accepts_told : (n : ℕ) (s : State) (x : Event) (f m g : G) → event i s ≡ Some x → calls f x true m → AcceptsAll calls i n (step i s) m g → AcceptsAll calls i (suc n) s f g
  accepts_told n s x f m g h k a =
      let P : List Event → Type 0 = λ l. FoldsTo (λ p e q. calls p e true q) f l g in
      subst P (sym (events_told i n s x h)) (m, k, a)

  refuses_quiet : (n : ℕ) (s : State) (f g : G) → event i s ≡ None → RefusesLast calls i n (step i s) f g → RefusesLast calls i (suc n) s f g
  refuses_quiet n s f g h r = record {
    before = suc r.before;
    last = ap suc r.last;
    refused = r.refused;
    told = ap (event i) (run_on i r.before s) ∙ r.told;
    between = r.between;
    accepts = accepts_quiet r.before s f r.between h r.accepts;
    refuses = r.refuses;
  }

  refuses_told : (n : ℕ) (s : State) (x : Event) (f m g : G) → event i s ≡ Some x → calls f x true m → RefusesLast calls i n (step i s) m g → RefusesLast calls i (suc n) s f g
  refuses_told n s x f m g h k r = record {
    before = suc r.before;
    last = ap suc r.last;
    refused = r.refused;
    told = ap (event i) (run_on i r.before s) ∙ r.told;
    between = r.between;
    accepts = accepts_told r.before s x f m r.between h k r.accepts;
    refuses = r.refuses;
  }

  says_quiet : (limit n : ℕ) (s t : State) (f g : G) (e : End) → event i s ≡ None → IsEndOf calls i limit n (step i s) t f g e → IsEndOf calls i (suc limit) (suc n) s t f g e
  says_quiet limit n s t f g (Halt k) h y = (y.0, accepts_quiet n s f g h y.1)
  says_quiet limit n s t f g InputEnd h y = (y.0, accepts_quiet n s f g h y.1)
  says_quiet limit n s t f g Limit h y = (ap suc y.0, y.1, accepts_quiet n s f g h y.2)
  says_quiet limit n s t f g (Stop r a) h y = (y.0, accepts_quiet n s f g h y.1)
  says_quiet limit n s t f g Refused h y = (y.0, refuses_quiet n s f g h y.1)

  says_told : (limit n : ℕ) (s t : State) (x : Event) (f m g : G) (e : End) → event i s ≡ Some x → calls f x true m → IsEndOf calls i limit n (step i s) t m g e → IsEndOf calls i (suc limit) (suc n) s t f g e
  says_told limit n s t x f m g (Halt k) h c y = (y.0, accepts_told n s x f m g h c y.1)
  says_told limit n s t x f m g InputEnd h c y = (y.0, accepts_told n s x f m g h c y.1)
  says_told limit n s t x f m g Limit h c y = (ap suc y.0, y.1, accepts_told n s x f m g h c y.2)
  says_told limit n s t x f m g (Stop r a) h c y = (y.0, accepts_told n s x f m g h c y.1)
  says_told limit n s t x f m g Refused h c y = (y.0, refuses_told n s x f m g h c y.1)

  -- the machine's own end, where nothing more was told
  says_own : (limit n : ℕ) (s t : State) (f : G) (e : End) → IsOwn e → t.ending ≡ Some e → AcceptsAll calls i n s f f → IsEndOf calls i limit n s t f f e
  says_own limit n s t f (Halt k) o h a = (h, a)
  says_own limit n s t f InputEnd o h a = (h, a)
  says_own limit n s t f Limit o h a = absurd o
  says_own limit n s t f (Stop r x) o h a = (h, a)
  says_own limit n s t f Refused o h a = absurd o

-- ---- runs

-- the machine one step later
abbrev pub stepped : MachineState → MachineState
stepped m = record m { state = step m.image m.state }

module _ {G : Type 0} (calls : G → Event → Bool → G → Type 0) where
  pub run_quiet : (rest : ℕ) (m new : MachineState) (f g : G) (e : End) → Ran ≡ answer (turn by_mpu m.image m.state) → IsRun calls rest (stepped m) new f g e → IsRun calls (suc rest) m new f g e
  run_quiet rest m new f g e q r =
      let t : Quiet (turn by_mpu m.image m.state) = quiet_of _ _ _ refl refl q in
      record {
        steps = suc r.steps;
        few = let few = r.few in omega arith;
        same_image = r.same_image;
        leads = run_on m.image r.steps m.state ∙ r.leads;
        says = says_quiet calls m.image rest r.steps m.state new.state f g e t.silent r.says;
      }

  pub run_told : (rest : ℕ) (m new : MachineState) (x : Event) (f k g : G) (e : End) → Told x ≡ answer (turn by_mpu m.image m.state) → calls f x true k → IsRun calls rest (stepped m) new k g e → IsRun calls (suc rest) m new f g e
  run_told rest m new x f k g e q c r =
      let t : Tells (turn by_mpu m.image m.state) x = tells_of _ _ _ x refl refl q in
      record {
        steps = suc r.steps;
        few = let few = r.few in omega arith;
        same_image = r.same_image;
        leads = run_on m.image r.steps m.state ∙ r.leads;
        says = says_told calls m.image rest r.steps m.state new.state x f k g e t.told c r.says;
      }

  pub run_refused : (rest : ℕ) (m : MachineState) (x : Event) (f g : G) → Told x ≡ answer (turn by_mpu m.image m.state) → calls f x false g → IsRun calls (suc rest) m (stepped m) f g Refused
  run_refused rest m x f g q c =
      let t : Tells (turn by_mpu m.image m.state) x = tells_of _ _ _ x refl refl q in
      record {
        steps = 1;
        few = omega arith;
        same_image = refl;
        leads = run_on m.image 0 m.state ∙ run_none (step m.image) (step m.image m.state);
        says = (
          t.goes_on,
          record {
            before = 0;
            last = refl;
            refused = x;
            told = ap (event m.image) (run_none (step m.image) m.state) ∙ t.told;
            between = f;
            accepts = accepts_none calls m.image m.state f;
            refuses = c;
          },
        );
      }

  pub run_ended : (rest : ℕ) (m : MachineState) (f : G) (e : End) → Ended e ≡ answer (turn by_mpu m.image m.state) → HasOwn (stepped m).state.ending → IsRun calls (suc rest) m (stepped m) f f e
  run_ended rest m f e q o =
      let h : (stepped m).state.ending ≡ Some e = ended_of _ _ e q in
      record {
        steps = 1;
        few = omega arith;
        same_image = refl;
        leads = run_on m.image 0 m.state ∙ run_none (step m.image) (step m.image m.state);
        says = says_own calls m.image (suc rest) 1 m.state (stepped m).state f e (own_of _ e o h) h (accepts_quiet calls m.image 0 m.state f f (silent_end m.image m.state e h) (accepts_none calls m.image (step m.image m.state) f));
      }

  pub run_over : (m : MachineState) (f : G) (e : End) → m.state.ending ≡ Some e → HasOwn m.state.ending → IsRun calls 0 m m f f e
  run_over m f e h o = record {
    steps = 0;
    few = omega arith;
    same_image = refl;
    leads = run_none (step m.image) m.state;
    says = says_own calls m.image 0 0 m.state m.state f e (own_of _ e o h) h (accepts_none calls m.image m.state f);
  }

  pub run_out : (m : MachineState) (f : G) → m.state.ending ≡ None → IsRun calls 0 m m f f Limit
  run_out m f h = record {
    steps = 0;
    few = omega arith;
    same_image = refl;
    leads = run_none (step m.image) m.state;
    says = (refl, h, accepts_none calls m.image m.state f);
  }
