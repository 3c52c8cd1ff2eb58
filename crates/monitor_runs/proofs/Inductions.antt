-- Over a whole run behind start-up: what holds where no handler is at work, if each instruction of a thread, with the monitor's work for
-- it, keeps it.
use Rattle.std.proofs.Common.{◌≡◌, ℕ, zero, suc, ◌+◌, ◌-◌, ◌<◌, ◌≤◌, true, false, inl, inr, ⊎_elim, Some, None, sym, ap, ◌∙◌, subst, arith}
use Rattle.std.proofs.lemmas.Bool.{false≢true, cases_lt}
use Rattle.base_words.specs.Runs.{run}
use Rattle.base_words.proofs.Runs.{run-add, run_still}
use Rattle.machine_devices.specs.declared.image.Image.{Image}
use Rattle.machine_model.specs.declared.state.End.{End}
use Rattle.machine_model.specs.State.{State, Turn, by_mpu}
use Rattle.machine_model.specs.Step.{step, event}
use Rattle.machine_model.proofs.Runs.{turn_ended, next_ended}
use Rattle.monitor_model.specs.declared.tables.Tables.{Tables}
use Rattle.monitor_model.specs.Placed.{Placed}
use Rattle.monitor_model.specs.Block.{MonitorBlock}
use Rattle.monitor_model.specs.Invariant.{InvariantHolds}
use Rattle.monitor_model.specs.MonitorLaw.{MonitorLaw}
use Rattle.monitor_model.specs.Handlers.{HasEndedInHandler, Handles}
use Rattle.monitor_model.specs.Confined.{StartUp, HasStarted, AreNext, later}
use Rattle.monitor_confined.proofs.Started.{reached}
use Rattle.monitor_runs.specs.WhoRuns.{IsBack}
use Rattle.monitor_runs.proofs.Segments.{RunLaws, Rest, InThread, Over, Segment, segment}

module _ (laws : RunLaws) (i : Image) (t : Tables) (p : Placed i t) (stub : ℕ) (law : MonitorLaw i t stub) (first : State) where
  abbrev at : ℕ → State
  at n = later i t first n

  abbrev pub Piece : MonitorBlock → State → Type 0
  Piece m s = Segment laws i t p stub law m s

  pub at_add : (a k : ℕ) → at (a + k) ≡ run (step i) k (at a)
  at_add a k = run-add (step i) a k first

  pub still : (a n : ℕ) (e : End) → a ≤ n → (at a).ending ≡ Some e → at n ≡ at a
  still a n e le q =
      let z : n ≡ a + (n - a) = omega (arith, le) in
      ap at z ∙ at_add a (n - a) ∙ run_still (step i) (n - a) (at a) (next_ended by_mpu i (at a) e q)

  pub works_in : (a n : ℕ) (m : MonitorBlock) (g : Piece m (at a)) → a < n → n < a + g.count → Handles i t (at a) (at n)
  works_in a n m g lt l =
      let z : a + (n - a) ≡ n = omega (arith, lt) in
      let w = g.works (n - a) (omega (arith, lt)) (omega (arith, l, lt)) in
      subst (λ (k : ℕ). Handles i t (at a) (at k)) z (subst (λ (x : State). Handles i t (at a) x) (sym (at_add a (n - a))) w)

  -- ---- the next step of the thread is where the work for this one ends

  module _ (a n : ℕ) (m : MonitorBlock) (next : AreNext i t first a n) (g : Piece m (at a)) where
    there : at (a + g.count) ≡ run (step i) g.count (at a)
    there = at_add a g.count

    past : a + g.count ≤ n → Rest laws i t p stub law m (at a) (run (step i) g.count (at a)) → n ≡ a + g.count
    past le (Over e q) =
        absurd (false≢true (sym next.to_thread ∙ ap (λ (x : State). x.protection.handler) (still (a + g.count) n e le (ap (λ (x : State). x.ending) there ∙ q.ending) ∙ there) ∙ q.handler))
    past le (InThread b k move) =
        let th : (at (a + g.count)).protection.handler ≡ false = ap (λ (x : State). x.protection.handler) there ∙ k.inv.thread in
        let some = g.some in
        ⊎_elim (λ lt. absurd (false≢true (sym th ∙ next.between (a + g.count) (omega (arith, some)) lt))) (λ ge. omega (arith, le, ge)) (cases_lt (a + g.count) n)

    pub next_is : n ≡ a + g.count
    next_is =
        let lt = next.earlier in
        ⊎_elim (λ l. absurd (false≢true (sym next.to_thread ∙ (works_in a n m g lt l).handler))) (λ le. past le g.rest) (cases_lt n (a + g.count))

    pub next_arrives : at n ≡ run (step i) g.count (at a)
    next_arrives = ap at next_is ∙ there

  -- ---- what each of them keeps, also to a number at which the state is the same

  module _ (F : ℕ → Type 0)
      (through : (a n : ℕ) (m : MonitorBlock) → InvariantHolds i t m (at a) → (g : Piece m (at a)) → a < n → at n ≡ run (step i) g.count (at a) → F a → F n) where
    -- a step of the run: a thread's; a handler's, that works for an earlier one; or the machine has ended in a handler
    pub data Track (n : ℕ) : Type 0 where
      Thread : (m : MonitorBlock) → InvariantHolds i t m (at n) → F n → Track n
      Inside : (a : ℕ) (m : MonitorBlock) → InvariantHolds i t m (at a) → (g : Piece m (at a)) → a < n → n < a + g.count → F a → Track n
      Ended : (a : ℕ) (m : MonitorBlock) → InvariantHolds i t m (at a) → (g : Piece m (at a)) → a < n → at n ≡ run (step i) g.count (at a) → (e : End) → HasEndedInHandler (at n) e → F a → Track n

    arrives : (a n : ℕ) (m : MonitorBlock) → InvariantHolds i t m (at a) → (g : Piece m (at a)) → a < n → at n ≡ run (step i) g.count (at a) → F a → Track n
    arrives a n m h g lt e f = by g.rest
      where
        by : Rest laws i t p stub law m (at a) (run (step i) g.count (at a)) → Track n
        by (InThread b k move) = Thread b (subst (λ (x : State). InvariantHolds i t b x) (sym e) k) (through a n m h g lt e f)
        by (Over x k) = Ended a m h g lt e x (subst (λ (y : State). HasEndedInHandler y x) (sym e) k) f

    onward : (a n : ℕ) (m : MonitorBlock) → InvariantHolds i t m (at a) → (g : Piece m (at a)) → a < n → n ≤ a + g.count → F a → Track n
    onward a n m h g lt le f =
        ⊎_elim (λ l. Inside a m h g lt l f)
        (λ ge. arrives a n m h g lt (let z : n ≡ a + g.count = omega (arith, le, ge) in ap at z ∙ at_add a g.count) f) (cases_lt n (a + g.count))

    advance : (n : ℕ) → Track n → Track (n + 1)
    advance n (Thread m h f) =
        let g = segment laws i t p stub law m (at n) h in
        let some = g.some in
        onward n (n + 1) m h g (omega arith) (omega (arith, some)) f
    advance n (Inside a m h g lt l f) = onward a (n + 1) m h g (omega (arith, lt)) (omega (arith, l)) f
    advance n (Ended a m h g lt q e ended f) =
        let z = still n (n + 1) e (omega arith) ended.ending in
        Ended a m h g (omega (arith, lt)) (z ∙ q) e (subst (λ (y : State). HasEndedInHandler y e) (sym z) ended) f

    tracks : (from k : ℕ) → Track from → Track (from + k)
    tracks from zero x = let z : from ≡ from + 0 = omega arith in subst Track z x
    tracks from (suc k) x = let z : from + k + 1 ≡ from + suc k = omega arith in subst Track z (advance (from + k) (tracks from k x))

    pub track : (from n : ℕ) → from ≤ n → Track from → Track n
    track from n le x = let z : from + (n - from) ≡ n = omega (arith, le) in subst Track z (tracks from (n - from) x)

    -- a thread's steps are of the invariant
    pub in_thread : (n : ℕ) → Track n → (at n).protection.handler ≡ false → (m : MonitorBlock) × InvariantHolds i t m (at n) × F n
    in_thread n (Thread m h f) th = (m, h, f)
    in_thread n (Inside a m h g lt l f) th = absurd (false≢true (sym th ∙ (works_in a n m g lt l).handler))
    in_thread n (Ended a m h g lt q e ended f) th = absurd (false≢true (sym th ∙ ended.handler))

    -- what holds where no handler is at work
    pub at_rest : (n : ℕ) → Track n → IsBack (at n) → F n
    at_rest n x (inl th) = (in_thread n x th).2
    at_rest n (Thread m h f) (inr r) = f
    at_rest n (Inside a m h g lt l f) (inr r) =
        through a n m h g lt (sym (still n (a + g.count) r.0 (omega (arith, l)) r.1) ∙ at_add a g.count) f
    at_rest n (Ended a m h g lt q e ended f) (inr r) = through a n m h g lt q f

  -- ---- from start-up on

  module _ (begins : StartUp i t first) (m : MonitorBlock) (holds : InvariantHolds i t m (at begins.count)) where
    abbrev Nothing : ℕ → Type 0
    Nothing n = Unit {0}

    abbrev Plain : ℕ → Type 0
    Plain n = Track Nothing (λ a n m h g lt e f. tt) n

    plain_at : (n : ℕ) → HasStarted i t first n → Plain n
    plain_at n h = track Nothing (λ a n m h g lt e f. tt) begins.count n (reached i t first begins n h) (Thread m holds tt)

    -- at a thread's step the invariant holds
    pub holds_at : (n : ℕ) → HasStarted i t first n → (at n).protection.handler ≡ false → (b : MonitorBlock) × InvariantHolds i t b (at n)
    holds_at n started th = let z = in_thread Nothing (λ a n m h g lt e f. tt) n (plain_at n started) th in (z.0, z.1)

    -- a handler makes no access of a peripheral
    pub quiet_at : (n : ℕ) → HasStarted i t first n → (at n).protection.handler ≡ true → event i (at n) ≡ None
    quiet_at n started hd = by (plain_at n started)
      where
        by : Plain n → event i (at n) ≡ None
        by (Thread b h f) = absurd (false≢true (sym h.inv.thread ∙ hd))
        by (Inside a b h g lt l f) = (works_in a n b g lt l).quiet
        by (Ended a b h g lt q e ended f) = ap (λ (x : Turn). x.event) (turn_ended by_mpu i (at n) e ended.ending)

    -- and comes to an end
    pub back_at : (n : ℕ) → HasStarted i t first n → (k : ℕ) × (k ≤ 16000) × IsBack (at (n + k))
    back_at n started = by (plain_at n started)
      where
        here : n ≡ n + 0
        here = omega arith

        rested : (a : ℕ) (b : MonitorBlock) (g : Piece b (at a)) → Rest laws i t p stub law b (at a) (run (step i) g.count (at a)) → IsBack (run (step i) g.count (at a))
        rested a b g (InThread c k move) = inl k.inv.thread
        rested a b g (Over e k) = inr (e, k.ending)

        by : Plain n → (k : ℕ) × (k ≤ 16000) × IsBack (at (n + k))
        by (Thread b h f) = (0, omega arith, subst (λ (k : ℕ). IsBack (at k)) here (inl h.inv.thread))
        by (Ended a b h g lt q e ended f) = (0, omega arith, subst (λ (k : ℕ). IsBack (at k)) here (inr (e, ended.ending)))
        by (Inside a b h g lt l f) =
            let z : a + g.count ≡ n + (a + g.count - n) = omega (arith, l) in
            let few = g.few in
            (a + g.count - n, omega (arith, few, lt, l), subst (λ (k : ℕ). IsBack (at k)) z (subst IsBack (sym (at_add a g.count)) (rested a b g g.rest)))

    -- from where no handler is at work to where none is
    module _ (F : ℕ → Type 0)
        (through : (a n : ℕ) (m : MonitorBlock) → InvariantHolds i t m (at a) → (g : Piece m (at a)) → a < n → at n ≡ run (step i) g.count (at a) → F a → F n)
        (same : (a n : ℕ) → a ≤ n → at n ≡ at a → F a → F n) where
      pub from_rest : (from to : ℕ) → HasStarted i t first from → IsBack (at from) → IsBack (at to) → from ≤ to → F from → F to
      from_rest from to started (inl th) rests le f =
          let z = holds_at from started th in
          at_rest F through to (track F through from to le (Thread z.0 z.1 f)) rests
      from_rest from to started (inr x) rests le f = same from to le (still from to x.0 le x.1) f
