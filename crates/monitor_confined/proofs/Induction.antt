-- A run that comes to the invariant is confined at each step, where the handlers keep what is asked of them.
use Rattle.std.proofs.Common.{◌≡◌, ℕ, zero, suc, ◌+◌, ◌-◌, ◌<◌, ◌≤◌, true, false, ◌⊎◌, inl, inr, ⊎_elim, List, length, Option, Some, None, sym, ap, ap₂, ◌∙◌, refl, subst, arith}
use Rattle.std.proofs.lemmas.Bool.{false≢true, cases_lt}
use Rattle.base_words.specs.Runs.{run}
use Rattle.base_words.proofs.Runs.{run-add, run_still}
use Rattle.machine_devices.specs.declared.image.Image.{Image}
use Rattle.machine_model.specs.declared.state.End.{End}
use Rattle.machine_model.specs.State.{State, Turn, by_mpu, ends}
use Rattle.machine_model.specs.Step.{turn, step}
use Rattle.machine_model.specs.Shape.{StateFits, StepsKeepShape}
use Rattle.base_laws.specs.Lists.{Each}
use Rattle.machine_model.proofs.Runs.{turn_ended, next_ended, run_fits}
use Rattle.monitor_model.specs.declared.tables.Tables.{Tables}
use Rattle.monitor_model.specs.Placed.{Placed}
use Rattle.monitor_model.specs.Regions.{regions_for}
use Rattle.monitor_model.specs.Block.{Saved, MonitorBlock, first_block}
use Rattle.monitor_model.specs.BlockWords.{depth, saved_current, saved_top, HasSaved, IsBlock}
use Rattle.monitor_model.specs.Invariant.{InvariantHolds}
use Rattle.monitor_model.specs.Reach.{AllBytes, StoreKind, LoadKind}
use Rattle.monitor_model.specs.Confined.{IsProtected, Crosses, ComesBack, Stays, StartUp, AreNext, RunIsConfined, later}
use Rattle.monitor_model.specs.Handlers.{at_svc, at_memfault, HasEndedInHandler, Handles, Change, Emulates, Enters, Leaves, Lends, Unlends, HasReturned, Handled, HandlersAreConfined}
use Rattle.monitor_confined.specs.ThreadSteps.{LeadsOn, Ends, Goes, Calls, Faults, ThreadStepsAreConfined, ThreadStepsLead}
use Rattle.monitor_confined.specs.WholeRuns.{ChangesKeepOrder, HandlersConfineRuns, HandlersConfineImages}
use Rattle.monitor_confined.proofs.Started.{reached}

-- what the steps of threads and the changes of the block keep
pub record RunLaws : Type 0 where
  pub order : ChangesKeepOrder
  pub shape : StepsKeepShape
  pub confined : ThreadStepsAreConfined
  pub lead : ThreadStepsLead

module _ (laws : RunLaws) (i : Image) (t : Tables) (p : Placed i t) (contract : HandlersAreConfined i t) where
  -- a state of a run behind start-up
  data Phase (u : State) : Type 0 where
    InThread : (m : MonitorBlock) → InvariantHolds i t m u → Phase u
    InHandler : (s from : State) (m : MonitorBlock) (h : Handled i t s from m) → InvariantHolds i t m s → StateFits i from → (k : ℕ) → k < h.count → u ≡ run (step i) k from → Phase u
    Over : (e : End) → HasEndedInHandler u e → Phase u

  run_next : (k : ℕ) (s : State) → run (step i) (k + 1) s ≡ step i (run (step i) k s)
  unfolding run
  run_next k s = run-add (step i) k 1 s

  returned_holds : (s u : State) (m : MonitorBlock) → InvariantHolds i t m s → StateFits i u → (r : HasReturned i t s u m) → InvariantHolds i t r.block u
  returned_holds s u m h fits r = record {
    inv = record {
      is_block = r.is_block;
      orderly = laws.order i t s u m r.block p h.fits.core.sp_aligned h.inv.orderly r.change;
      thread = r.protected.thread;
      unprivileged = r.protected.unprivileged;
      on_psp = r.protected.on_psp;
      control = r.protected.control;
      regions = r.protected.regions ∙ ap₂ (λ a b. regions_for i t a b) r.is_block.current_is r.is_block.top_is;
      no_fault = r.no_fault;
      enabled = r.enabled ∙ h.inv.enabled;
      msp = r.msp;
      high_five = fits.core.high_count;
      as_long = fits.ram_count;
    };
    fits = fits;
  }

  -- a handler's state, or what comes behind it
  behind : (s from : State) (m : MonitorBlock) (h : Handled i t s from m) → InvariantHolds i t m s → StateFits i from → (k : ℕ) → k ≤ h.count → Phase (run (step i) k from)
  behind s from m h x fits k le = ⊎_elim (λ lt. InHandler s from m h x fits k lt refl) (λ ge. last (let e : h.count ≡ k = omega (arith, le, ge) in e)) (cases_lt k h.count)
    where
      last : h.count ≡ k → Phase (run (step i) k from)
      last e = subst (λ (n : ℕ). Phase (run (step i) n from)) e
          (⊎_elim (λ o. Over o.0 o.1) (λ r. InThread r.block (returned_holds s (run (step i) h.count from) m x (run_fits laws.shape by_mpu i p.rules h.count from fits) r)) h.holds)

  entering : (s from : State) (m : MonitorBlock) (d : Handled i t s from m) → InvariantHolds i t m s → StateFits i from → Phase from
  unfolding run
  entering s from m d x f = behind s from m d x f 0 (omega arith)

  ended_holds : (m : MonitorBlock) (s : State) (e : End) → InvariantHolds i t m s → StateFits i (ends e s).to → InvariantHolds i t m (ends e s).to
  ended_holds m s e h fits = record { inv = h.inv; fits = fits }

  next_fits : (m : MonitorBlock) (s : State) → InvariantHolds i t m s → StateFits i (step i s)
  next_fits m s h = laws.shape by_mpu i s p.rules h.fits

  thread_next : (m : MonitorBlock) (s : State) → InvariantHolds i t m s → s.ending ≡ None → LeadsOn i t m s → Phase (step i s)
  thread_next m s h live (Ends e q) =
      let f = subst (λ (x : Turn). StateFits i x.to) q (next_fits m s h) in
      subst (λ (x : Turn). Phase x.to) (sym q) (InThread m (ended_holds m s e h f))
  thread_next m s h live (Goes g on) = InThread m g
  thread_next m s h live (Calls n few is frame q) =
      subst Phase (sym q) (entering s (at_svc i s) m (contract.svc s m n h live few is frame) h (subst (λ (x : State). StateFits i x) q (next_fits m s h)))
  thread_next m s h live (Faults u f frame q) =
      subst Phase (sym q) (entering s (at_memfault i u s) m (contract.memfault s m u h live f frame) h (subst (λ (x : State). StateFits i x) q (next_fits m s h)))

  thread_on : (m : MonitorBlock) (s : State) → InvariantHolds i t m s → (o : Option End) → s.ending ≡ o → Phase (step i s)
  thread_on m s h (Some e) q = subst Phase (sym (next_ended by_mpu i s e q)) (InThread m h)
  thread_on m s h None q = thread_next m s h q (laws.lead i t m s p h q)

  advance : (u : State) → Phase u → Phase (step i u)
  advance u (InThread m h) = thread_on m u h u.ending refl
  advance u (InHandler s from m h x fits k lt e) =
      let b = behind s from m h x fits (k + 1) (omega (arith, lt)) in
      subst (λ (v : State). Phase (step i v)) (sym e) (subst Phase (run_next k from) b)
  advance u (Over e q) = subst Phase (sym (next_ended by_mpu i u e q.ending)) (Over e q)

  phases : (first : State) → Phase first → (n : ℕ) → Phase (run (step i) n first)
  unfolding run
  phases first h zero = h
  phases first h (suc n) = phases (step i first) (advance first h) n

  -- ---- accesses and protection of one step

  record IsFine (u : State) : Type 0 where
    stores : Each (AllBytes (StoreKind i t u)) (turn by_mpu i u).stores
    loads : i.closed ≡ true → Each (AllBytes (LoadKind i t u)) (turn by_mpu i u).loads
    protection : u.protection.handler ≡ false → IsProtected i t u

  over_fine : (u : State) (e : End) → HasEndedInHandler u e → IsFine u
  over_fine u e q =
      let c = turn_ended by_mpu i u e q.ending in
      record {
        stores = subst (λ (x : Turn). Each (AllBytes (StoreKind i t u)) x.stores) (sym c) tt;
        loads = λ closed. subst (λ (x : Turn). Each (AllBytes (LoadKind i t u)) x.loads) (sym c) tt;
        protection = λ f. absurd (false≢true (sym f ∙ q.handler));
      }

  thread_fine : (m : MonitorBlock) (s : State) → InvariantHolds i t m s → IsFine s
  thread_fine m s h = let c = laws.confined i t m s p h in record { stores = c.stores; loads = c.loads; protection = λ f. c.protection }

  handler_fine : (s u : State) → Handles i t s u → IsFine u
  handler_fine s u h = record { stores = h.stores; loads = h.loads; protection = λ f. absurd (false≢true (sym f ∙ h.handler)) }

  phase_fine : (u : State) → Phase u → IsFine u
  phase_fine u (InThread m h) = thread_fine m u h
  phase_fine u (InHandler s from m h x fits k lt e) = subst IsFine (sym e) (handler_fine s (run (step i) k from) (h.each k lt))
  phase_fine u (Over e q) = over_fine u e q

  -- ---- thread steps that follow each other

  abbrev Switches : State → State → Type 0
  Switches s u = Stays i t s u ⊎ (Crosses i t s u ⊎ ComesBack i t s u)

  same_block : (s u : State) (m n : MonitorBlock) → IsBlock i t s.ram m → IsBlock i t u.ram n → n.current ≡ m.current → n.top ≡ m.top → Stays i t s u
  same_block s u m n a b c d = (b.current_is ∙ c ∙ sym a.current_is, b.top_is ∙ d ∙ sym a.top_is)

  change_switches : (s u : State) (m n : MonitorBlock) → IsBlock i t s.ram m → IsBlock i t u.ram n → Change i t s u m n → Switches s u
  change_switches s u m _ a b Emulates = inl (same_block s u m _ a b refl refl)
  change_switches s u m _ a b (Enters c o some inside crosses) = inr (inl crosses)
  change_switches s u m _ a b (Leaves e es q v) =
      let d : depth i t s.ram ≡ suc (length es) = a.depth_is ∙ ap (λ (l : List Saved). length l) q in
      let one : depth i t s.ram - 1 ≡ length es = omega (arith, d) in
      let has = subst (λ (l : List Saved). HasSaved i t s.ram l) q a.has_saved in
      inr (inr (record {
        is_svc = v;
        deep = omega (arith, d);
        to_current = b.current_is ∙ sym has.0.current ∙ ap (λ k. saved_current i t s.ram k) (sym one);
        to_top = b.top_is ∙ sym has.0.top ∙ ap (λ k. saved_top i t s.ram k) (sym one);
      }))
  change_switches s u m _ a b (Lends l o room in_list al size from to) = inl (same_block s u m _ a b refl refl)
  change_switches s u m _ a b (Unlends l ls q marks) = inl (same_block s u m _ a b refl refl)

  -- the next thread state behind a handler is where it returns
  module _ (s from : State) (m : MonitorBlock) (h : InvariantHolds i t m s) (d : Handled i t s from m) (n : ℕ) (thread : (run (step i) n from).protection.handler ≡ false)
      (between : (k : ℕ) → k < n → (run (step i) k from).protection.handler ≡ true) where
    not_over : (e : End) → HasEndedInHandler (run (step i) d.count from) e → d.count ≤ n → ⊥
    not_over e q le =
        let w : State = run (step i) d.count from in
        let z : n ≡ d.count + (n - d.count) = omega (arith, le) in
        let same : run (step i) n from ≡ w = ap (λ k. run (step i) k from) z ∙ run-add (step i) d.count (n - d.count) from ∙ run_still (step i) (n - d.count) w (next_ended by_mpu i w e q.ending) in
        false≢true (sym thread ∙ ap (λ (x : State). x.protection.handler) same ∙ q.handler)

    past : d.count ≤ n → Switches s (run (step i) n from)
    past le = ⊎_elim (λ o. absurd (not_over o.0 o.1 le))
        (λ r. ⊎_elim (λ lt. absurd (false≢true (sym r.protected.thread ∙ between d.count lt)))
        (λ ge. let e : d.count ≡ n = omega (arith, le, ge) in subst (λ (k : ℕ). Switches s (run (step i) k from)) e (change_switches s (run (step i) d.count from) m r.block h.inv.is_block r.is_block r.change))
        (cases_lt d.count n)) d.holds

    handler_switches : Switches s (run (step i) n from)
    handler_switches = ⊎_elim (λ lt. absurd (false≢true (sym thread ∙ (d.each n lt).handler))) (λ ge. past ge) (cases_lt n d.count)

  module _ (m : MonitorBlock) (s : State) (h : InvariantHolds i t m s) (n : ℕ) (thread : (run (step i) (suc n) s).protection.handler ≡ false)
      (between : (k : ℕ) → 0 < k → k < suc n → (run (step i) k s).protection.handler ≡ true) where
    -- the next state is the one, where it is a thread's
    at_once : (step i s).protection.handler ≡ false → Stays i t s (step i s) → Switches s (run (step i) (suc n) s)
    unfolding run
    at_once th same = ⊎_elim (λ lt. absurd (false≢true (sym th ∙ between 1 (omega arith) (omega (arith, lt)))))
        (λ (ge : n ≤ 0). let e : 0 ≡ n = omega (arith, ge) in subst (λ (k : ℕ). Switches s (run (step i) k (step i s))) e (inl same)) (cases_lt 0 n)

    entered_switches : (to : State) → step i s ≡ to → Handled i t s to m → Switches s (run (step i) (suc n) s)
    unfolding run
    entered_switches to e d =
        let th : (run (step i) n to).protection.handler ≡ false = subst (λ (x : State). (run (step i) n x).protection.handler ≡ false) e thread in
        let bt : (k : ℕ) → k < n → (run (step i) k to).protection.handler ≡ true =
        λ k lt. subst (λ (x : State). (run (step i) k x).protection.handler ≡ true) e (between (suc k) (omega arith) (omega (arith, lt))) in
        subst (λ (x : State). Switches s (run (step i) n x)) (sym e) (handler_switches s to m h d n th bt)

    by_step : s.ending ≡ None → LeadsOn i t m s → Switches s (run (step i) (suc n) s)
    by_step live (Ends e q) =
        let z : step i s ≡ (ends e s).to = ap (λ (x : Turn). x.to) q in
        at_once (ap (λ (x : State). x.protection.handler) z ∙ h.inv.thread) (subst (λ (x : State). Stays i t s x) (sym z) (refl, refl))
    by_step live (Goes g on) = at_once g.inv.thread (same_block s (step i s) m m h.inv.is_block g.inv.is_block refl refl)
    by_step live (Calls k few is frame q) = entered_switches (at_svc i s) q (contract.svc s m k h live few is frame)
    by_step live (Faults u f frame q) = entered_switches (at_memfault i u s) q (contract.memfault s m u h live f frame)

    by_ending : (o : Option End) → s.ending ≡ o → Switches s (run (step i) (suc n) s)
    by_ending (Some e) q = subst (λ (x : State). Switches s x) (sym (run_still (step i) (suc n) s (next_ended by_mpu i s e q))) (inl (refl, refl))
    by_ending None q = by_step q (laws.lead i t m s p h q)

  -- a thread's state of a run is one of the invariant
  in_thread : (u : State) → u.protection.handler ≡ false → Phase u → (m : MonitorBlock) × InvariantHolds i t m u
  in_thread u th (InThread m h) = (m, h)
  in_thread u th (InHandler s from m h x fits k lt e) = absurd (false≢true (sym th ∙ ap (λ (v : State). v.protection.handler) e ∙ (h.each k lt).handler))
  in_thread u th (Over e q) = absurd (false≢true (sym th ∙ q.handler))

  -- ---- the run

  module _ (first : State) (begins : StartUp i t first) (m : MonitorBlock) (holds : InvariantHolds i t m (later i t first begins.count)) where
    phase_at : (n : ℕ) → begins.count ≤ n → Phase (later i t first n)
    phase_at n le =
        let z : begins.count + (n - begins.count) ≡ n = omega (arith, le) in
        let w : State = later i t first begins.count in
        subst (λ (k : ℕ). Phase (run (step i) k first)) z (subst Phase (sym (run-add (step i) begins.count (n - begins.count) first)) (phases w (InThread m holds) (n - begins.count)))

    switches_at : (a n : ℕ) → begins.count ≤ a → AreNext i t first a n → Switches (later i t first a) (later i t first n)
    switches_at a n le next =
        let s : State = later i t first a in
        let lt = next.earlier in
        let g = in_thread s next.from_thread (phase_at a le) in
        let d : ℕ = n - a - 1 in
        let z : n ≡ a + suc d = omega (arith, lt) in
        let e : run (step i) n first ≡ run (step i) (suc d) s = ap (λ k. run (step i) k first) z ∙ run-add (step i) a (suc d) first in
        let th : (run (step i) (suc d) s).protection.handler ≡ false = sym (ap (λ (x : State). x.protection.handler) e) ∙ next.to_thread in
        let b : (k : ℕ) → 0 < k → k < suc d → (run (step i) k s).protection.handler ≡ true =
        λ k p0 l. ap (λ (x : State). x.protection.handler) (sym (run-add (step i) a k first)) ∙ next.between (a + k) (omega (arith, p0)) (omega (arith, l, lt)) in
        subst (λ (x : State). Switches s x) (sym e) (by_ending g.0 s g.1 d th b s.ending refl)

    pub run_confined : RunIsConfined i t first
    run_confined = record {
      start_up = begins;
      stores = λ n h. (phase_fine (later i t first n) (phase_at n (reached i t first begins n h))).stores;
      protection = λ n h. (phase_fine (later i t first n) (phase_at n (reached i t first begins n h))).protection;
      switches = λ a n h next. switches_at a n (reached i t first begins a h) next;
      loads = λ closed n h. (phase_fine (later i t first n) (phase_at n (reached i t first begins n h))).loads closed;
    }

pub handlers_confine_runs : RunLaws → HandlersConfineRuns
handlers_confine_runs laws i t first m p contract begins holds = run_confined laws i t p contract first begins m holds

pub handlers_confine_images : RunLaws → HandlersConfineImages
handlers_confine_images laws i t stub p tables starts contract = record {
  tables = tables;
  runs = λ queues first r.
      let s = starts queues first r in
      run_confined laws i t p contract first s.start_up (first_block t) s.begun.holds;
}
