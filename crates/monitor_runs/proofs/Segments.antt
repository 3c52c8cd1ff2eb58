-- From an instruction of a thread over the monitor's work for it to where the thread goes on, or the machine has ended.
use Rattle.std.proofs.Common.{nat_lt, ◌≡◌, ℕ, zero, suc, ◌<◌, ◌≤◌, true, false, Bool, List, Option, Some, None, refl, sym, ap, ◌∙◌, subst, arith}
use Rattle.base_words.specs.Runs.{run}
use Rattle.machine_devices.specs.declared.image.Image.{Image}
use Rattle.machine_model.specs.declared.state.CoreRegisters.{CoreRegisters}
use Rattle.machine_model.specs.declared.state.FaultStatus.{FaultStatus}
use Rattle.machine_model.specs.declared.state.End.{End}
use Rattle.machine_model.specs.declared.state.End.TheVariants.{Halt, Stop}
use Rattle.machine_model.specs.declared.state.StopReason.TheVariants.{Bus, Unaligned, Usage}
use Rattle.machine_model.specs.State.{State, Turn, by_mpu}
use Rattle.machine_model.specs.Step.{step}
use Rattle.machine_model.specs.Exceptions.{is_thread, frame_at, is_frame_open}
use Rattle.machine_model.specs.Shape.{StateFits, StepsKeepShape}
use Rattle.machine_model.specs.ThreadStep.{UnprivilegedStepsAreThreadSteps}
use Rattle.machine_model.proofs.Runs.{next_ended, run_fits}
use Rattle.monitor_model.specs.declared.tables.Tables.{Tables}
use Rattle.monitor_model.specs.Placed.{Placed}
use Rattle.monitor_model.specs.Block.{MonitorBlock}
use Rattle.monitor_model.specs.Invariant.{InvariantHolds}
use Rattle.monitor_model.specs.Confined.{IsSvc}
use Rattle.monitor_model.specs.Outcomes.{Outcome, Halts, StopsAtBus, StopsUnaligned, Resumes, stacked, status_place}
use Rattle.monitor_model.specs.SvcOutcome.{svc_outcome}
use Rattle.monitor_model.specs.FaultOutcome.{fault_outcome}
use Rattle.monitor_model.specs.MonitorLaw.{GoesOn, ReturnsBy, Shows, MonitorLaw, svc_steps, memfault_steps}
use Rattle.monitor_model.specs.Handlers.{at_svc, at_memfault, HasEndedInHandler, Handles, Leads, Change}
use Rattle.monitor_model.proofs.Invariants.{runs_unprivileged}
use Rattle.monitor_confined.specs.ThreadSteps.{LeadsOn, Ends, Goes, Calls, Faults, ThreadStepsLead}
use Rattle.monitor_confined.specs.WholeRuns.{ChangesKeepOrder}
use Rattle.monitor_confined.proofs.EntryWords.{FrameLaws}
use Rattle.monitor_confined.proofs.FaultLaw.{half_of}
use Rattle.monitor_confined.proofs.SvcLaw.{few_steps}
use Rattle.monitor_runs.specs.Moves.{Moves, Executes}
use Rattle.monitor_runs.proofs.CallMoves.{call_move, call_change}
use Rattle.monitor_runs.proofs.FaultMoves.{fault_move, fault_change}

-- the laws of steps, of frames, and of changes of the block
pub record RunLaws : Type 0 where
  pub order : ChangesKeepOrder
  pub shape : StepsKeepShape
  pub lead : ThreadStepsLead
  pub steps : UnprivilegedStepsAreThreadSteps
  pub frames : FrameLaws

module _ (laws : RunLaws) (i : Image) (t : Tables) (p : Placed i t) (stub : ℕ) (law : MonitorLaw i t stub) where
  -- what so many steps come to
  pub data Work (m : MonitorBlock) (s : State) (count : ℕ) : Type 0 where
    -- the instruction's own step, behind which the block is the same
    Alone : count ≡ 1 → InvariantHolds i t m (step i s) → Work m s count
    -- an SVC, and a refused access, with all that its handler does
    ByCall : (k : ℕ) → IsSvc i t k s → is_frame_open by_mpu i s ≡ true → step i s ≡ at_svc i s
        → Shows i t (svc_outcome i t stub m (frame_at s.core.sp) (at_svc i s).ram k) s m (at_svc i s).ram (run (step i) count s) → Work m s count
    ByFault : (z : FaultStatus) (half : ℕ) → is_frame_open by_mpu i s ≡ true → step i s ≡ at_memfault i z s
        → Shows i t (fault_outcome i t m (frame_at s.core.sp) (at_memfault i z s).ram z.cfsr half) s m (at_memfault i z s).ram (run (step i) count s) → Work m s count

  -- where no handler is at work
  pub data Rest (m : MonitorBlock) (s u : State) : Type 0 where
    InThread : (b : MonitorBlock) → InvariantHolds i t b u → Moves i t s u m b → Rest m s u
    Over : (e : End) → HasEndedInHandler u e → Rest m s u

  pub record Segment (m : MonitorBlock) (s : State) : Type 0 where
    pub count : ℕ
    pub some : 0 < count
    pub few : count ≤ 16001
    pub works : (k : ℕ) → 0 < k → k < count → Handles i t s (run (step i) k s)
    pub work : Work m s count
    pub rest : Rest m s (run (step i) count s)

  -- ---- the invariant behind a handler

  resumed_holds : (m : MonitorBlock) (s u : State) (n : MonitorBlock) (q : ℕ) (r : List ℕ) → InvariantHolds i t m s → StateFits i u → GoesOn i t s u m n q r → Change i t s u m n → InvariantHolds i t n u
  resumed_holds m s u n q r h fits g c = record {
    inv = record {
      is_block = g.is_left.is_block;
      orderly = laws.order i t s u m n p h.fits.core.sp_aligned h.inv.orderly c;
      thread = g.thread;
      unprivileged = g.unprivileged;
      on_psp = ap (λ (x : CoreRegisters). x.on_psp) g.core;
      control = g.control;
      regions = g.regions;
      no_fault = g.no_fault;
      enabled = g.enabled ∙ h.inv.enabled;
      msp = ap (λ (x : CoreRegisters). x.other_sp) g.core ∙ g.msp;
      high_five = fits.core.high_count;
      as_long = fits.ram_count;
    };
    fits = fits;
  }

  -- where the outcome leads
  abbrev Turns : State → State → MonitorBlock → Outcome → Type 0
  Turns s u m o = (n : MonitorBlock) (q : ℕ) (r : List ℕ) → o ≡ Resumes n q r → GoesOn i t s u m n q r → Change i t s u m n × Moves i t s u m n

  by_status : (b : Bool) (m : MonitorBlock) (s u : State) (n : MonitorBlock) (q : ℕ) (r : List ℕ) → InvariantHolds i t m s → StateFits i u → (GoesOn i t s u m n q r → Change i t s u m n × Moves i t s u m n) → ReturnsBy b i t s u m n q r → Rest m s u
  by_status true m s u n q r h fits f g = let z = f g in InThread n (resumed_holds m s u n q r h fits g z.0) z.1
  by_status false m s u n q r h fits f g = Over (Stop Usage g.0) g.1.ended

  rest_by : (m : MonitorBlock) (s u : State) (o : Outcome) (memory : List ℕ) → InvariantHolds i t m s → StateFits i u → Turns s u m o → Shows i t o s m memory u → Rest m s u
  rest_by m s u (Halts k) memory h fits f x = Over (Halt k) x.ended
  rest_by m s u StopsAtBus memory h fits f x = Over (Stop Bus x.0) x.1.ended
  rest_by m s u StopsUnaligned memory h fits f x = Over (Stop Unaligned x.0) x.1.ended
  rest_by m s u (Resumes n q r) memory h fits f x = by_status (is_thread (stacked i q r status_place)) m s u n q r h fits (f n q r refl) x

  handled : (m : MonitorBlock) (s from : State) (h : InvariantHolds i t m s) → step i s ≡ from → (most : ℕ) → ((c : ℕ) → c ≤ most → c ≤ 16000) → (o : Outcome) → (l : Leads i t s most from (Shows i t o s m from.ram)) →
      Turns s (run (step i) l.count from) m o → (Shows i t o s m from.ram (run (step i) (suc l.count) s) → Work m s (suc l.count)) → Segment m s
  unfolding run
  handled m s from h to most limit o l turns work =
      let u : State = run (step i) l.count from in
      let there : run (step i) (suc l.count) s ≡ u = ap (λ (x : State). run (step i) l.count x) to in
      let fits = subst (λ (x : State). StateFits i x) there (run_fits laws.shape by_mpu i p.rules (suc l.count) s h.fits) in
      record {
        count = suc l.count;
        some = omega arith;
        few = (let z = limit l.count l.within in omega (arith, z));
        works = works_at;
        work = work (subst (λ (x : State). Shows i t o s m from.ram x) (sym there) l.holds);
        rest = subst (λ (x : State). Rest m s x) (sym there) (rest_by m s u o from.ram h fits turns l.holds);
      }
    where
      works_at : (k : ℕ) → 0 < k → k < suc l.count → Handles i t s (run (step i) k s)
      works_at zero some lt = absurd (omega (arith, some))
      works_at (suc k) some lt = subst (λ (x : State). Handles i t s (run (step i) k x)) (sym to) (l.each k (omega (arith, lt)))

  -- ---- one step

  one : (m : MonitorBlock) (s : State) → InvariantHolds i t m (step i s) → Segment m s
  unfolding run
  one m s k = record { count = 1; some = omega arith; few = omega arith; works = λ k some lt. absurd (omega (arith, some, lt)); work = Alone refl k; rest = InThread m k (Executes refl) }

  -- ---- all cases

  live_segment : (m : MonitorBlock) (s : State) (h : InvariantHolds i t m s) → s.ending ≡ None → LeadsOn i t m s → Segment m s
  live_segment m s h live (Ends e q) =
      let f = subst (λ (x : Turn). StateFits i x.to) q (laws.shape by_mpu i s p.rules h.fits) in
      one m s (subst (λ (x : Turn). InvariantHolds i t m x.to) (sym q) (record { inv = h.inv; fits = f }))
  live_segment m s h live (Goes g on) = one m s g
  live_segment m s h live (Calls k few is frame q) =
      let from : State = at_svc i s in
      let l = law.svc s m k h live few is frame in
      let end : State = run (step i) l.count from in
      handled m s from h q (svc_steps k) (λ c le. few_steps (nat_lt k 2) c le) (svc_outcome i t stub m (frame_at s.core.sp) from.ram k) l
      (λ b psp after e on. (call_change laws.frames i t p stub s end m h frame k is b psp after on e, call_move laws.frames i t p stub s end m h frame k is b psp after on e))
      (λ x. ByCall k is frame q x)
  live_segment m s h live (Faults z f frame q) =
      let g = half_of i t s z f in
      let from : State = at_memfault i z s in
      let l = law.memfault s m z g.0 h live f g.1 frame in
      let end : State = run (step i) l.count from in
      handled m s from h q memfault_steps (λ c le. omega (arith, le)) (fault_outcome i t m (frame_at s.core.sp) from.ram z.cfsr g.0) l
      (λ n psp after e on. (fault_change i t s end m from.ram z.cfsr g.0 n psp after e, fault_move laws.frames i t p s end m h z f frame (laws.steps i s (runs_unprivileged h.inv) live) q n psp after on g.0 g.1 e))
      (λ x. ByFault z g.0 frame q x)

  by_ending : (m : MonitorBlock) (s : State) (h : InvariantHolds i t m s) → (o : Option End) → s.ending ≡ o → Segment m s
  by_ending m s h (Some e) q = one m s (subst (λ (x : State). InvariantHolds i t m x) (sym (next_ended by_mpu i s e q)) h)
  by_ending m s h None q = live_segment m s h q (laws.lead i t m s p h q)

  pub segment : (m : MonitorBlock) (s : State) (h : InvariantHolds i t m s) → Segment m s
  segment m s h = by_ending m s h s.ending refl
