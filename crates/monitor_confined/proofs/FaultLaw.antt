-- The handler of MemManage keeps the block, or ends the machine.
use Rattle.std.specs.Prelude.{if◌then◌else◌}
use Rattle.std.proofs.Common.{◌≡◌, ℕ, ◌%◌, ◌⊎◌, inl, inr, Bool, true, false, ◌&&◌, List, nat_eq, refl, sym, ap, ap₂, ◌∙◌, subst, arith}
use Rattle.base_words.specs.Runs.{run}
use Rattle.machine_devices.specs.declared.image.Image.{Image}
use Rattle.machine_model.specs.declared.state.CoreRegisters.{CoreRegisters}
use Rattle.machine_model.specs.declared.state.FaultStatus.{FaultStatus}
use Rattle.machine_model.specs.declared.state.End.{End}
use Rattle.machine_model.specs.declared.state.End.TheVariants.{Halt, Stop}
use Rattle.machine_model.specs.declared.state.StopReason.TheVariants.{Bus, Unaligned, Usage}
use Rattle.machine_model.specs.State.{State}
use Rattle.machine_model.specs.Step.{step}
use Rattle.machine_model.specs.Code.{HoldsHalf}
use Rattle.machine_model.specs.Exceptions.{frame_at, is_thread}
use Rattle.monitor_model.specs.declared.tables.Tables.{Tables}
use Rattle.monitor_model.specs.Records.{compartment_at}
use Rattle.monitor_model.specs.Regions.{regions_for}
use Rattle.monitor_model.specs.Block.{MonitorBlock}
use Rattle.monitor_model.specs.Handlers.{IsFault, Change, Emulates, HasReturned, HasEndedInHandler, at_memfault}
use Rattle.monitor_model.specs.Outcomes.{Outcome, Halts, StopsAtBus, StopsUnaligned, Resumes, is_open, stacked, status_place}
use Rattle.monitor_model.specs.FaultOutcome.{address, is_lent, if_aligned, emulated_store, emulated_load, is_data_fault, fault_outcome}
use Rattle.monitor_model.specs.MonitorLaw.{GoesOn, ReturnsBy, Shows}
use Rattle.monitor_confined.specs.FromLaw.{FaultsAreHandled}

if_block : (b : Bool) (x y : Outcome) (m n : MonitorBlock) (q : ℕ) (fr : List ℕ) → (x ≡ Resumes n q fr → m ≡ n) → (y ≡ Resumes n q fr → m ≡ n) → (if b then x else y) ≡ Resumes n q fr → m ≡ n
if_block true x y m n q fr f g e = f e
if_block false x y m n q fr f g e = g e

pub same_block : (a b : MonitorBlock) (p q : ℕ) (x y : List ℕ) → Resumes a p x ≡ Resumes b q y → a ≡ b
same_block a b p q x y e = cc

-- the block is the same where the thread goes on
fault_block : (i : Image) (t : Tables) (m : MonitorBlock) (psp : ℕ) (memory : List ℕ) (cfsr half : ℕ) (n : MonitorBlock) (q : ℕ) (fr : List ℕ) →
    fault_outcome i t m psp memory cfsr half ≡ Resumes n q fr → m ≡ n
unfolding fault_outcome
fault_block i t m psp memory c h n q fr e =
    if_block (is_open i t m psp memory) _ _ m n q fr
    (if_block (is_data_fault i t m psp memory c) _ _ m n q fr
    (if_block (nat_eq h 0x6008) _ _ m n q fr (store 4)
    (if_block (nat_eq h 0x7008) _ _ m n q fr (store 1)
    (if_block (nat_eq h 0x8008) _ _ m n q fr (store 2)
    (if_block (t.closed && nat_eq h 0x6808) _ _ m n q fr (load 4)
    (if_block (t.closed && nat_eq h 0x7808) _ _ m n q fr (load 1)
    (if_block (t.closed && nat_eq h 0x8808) _ _ m n q fr (load 2) (halts 8)))))))
    (halts 8))
    (halts 4) e
  where
    halts : (k : ℕ) → Halts k ≡ Resumes n q fr → m ≡ n
    halts k e = cc

    stops : StopsUnaligned ≡ Resumes n q fr → m ≡ n
    stops e = cc

    aligned : (w : ℕ) (a : Outcome) → (a ≡ Resumes n q fr → m ≡ n) → if_aligned i t m psp memory w a ≡ Resumes n q fr → m ≡ n
    aligned w a f e = if_block (nat_eq (address i t m psp memory % w) 0) _ _ m n q fr f stops e

    store : (w : ℕ) → emulated_store i t m psp memory w ≡ Resumes n q fr → m ≡ n
    store w e = if_block (is_lent (compartment_at t m.current).mask (address i t m psp memory) w m.loans) _ _ m n q fr (aligned w _ (λ x. same_block m n psp q _ fr x)) (halts 7) e

    load : (w : ℕ) → emulated_load i t m psp memory w ≡ Resumes n q fr → m ≡ n
    load w e = if_block (is_lent (compartment_at t m.current).reads (address i t m psp memory) w m.loans) _ _ m n q fr (aligned w _ (λ x. same_block m n psp q _ fr x)) (halts 9) e

module _ (i : Image) (t : Tables) where
  returned : (s u : State) (m b : MonitorBlock) (psp : ℕ) (memory : List ℕ) → GoesOn i t s u m b psp memory → Change i t s u m b → HasReturned i t s u m
  returned s u m b psp memory g c = record {
    block = b;
    change = c;
    is_block = g.is_left.is_block;
    protected = record {
      thread = g.thread;
      unprivileged = g.unprivileged;
      on_psp = ap (λ (x : CoreRegisters). x.on_psp) g.core;
      control = g.control;
      regions = g.regions ∙ ap₂ (λ x y. regions_for i t x y) (sym g.is_left.is_block.current_is) (sym g.is_left.is_block.top_is);
    };
    no_fault = g.no_fault;
    enabled = g.enabled;
    msp = ap (λ (x : CoreRegisters). x.other_sp) g.core ∙ g.msp;
  }

  -- by the tested status of the frame
  by_status : (b : Bool) (s u : State) (m n : MonitorBlock) (psp : ℕ) (memory : List ℕ) → (GoesOn i t s u m n psp memory → Change i t s u m n) →
      ReturnsBy b i t s u m n psp memory → ((e : End) × HasEndedInHandler u e) ⊎ HasReturned i t s u m
  by_status true s u m n psp memory c g = inr (returned s u m n psp memory g (c g))
  by_status false s u m n psp memory c g = inl (Stop Usage g.0, g.1.ended)

  -- a change follows from the outcome and from where the thread goes on
  pub by_outcome : (s u : State) (m : MonitorBlock) (o : Outcome) (memory : List ℕ) →
      ((n : MonitorBlock) (psp : ℕ) (after : List ℕ) → o ≡ Resumes n psp after → GoesOn i t s u m n psp after → Change i t s u m n) →
      Shows i t o s m memory u → ((e : End) × HasEndedInHandler u e) ⊎ HasReturned i t s u m
  by_outcome s u m (Halts k) memory c x = inl (Halt k, x.ended)
  by_outcome s u m StopsAtBus memory c x = inl (Stop Bus x.0, x.1.ended)
  by_outcome s u m StopsUnaligned memory c x = inl (Stop Unaligned x.0, x.1.ended)
  by_outcome s u m (Resumes n psp after) memory c x = by_status (is_thread (stacked i psp after status_place)) s u m n psp after (c n psp after refl) x

  -- the halfword of a data fault
  pub half_of : (s : State) (u : FaultStatus) → IsFault i s u → (half : ℕ) × (u.cfsr ≡ 0x82 → HoldsHalf i s.core.pc half)
  half_of s u (inl e) = (0, λ c. absurd (let z : 1 ≡ u.cfsr = sym (ap (λ (x : FaultStatus). x.cfsr) e) in omega (arith, z, c)))
  half_of s u (inr e) = (e.1, λ c. e.3)

pub faults_are_handled : FaultsAreHandled
faults_are_handled i t stub law s m u h live x frame =
    let g = half_of i t s u x in
    let from : State = at_memfault i u s in
    let l = law.memfault s m u g.0 h live x g.1 frame in
    let le = l.within in
    let end : State = run (step i) l.count from in
    record {
      count = l.count;
      within = omega (arith, le);
      each = l.each;
      holds = by_outcome i t s end m (fault_outcome i t m (frame_at s.core.sp) from.ram u.cfsr g.0) from.ram
          (λ n psp after e on. subst (λ (b : MonitorBlock). Change i t s end m b) (fault_block i t m (frame_at s.core.sp) from.ram u.cfsr g.0 n psp after e) Emulates) l.holds;
    }
