-- What an act changes: its instruction, with the handler that works for it.
use Rattle.std.proofs.Common.{◌≡◌, ◌≢◌, ℕ, ◌+◌, ◌-◌, ◌<◌, ◌≤◌, true, false, Bool, ◌⊎◌, inl, inr, ⊎_elim, List, length, sym, ap, ◌∙◌, refl, subst, arith}
use Rattle.std.proofs.lemmas.Bool.{false≢true, cases_lt}
use Rattle.base_words.specs.Bytes.{read}
use Rattle.base_words.proofs.Bytes.{read_below_all, read_above_all}
use Rattle.base_words.specs.Runs.{run}
use Rattle.machine_protection.specs.declared.region.Access.TheVariants.{Write}
use Rattle.machine_devices.specs.declared.image.Image.{Image}
use Rattle.machine_devices.specs.Rules.{block_size}
use Rattle.machine_model.specs.declared.state.FaultStatus.{FaultStatus}
use Rattle.machine_model.specs.State.{State, Touched, by_mpu}
use Rattle.machine_model.specs.Step.{turn, step}
use Rattle.machine_model.specs.Exceptions.{is_thread, frame_at, frame_of, entered, is_frame_open, supervisor_call, mem_manage}
use Rattle.machine_model.specs.AnyStep.{StoresAreListed}
use Rattle.machine_model.specs.ThreadStep.{IsReached, UnprivilegedAccessesAreReached}
use Rattle.base_laws.proofs.Lists.{each_to}
use Rattle.monitor_model.specs.declared.tables.Tables.{Tables}
use Rattle.monitor_model.specs.Records.{eighth, stack_end}
use Rattle.monitor_model.specs.Placed.{Placed}
use Rattle.monitor_model.specs.Block.{MonitorBlock}
use Rattle.monitor_model.specs.BlockWords.{current}
use Rattle.monitor_model.specs.Invariant.{InvariantHolds}
use Rattle.monitor_model.specs.Outcomes.{Outcome, Halts, StopsAtBus, StopsUnaligned, Resumes, stacked, status_place}
use Rattle.monitor_model.specs.SvcOutcome.{svc_outcome}
use Rattle.monitor_model.specs.FaultOutcome.{fault_outcome}
use Rattle.monitor_model.specs.MonitorLaw.{IsMemory, ReturnsBy, Shows, MonitorLaw}
use Rattle.monitor_model.specs.Handlers.{at_svc, at_memfault, FrameIsOpen}
use Rattle.monitor_model.specs.Confined.{AreNext, later}
use Rattle.monitor_model.proofs.Invariants.{runs_unprivileged}
use Rattle.monitor_confined.specs.Reaches.{ThreadsReach, IsWritten}
use Rattle.monitor_confined.proofs.EntryWords.{frame, entered_ram}
use Rattle.monitor_confined.proofs.Changes.{top_below}
use Rattle.monitor_runs.proofs.Segments.{RunLaws, Segment, Work, Alone, ByCall, ByFault}
use Rattle.monitor_runs.proofs.Inductions.{next_is, next_arrives}
use Rattle.monitor_runs.specs.Acts.{byte_at, IsOutside, OnStack, IsWritable, MayChange, InSlot, BelowTop}
use Rattle.monitor_runs.proofs.Bytes.{byte_stays, any_byte}
use Rattle.monitor_runs.proofs.Writes.{Kept, fault_writes}
use Rattle.monitor_runs.proofs.StayingCalls.{svc_writes}
use Rattle.monitor_runs.proofs.Changed.{stack_some, changed_kind}

-- the laws of runs, and of accesses
pub record ActLaws : Type 0 where
  pub runs : RunLaws
  pub accesses : UnprivilegedAccessesAreReached
  pub reach : ThreadsReach
  pub listed : StoresAreListed

module _ (laws : ActLaws) (i : Image) (t : Tables) (p : Placed i t) (stub : ℕ) (law : MonitorLaw i t stub) where
  wide : 32 ≤ eighth t
  wide = (stack_some i t p).2

  -- ---- the instruction's own step

  step_written : (m : MonitorBlock) (s : State) → InvariantHolds i t m s → (a : ℕ) → i.ram_base ≤ a → (byte_at i (step i s) a ≡ byte_at i s a) ⊎ IsWritten i t s a
  step_written m s h a low =
      let r = laws.reach i t m s p h in
      let x = laws.accesses i s (runs_unprivileged h.inv) h.fits.core.sp_aligned in
      ⊎_elim (λ e. inl e)
      (λ f. inr (any_byte (IsWritten i t s) a (turn by_mpu i s).stores
      (each_to (IsReached i s.protection.mpu Write) (λ (y : Touched). (k : ℕ) → k < y.width → IsWritten i t s (y.address + k)) (turn by_mpu i s).stores (λ y z k lt. r.stores (y.address + k) (z.permitted k lt)) x.stores) f))
      (byte_stays i a low laws.listed s)

  written_may : (s : State) (a : ℕ) → IsWritten i t s a → MayChange i t s a
  written_may s a (inl f) = InSlot f
  written_may s a (inr f) = BelowTop f

  step_changes : (m : MonitorBlock) (s : State) → InvariantHolds i t m s → (a : ℕ) → i.ram_base ≤ a → (byte_at i (step i s) a ≡ byte_at i s a) ⊎ MayChange i t s a
  step_changes m s h a low = ⊎_elim (λ e. inl e) (λ f. inr (written_may s a f)) (step_written m s h a low)

  -- the frame that an entry pushes, where it lies in the open stack
  pushed_apart : (m : MonitorBlock) (s : State) (h : InvariantHolds i t m s) (opened : is_frame_open by_mpu i s ≡ true) (number ret : ℕ) (u : FaultStatus) (a : ℕ) → IsOutside i t a → (OnStack t a → ⊥) →
      FrameIsOpen i t m (frame_at s.core.sp) → byte_at i (entered true i number ret u s).to a ≡ byte_at i s a
  pushed_apart m s h opened number ret u a out off inside =
      let f = frame laws.runs.frames i p.rules s h.fits opened in
      let is = f.frame.words.is_at in
      let lo = inside.from_base in
      let hi = inside.below_top in
      let most = top_below t (length m.saved) m.top h.inv.orderly.is_top in
      let low = out.from_base in
      let e = entered_ram laws.runs.frames i p.rules s h.fits opened number ret u in
      ap (λ (r : List ℕ). read 1 (a - i.ram_base) r) e
      ∙ ⊎_elim (λ lt. read_below_all 1 (a - i.ram_base) 4 f.offset (frame_of s.core ret) s.ram (omega (arith, lt, lo, is, low)))
      (λ ge. ⊎_elim (λ lt. absurd (off (ge, lt))) (λ le. read_above_all 1 (a - i.ram_base) 4 f.offset (frame_of s.core ret) s.ram (omega (arith, le, hi, most, is, low))) (cases_lt a (stack_end t)))
      (cases_lt a t.stack.base)

  -- ---- what a handler leaves of memory

  abbrev Leaves : State → Outcome → (memory : List ℕ) → Type 0
  Leaves u o memory = (r : List ℕ) × IsMemory i t 0 r u.ram × ((r ≡ memory) ⊎ ((n : MonitorBlock) × (q : ℕ) × (o ≡ Resumes n q r)))

  resumed_memory : (b : Bool) (s u : State) (m n : MonitorBlock) (q : ℕ) (r : List ℕ) → ReturnsBy b i t s u m n q r → IsMemory i t 0 r u.ram
  resumed_memory true s u m n q r g = g.is_left.is_memory
  resumed_memory false s u m n q r g = g.1.is_left.is_memory

  left_memory : (s u : State) (m : MonitorBlock) (o : Outcome) (memory : List ℕ) → Shows i t o s m memory u → Leaves u o memory
  left_memory s u m (Halts k) memory x = (memory, x.is_left.is_memory, inl refl)
  left_memory s u m StopsAtBus memory x = (memory, x.1.is_left.is_memory, inl refl)
  left_memory s u m StopsUnaligned memory x = (memory, x.1.is_left.is_memory, inl refl)
  left_memory s u m (Resumes n q r) memory x = (r, resumed_memory (is_thread (stacked i q r status_place)) s u m n q r x, inr (n, q, refl))

  off_is : (a : ℕ) → IsOutside i t a → (a - i.ram_base + 1 ≤ t.monitor - i.ram_base + 0) ⊎ (t.monitor - i.ram_base + block_size ≤ a - i.ram_base)
  off_is a out =
      let b = out.from_base in
      let n = p.block_inside.0 in
      ⊎_elim (λ lt. inl (omega (arith, lt, b, n))) (λ ge. ⊎_elim (λ lt. absurd (out.off_block (ge, lt))) (λ le. inr (omega (arith, le, b, n))) (cases_lt a (t.monitor + block_size))) (cases_lt a t.monitor)

  -- by what the outcome writes
  handler_changes : (m : MonitorBlock) (s from u : State) (h : InvariantHolds i t m s) → step i s ≡ from → (o : Outcome) → Shows i t o s m from.ram u →
      ((a : ℕ) (above : i.ram_base ≤ a) (n : MonitorBlock) (q : ℕ) (r : List ℕ) → o ≡ Resumes n q r → Kept i t p s m h from.ram (frame_at s.core.sp) a above r) →
      (a : ℕ) → IsOutside i t a → (byte_at i u a ≡ byte_at i s a) ⊎ MayChange i t s a
  handler_changes m s from u h to o x writes a out =
      let l = left_memory s u m o from.ram x in
      let e : byte_at i u a ≡ read 1 (a - i.ram_base) l.0 = l.1.reads 1 (a - i.ram_base) (off_is a out) in
      let first = subst (λ (v : State). (byte_at i v a ≡ byte_at i s a) ⊎ MayChange i t s a) to (step_changes m s h a out.from_base) in
      ⊎_elim (λ f. inr f) (λ f. ⊎_elim (λ b. inl (e ∙ f ∙ b)) (λ b. inr b) first)
      (⊎_elim (λ same. inr (ap (λ (r : List ℕ). read 1 (a - i.ram_base) r) same))
      (λ y. ⊎_elim (λ f. inr f) (λ f. inl f.0) (writes a out.from_base y.0 y.1 l.0 y.2)) l.2)

  -- the frame of the entry lies in the stack, where the outcome is that the thread goes on
  resumed_data : (m : MonitorBlock) (s from u : State) (h : InvariantHolds i t m s) → ((a : ℕ) → IsOutside i t a → (OnStack t a → ⊥) → FrameIsOpen i t m (frame_at s.core.sp) → byte_at i from a ≡ byte_at i s a) →
      (o : Outcome) → Shows i t o s m from.ram u →
      ((a : ℕ) (above : i.ram_base ≤ a) (n : MonitorBlock) (q : ℕ) (r : List ℕ) → o ≡ Resumes n q r → FrameIsOpen i t m (frame_at s.core.sp) × Kept i t p s m h from.ram (frame_at s.core.sp) a above r) →
      u.protection.handler ≡ false → (a : ℕ) → IsOutside i t a → (OnStack t a → ⊥) → byte_at i u a ≡ byte_at i s a
  resumed_data m s from u h pushed (Halts k) x writes th a out off = absurd (false≢true (sym th ∙ x.ended.handler))
  resumed_data m s from u h pushed StopsAtBus x writes th a out off = absurd (false≢true (sym th ∙ x.1.ended.handler))
  resumed_data m s from u h pushed StopsUnaligned x writes th a out off = absurd (false≢true (sym th ∙ x.1.ended.handler))
  resumed_data m s from u h pushed (Resumes n q r) x writes th a out off =
      let f = writes a out.from_base n q r refl in
      let e : byte_at i u a ≡ read 1 (a - i.ram_base) r = (resumed_memory (is_thread (stacked i q r status_place)) s u m n q r x).reads 1 (a - i.ram_base) (off_is a out) in
      ⊎_elim (λ g. e ∙ g ∙ pushed a out off f.0) (λ g. absurd (off g.1)) f.1

  -- ---- of a whole act

  abbrev Piece : MonitorBlock → State → Type 0
  Piece m s = Segment laws.runs i t p stub law m s

  -- what has changed it may change
  pub act_changes : (m : MonitorBlock) (s : State) (h : InvariantHolds i t m s) (g : Piece m s) (a : ℕ) → IsOutside i t a → (byte_at i (run (step i) g.count s) a ≡ byte_at i s a) ⊎ MayChange i t s a
  unfolding run
  act_changes m s h g a out = by g.work
    where
      by : Work laws.runs i t p stub law m s g.count → (byte_at i (run (step i) g.count s) a ≡ byte_at i s a) ⊎ MayChange i t s a
      by (Alone e k) = subst (λ (n : ℕ). (byte_at i (run (step i) n s) a ≡ byte_at i s a) ⊎ MayChange i t s a) (sym e) (step_changes m s h a out.from_base)
      by (ByCall k is opened q x) =
          handler_changes m s (at_svc i s) (run (step i) g.count s) h q (svc_outcome i t stub m (frame_at s.core.sp) (at_svc i s).ram k) x
          (λ a above n psp r e. (svc_writes i t p wide stub s m h (at_svc i s).ram (frame_at s.core.sp) a above n psp r k is e).1) a out
      by (ByFault z half opened q x) =
          handler_changes m s (at_memfault i z s) (run (step i) g.count s) h q (fault_outcome i t m (frame_at s.core.sp) (at_memfault i z s).ram z.cfsr half) x
          (λ a above n psp r e. (fault_writes i t p s m h (at_memfault i z s).ram (frame_at s.core.sp) a above z.cfsr half n psp r e).1) a out

  -- a handler that the thread goes on behind has changed nothing off the stack
  pub act_keeps : (m : MonitorBlock) (s : State) (h : InvariantHolds i t m s) (g : Piece m s) → (run (step i) g.count s).protection.handler ≡ false
      → (a : ℕ) → IsOutside i t a → (OnStack t a → ⊥) → (g.count ≡ 1) ⊎ (byte_at i (run (step i) g.count s) a ≡ byte_at i s a)
  act_keeps m s h g th a out off = by g.work
    where
      by : Work laws.runs i t p stub law m s g.count → (g.count ≡ 1) ⊎ (byte_at i (run (step i) g.count s) a ≡ byte_at i s a)
      by (Alone e k) = inl e
      by (ByCall k is opened q x) =
          inr (resumed_data m s (at_svc i s) (run (step i) g.count s) h (λ a out off o. pushed_apart m s h opened supervisor_call (s.core.pc + 2) s.status a out off o)
          (svc_outcome i t stub m (frame_at s.core.sp) (at_svc i s).ram k) x
          (λ a above n psp r e. svc_writes i t p wide stub s m h (at_svc i s).ram (frame_at s.core.sp) a above n psp r k is e) th a out off)
      by (ByFault z half opened q x) =
          inr (resumed_data m s (at_memfault i z s) (run (step i) g.count s) h (λ a out off o. pushed_apart m s h opened mem_manage s.core.pc z a out off o)
          (fault_outcome i t m (frame_at s.core.sp) (at_memfault i z s).ram z.cfsr half) x
          (λ a above n psp r e. fault_writes i t p s m h (at_memfault i z s).ram (frame_at s.core.sp) a above z.cfsr half n psp r e) th a out off)

  -- ---- of two acts that follow each other

  module _ (first : State) (a n : ℕ) (m : MonitorBlock) (h : InvariantHolds i t m (later i t first a)) (next : AreNext i t first a n) (g : Piece m (later i t first a)) where
    abbrev at : ℕ → State
    at k = later i t first k

    arrives : at n ≡ run (step i) g.count (at a)
    arrives = next_arrives laws.runs i t p stub law first a n m next g

    pub next_changes : (o : ℕ) → IsOutside i t o → byte_at i (at n) o ≢ byte_at i (at a) o → MayChange i t (at a) o
    next_changes o out differs = ⊎_elim (λ e. absurd (differs (ap (λ (x : State). byte_at i x o) arrives ∙ e))) (λ c. c) (act_changes m (at a) h g o out)

    pub next_data : (o : ℕ) → IsOutside i t o → (OnStack t o → ⊥) → byte_at i (at n) o ≢ byte_at i (at a) o → (n ≡ a + 1) × IsWritable t (current i t (at a).ram) o
    next_data o out off differs =
        ⊎_elim (λ one. let e = next_is laws.runs i t p stub law first a n m next g in
        (omega (arith, e, one), ⊎_elim (λ f. f) (λ f. absurd (off f)) (changed_kind i t p (at a) m h o (next_changes o out differs))))
        (λ same. absurd (differs (ap (λ (x : State). byte_at i x o) arrives ∙ same)))
        (act_keeps m (at a) h g (sym (ap (λ (x : State). x.protection.handler) arrives) ∙ next.to_thread) o out off)
