-- What stays in each run, and who accesses peripherals, from the induction over its acts.
use Rattle.std.proofs.Common.{◌≡◌, ◌≢◌, ℕ, ◌+◌, ◌-◌, ◌*◌, ◌<◌, ◌≤◌, ◌⊎◌, inl, inr, ⊎_elim, Bool, true, false, List, [], ◌∷◌, nat_eq, Option, Some, None, refl, sym, ap, ◌∙◌, subst, arith}
use Rattle.std.specs.Prelude.{if◌then◌else◌}
use Rattle.std.proofs.lemmas.Bool.{false≢true, cases_lt}
use Rattle.std.proofs.lemmas.Bool.Decides.{nat_tests}
use Rattle.base_words.specs.Bytes.{read}
use Rattle.base_words.specs.Runs.{run}
use Rattle.machine_protection.specs.declared.region.Region.{Region}
use Rattle.machine_protection.specs.declared.region.Access.{Access}
use Rattle.machine_protection.specs.declared.region.Access.TheVariants.{Read, Write}
use Rattle.machine_protection.specs.Regions.{holds, permission}
use Rattle.machine_protection.specs.Laws.{RegionsHoldTheirBlocks}
use Rattle.machine_protection.specs.Configured.{KeptListsPermit}
use Rattle.machine_protection.specs.Protection.{permits, IsAccessWidth}
use Rattle.machine_devices.specs.declared.image.Image.{Image}
use Rattle.machine_bus.specs.Locations.{InRam, InFlash, InWindow, location, choose}
use Rattle.machine_bus.proofs.Offsets.{in_ram, in_flash}
use Rattle.base_events.specs.declared.event.Event.{Event}
use Rattle.machine_model.specs.State.{State, Touched, Turn, by_mpu}
use Rattle.machine_model.specs.Step.{turn, step, event}
use Rattle.machine_model.proofs.Runs.{turn_ended}
use Rattle.machine_model.specs.Reset.{EachRun}
use Rattle.machine_model.specs.Exceptions.{vector_offset, mem_manage, supervisor_call}
use Rattle.machine_model.specs.Confinement.{AnyOf, IsVectorRead, EventsAreListed}
use Rattle.machine_model.specs.ThreadStep.{IsReached}
use Rattle.base_laws.specs.Lists.{Each}
use Rattle.base_laws.proofs.Lists.{each_to}
use Rattle.monitor_model.specs.declared.tables.Tables.{Tables}
use Rattle.monitor_model.specs.Placed.{Placed}
use Rattle.monitor_model.specs.Block.{MonitorBlock, first_block}
use Rattle.monitor_model.specs.BlockWords.{current}
use Rattle.monitor_model.specs.Invariant.{InvariantHolds}
use Rattle.monitor_model.specs.Reach.{AllBytes, running, InOpenStack}
use Rattle.monitor_model.specs.Handlers.{LoadFor}
use Rattle.monitor_model.specs.MonitorLaw.{MonitorLaw}
use Rattle.monitor_model.specs.Starts.{Starts}
use Rattle.monitor_model.specs.Confined.{StartUp, HasStarted, later}
use Rattle.monitor_model.proofs.Invariants.{runs_unprivileged}
use Rattle.monitor_confined.specs.Reaches.{IsRead, Reaches}
use Rattle.monitor_runs.specs.WhoRuns.{WhoRuns, WhoRunsComesBack}
use Rattle.monitor_runs.proofs.Segments.{Rest, InThread, Over, Segment, segment}
use Rattle.monitor_runs.proofs.Inductions.{at_add, still, works_in, holds_at as run_holds}
use Rattle.monitor_runs.specs.Acts.{IsWritable, MayChange, InSlot, BelowTop, InLoan, InResult, MayRead, ReadsSlot, ReadsStack, ReadsFlash, Acts}
use Rattle.monitor_runs.specs.Stays.{IsClosedTo, MemoryStays, DataStays, DataChangesByItsWriters, OwnDataStays, ClosedStackStays, ActsReadTheirOwn, MonitorReadsForActs, IsOwnAccess, KeepsMemory}
use Rattle.monitor_runs.proofs.ActChanges.{ActLaws, next_changes, next_data}
use Rattle.monitor_runs.proofs.Rests.{stays_or, memory_stays}
use Rattle.monitor_runs.proofs.KeptFrames.{frames_are_kept}
use Rattle.monitor_runs.proofs.Changed.{changed_kind, slots_off, bounded, stack_outside}
use Rattle.monitor_runs.proofs.Told.{turn_tells}
use Rattle.monitor_runs.proofs.Windows.{high, read_by_slot}

-- the laws of the protection unit, and of the lists of a step
pub record AccessLaws : Type 0 where
  pub permit : KeptListsPermit
  pub held : RegionsHoldTheirBlocks
  pub events : EventsAreListed

not_both : (P : Type 0) (o : Option Event) (e : Event) → o ≡ None → o ≡ Some e → P
not_both P o e n s = absurd (let z : None ≡ Some e = sym n ∙ s in cc)

module _ (laws : ActLaws) (units : AccessLaws) (i : Image) (t : Tables) (p : Placed i t) (stub : ℕ) (law : MonitorLaw i t stub) (first : State)
    (begins : StartUp i t first) (m : MonitorBlock) (begun : InvariantHolds i t m (later i t first begins.count)) (who : WhoRuns i t first) where
  abbrev at : ℕ → State
  at n = later i t first n

  holds_at : (n : ℕ) → Acts i t first n → (b : MonitorBlock) × InvariantHolds i t b (at n)
  holds_at n x = run_holds laws.runs i t p stub law first begins m begun n x.started x.thread

  all_stays : MemoryStays i t first
  all_stays = memory_stays laws i t p stub law first begins m begun

  -- ---- data and stack

  data_stays : DataStays i t first
  data_stays from to a r u le out off none = all_stays from to a r u le out (λ k lo hi x c.
      let h = holds_at k x in
      ⊎_elim (λ f. none k lo hi x f) (λ f. off f) (changed_kind i t p (at k) h.0 h.1 a c))

  changes : DataChangesByItsWriters i t first
  changes from to a r u le out off differs = ⊎_elim (λ e. absurd (differs e)) (λ x. let h = holds_at x.0 x.3 in
      ⊎_elim (λ f. (x.0, x.1, x.2, x.3, f)) (λ f. absurd (off f)) (changed_kind i t p (at x.0) h.0 h.1 a x.4)) (stays_or laws i t p stub law first begins m begun from to a r u le out)

  own_stays : OwnDataStays i t first
  own_stays c from to a r u le out off others away = data_stays from to a r u le out off (λ k lo hi x f. others (current i t (at k).ram) (away k lo hi x) f)

  stack_stays : ClosedStackStays i t first
  stack_stays from to a r u le on closed = all_stays from to a r u le (stack_outside i t p a on) (λ k lo hi x c. by k x (closed k lo hi x) c)
    where
      by : (k : ℕ) → Acts i t first k → IsClosedTo i t (at k) a → MayChange i t (at k) a → ⊥
      by k x q (InSlot f) = let h = holds_at k x in slots_off i t p (at k) h.0 h.1 a on f
      by k x q (BelowTop f) = let lo = q.above in let hi = f.1 in omega (arith, lo, hi)
      by k x q (InLoan l f) = q.not_lent l f
      by k x q (InResult v f) = q.no_result v f

  -- ---- accesses

  abbrev Own : ℕ → Event → Type 0
  Own n e = IsOwnAccess i t first n e

  module _ (n : ℕ) (e : Event) (acts : Acts i t first n) (told : event i (at n) ≡ Some e) (block : MonitorBlock) (inv : InvariantHolds i t block (at n)) where
    reach : Reaches i t (at n)
    reach = laws.reach i t block (at n) p inv

    monitor_there : i.monitor ≢ 0
    monitor_there z = let x = p.block_inside.0 in let y = p.rules.ram_lowest in let q = p.is_monitor in omega (arith, x, y, q, z)

    named : (b : Bool) → nat_eq i.monitor 0 ≡ b → (if b then 0 else read 4 (i.monitor - i.ram_base) (at n).ram) ≡ current i t (at n).ram
    named true q = absurd (monitor_there (let z : i.monitor ≡ 0 = search (nat_tests, arith) in z))
    named false q =
        let same : i.monitor - i.ram_base ≡ t.monitor - i.ram_base + 0 = (let z = p.is_monitor in omega (arith, z)) in
        ap (λ o. read 4 o (at n).ram) same

    by_current : e.compartment ≡ current i t (at n).ram
    by_current = turn_tells by_mpu i (at n) e told ∙ named (nat_eq i.monitor 0) refl

    -- what lies in RAM or in flash is no window
    not_stack : (a : ℕ) → location i a ≡ InWindow e.periph e.offset → InOpenStack i t (at n) a → ⊥
    not_stack a w o =
        let x = (bounded i t p (at n) block inv).most_open in
        let lo = o.0 in
        let hi = o.1 in
        let b = p.stack_base in
        let c = p.stack_size in
        let y = p.stack.place.0 in
        let z = p.stack.place.1 in
        let r : location i a ≡ InRam (a - i.ram_base) = in_ram i a (a - i.ram_base) (omega (arith, lo, b, y)) (omega (arith, lo, hi, x, b, c, y, z)) in
        let wrong : InRam (a - i.ram_base) ≡ InWindow e.periph e.offset = sym r ∙ w in
        cc

    not_vector : (x : Touched) → location i x.address ≡ InWindow e.periph e.offset → IsVectorRead i x → ⊥
    not_vector x w v = ⊎_elim (λ q. by mem_manage (omega arith) q) (λ q. by supervisor_call (omega arith) q) v
      where
        by : (k : ℕ) → k < 16 → x ≡ record { width = 4; address = i.flash_base + vector_offset k } → ⊥
        by k few q =
            let is : x.address ≡ i.flash_base + 4 * k = ap (λ (y : Touched). y.address) q in
            let least = p.rules.flash_least in
            let r : location i x.address ≡ InFlash (4 * k) = in_flash i x.address (4 * k) p.rules (omega (arith, is)) (omega (arith, few, least)) in
            let wrong : InFlash (4 * k) ≡ InWindow e.periph e.offset = sym r ∙ w in
            cc

    first_byte : (x : Touched) (kind : Access) → IsReached i (at n).protection.mpu kind x → permits (at n).protection.mpu true kind x.address ≡ true
    first_byte x kind y =
        let z : x.address + 0 ≡ x.address = omega arith in
        subst (λ (a : ℕ). permits (at n).protection.mpu true kind a ≡ true) z (y.permitted 0 (wide_enough x.width y.width))
      where
        wide_enough : (w : ℕ) → IsAccessWidth w → 0 < w
        wide_enough w h = grind arith

    any_slot : (gs : List Region) (a : ℕ) → AnyOf (λ (g : Region). (holds g a ≡ true) × (permission g ≡ 3)) gs → AnyOf (λ (g : Region). holds g a ≡ true) gs
    any_slot [] a f = f
    any_slot (g ∷ gs) a (inl f) = inl f.0
    any_slot (g ∷ gs) a (inr f) = inr (any_slot gs a f)

    abbrev There : Touched → Type 0
    There x = (x.width ≡ e.width) × (location i x.address ≡ InWindow e.periph e.offset)

    stored : (x : Touched) → There x → IsReached i (at n).protection.mpu Write x → Own n e
    stored x w y =
        let f : IsWritable t (current i t (at n).ram) x.address = ⊎_elim (λ f. f) (λ o. absurd (not_stack x.address w.1 o)) (reach.stores x.address (first_byte x Write y)) in
        record { acts = acts; compartment = by_current; address = x.address; there = w.1; in_slot = any_slot (running i t (at n)).slots x.address f; may_store = λ b. f }

    loaded : (x : Touched) → e.write ≡ false → There x → IsReached i (at n).protection.mpu Read x ⊎ IsVectorRead i x → Own n e
    loaded x load w (inr v) = absurd (not_vector x w.1 v)
    loaded x load w (inl y) =
        let far = high i p.rules x.address e.periph e.offset w.1 in
        record {
          acts = acts;
          compartment = by_current;
          address = x.address;
          there = w.1;
          in_slot = read_by_slot units.permit units.held i t p x.address far block (at n) inv Read (first_byte x Read y);
          may_store = λ b. absurd (false≢true (sym load ∙ b));
        }

    pick : (P : Touched → Type 0) (f : (x : Touched) → There x → P x → Own n e) (xs : List Touched) → Each P xs → AnyOf There xs → Own n e
    pick P f [] h a = absurd a
    pick P f (x ∷ xs) h (inl a) = f x a h.0
    pick P f (x ∷ xs) h (inr a) = pick P f xs h.1 a

    by_kind : (b : Bool) → e.write ≡ b → AnyOf There (choose b (turn by_mpu i (at n)).stores (turn by_mpu i (at n)).loads) → Own n e
    by_kind true q a = pick (IsReached i (at n).protection.mpu Write) stored (turn by_mpu i (at n)).stores (laws.accesses i (at n) (runs_unprivileged inv.inv) inv.fits.core.sp_aligned).stores a
    by_kind false q a = pick (λ x. IsReached i (at n).protection.mpu Read x ⊎ IsVectorRead i x) (λ x w y. loaded x q w y) (turn by_mpu i (at n)).loads (laws.accesses i (at n) (runs_unprivileged inv.inv) inv.fits.core.sp_aligned).loads a

    own : Own n e
    own = by_kind e.write refl (units.events by_mpu i (at n) e told)

  -- only an act has an event
  event_acts : (n : ℕ) (e : Event) → HasStarted i t first n → event i (at n) ≡ Some e → Acts i t first n
  event_acts n e started told = by (at n).protection.handler refl
    where
      by : (b : Bool) → (at n).protection.handler ≡ b → Acts i t first n
      by true hd = not_both (Acts i t first n) (event i (at n)) e (who.quiet n started hd) told
      by false th = record { started = started; thread = th }

  -- ---- loads

  may_read : (s : State) (a : ℕ) → IsRead i t s a → MayRead i t s a
  may_read s a (inl f) = ReadsSlot f
  may_read s a (inr (inl f)) = ReadsStack f
  may_read s a (inr (inr f)) = ReadsFlash f.0 f.1

  vector_read : (s : State) (n : ℕ) → n < 16 → (x : Touched) → x ≡ record { width = 4; address = i.flash_base + vector_offset n } → AllBytes (MayRead i t s) x
  vector_read s n few x e k lt =
      let width : x.width ≡ 4 = ap (λ (y : Touched). y.width) e in
      let is : x.address ≡ i.flash_base + 4 * n = ap (λ (y : Touched). y.address) e in
      ReadsFlash (omega (arith, is)) (omega (arith, is, width, lt, few))

  reads : ActsReadTheirOwn i t first
  reads closed n x =
      let h = holds_at n x in
      let r = laws.reach i t h.0 (at n) p h.1 in
      each_to (λ x. IsReached i (at n).protection.mpu Read x ⊎ IsVectorRead i x) (AllBytes (MayRead i t (at n))) (turn by_mpu i (at n)).loads
      (λ y z. ⊎_elim (λ q k lt. may_read (at n) (y.address + k) (r.loads closed (y.address + k) (q.permitted k lt)))
      (λ q. ⊎_elim (λ e. vector_read (at n) mem_manage (omega arith) y e) (λ e. vector_read (at n) supervisor_call (omega arith) y e) q) z)
      (laws.accesses i (at n) (runs_unprivileged h.1.inv) h.1.fits.core.sp_aligned).loads

  -- the monitor's step is one of its work for the act, or the machine has ended in a handler
  monitor_reads_in : i.closed ≡ true → (n k : ℕ) (b : MonitorBlock) (g : Segment laws.runs i t p stub law b (at n)) → n < k → ((j : ℕ) → n < j → j ≤ k → (at j).protection.handler ≡ true)
      → Each (AllBytes (LoadFor i t (at n))) (turn by_mpu i (at k)).loads
  monitor_reads_in closed n k b g lt in_handler =
      ⊎_elim (λ l. (works_in laws.runs i t p stub law first n k b g lt l).loads_for closed) (λ le. behind le g.rest) (cases_lt k (n + g.count))
    where
      there : at (n + g.count) ≡ run (step i) g.count (at n)
      there = at_add laws.runs i t p stub law first n g.count

      behind : n + g.count ≤ k → Rest laws.runs i t p stub law b (at n) (run (step i) g.count (at n)) → Each (AllBytes (LoadFor i t (at n))) (turn by_mpu i (at k)).loads
      behind le (InThread c y move) =
          let some = g.some in
          absurd (false≢true (sym (ap (λ (x : State). x.protection.handler) there ∙ y.inv.thread) ∙ in_handler (n + g.count) (omega (arith, some)) le))
      behind le (Over e y) =
          let z = still laws.runs i t p stub law first (n + g.count) k e le (ap (λ (x : State). x.ending) there ∙ y.ending) in
          subst (λ (x : Turn). Each (AllBytes (LoadFor i t (at n))) x.loads) (sym (turn_ended by_mpu i (at k) e (ap (λ (x : State). x.ending) (z ∙ there) ∙ y.ending))) tt

  monitor_reads : MonitorReadsForActs i t first
  monitor_reads closed n k x = let h = holds_at n x in monitor_reads_in closed n k h.0 (segment laws.runs i t p stub law h.0 (at n) h.1)

  pub keeps : WhoRunsComesBack → KeepsMemory i t first
  keeps back = record {
    acts_change = λ a n o x y. let h = holds_at a x in next_changes laws i t p stub law first a n h.0 h.1 y (segment laws.runs i t p stub law h.0 (at a) h.1) o;
    own_steps = λ a n o x y. let h = holds_at a x in next_data laws i t p stub law first a n h.0 h.1 y (segment laws.runs i t p stub law h.0 (at a) h.1) o;
    stays = all_stays;
    data_stays = data_stays;
    changes = changes;
    own_stays = own_stays;
    stack_stays = stack_stays;
    frames = frames_are_kept i t p first who back stack_stays;
    reads = reads;
    monitor_reads = monitor_reads;
    bounded = λ n x. let h = holds_at n x in bounded i t p (at n) h.0 h.1;
    invariant = holds_at;
    accesses = λ n e started told. let x = event_acts n e started told in let h = holds_at n x in own n e x told h.0 h.1;
  }

pub each_keeps : ActLaws → AccessLaws → (i : Image) (t : Tables) (stub : ℕ) → Placed i t → MonitorLaw i t stub → Starts i t stub → EachRun i (WhoRuns i t) → WhoRunsComesBack → EachRun i (KeepsMemory i t)
each_keeps laws units i t stub p law starts who back queues first reset =
    let s = starts queues first reset in
    keeps laws units i t p stub law first s.start_up (first_block t) s.begun.holds (who queues first reset) back
