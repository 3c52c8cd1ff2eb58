-- The end of a handler's run on the machine: a halt, a stop, or the exception return and the thread behind it.
use Rattle.std.proofs.Common.{◌≡◌, ℕ, zero, suc, ◌+◌, ◌-◌, ◌*◌, ◌<◌, ◌≤◌, ◌⊎◌, inl, inr, ⊎_elim, Bool, true, false, List, [], length, get_or, None, refl, sym, ap, ◌∙◌, subst, arith}
use Rattle.base_words.specs.Arithmetic.{word}
use Rattle.base_words.specs.Runs.{run}
use Rattle.base_words.proofs.Runs.{run-add, once}
use Rattle.machine_thumb.specs.declared.table.Instr.TheVariants.{BranchExchange}
use Rattle.machine_protection.specs.declared.region.Access.TheVariants.{Read}
use Rattle.machine_protection.specs.Protection.{permits}
use Rattle.machine_devices.specs.declared.image.Image.{Image}
use Rattle.machine_devices.specs.Rules.{block_size}
use Rattle.machine_model.specs.declared.state.CoreRegisters.{CoreRegisters}
use Rattle.machine_model.specs.declared.state.ProtectionState.{ProtectionState}
use Rattle.machine_model.specs.declared.state.End.TheVariants.{Halt as HaltEnd, Stop}
use Rattle.machine_model.specs.declared.state.StopReason.TheVariants.{Bus, Unaligned}
use Rattle.machine_model.specs.State.{State, Turn, by_mpu}
use Rattle.machine_model.specs.Act.{Exchanges}
use Rattle.machine_model.specs.Instructions.{act}
use Rattle.machine_model.specs.Exceptions.{words_from, return_on_psp, is_thread, leaves, unstacked}
use Rattle.machine_model.specs.Step.{turn, step, event}
use Rattle.machine_model.specs.Code.{size, Stands}
use Rattle.machine_model.specs.Stack.{Words, words_at, May}
use Rattle.machine_model.specs.Running.{StepsAreActs}
use Rattle.base_laws.specs.Lists.{Each}
use Rattle.machine_model.specs.Events.{ended}
use Rattle.monitor_steps.specs.Core.{Core}
use Rattle.monitor_steps.specs.Effect.{Outcome as PrivilegedOutcome, Halted, AtReturn, Stopped}
use Rattle.monitor_steps.specs.Runs.{Scratch, registers, at, Shows as PrivilegedShows}
use Rattle.monitor_model.specs.declared.tables.Tables.{Tables}
use Rattle.monitor_model.specs.Regions.{regions_for}
use Rattle.monitor_model.specs.Placed.{Placed}
use Rattle.monitor_model.specs.Block.{MonitorBlock}
use Rattle.monitor_model.specs.BlockWords.{IsBlock, top, words_end}
use Rattle.monitor_model.specs.Invariant.{IsTop}
use Rattle.monitor_model.specs.Reach.{AllBytes, LoadKind, OfStack, StoreKind}
use Rattle.monitor_model.specs.Handlers.{LoadFor, Handles, Leads}
use Rattle.monitor_model.specs.Outcomes.{Outcome, Halts, StopsAtBus, StopsUnaligned, Resumes, frame_in, stacked, status_place}
use Rattle.monitor_model.specs.MonitorLaw.{IsMemory, IsLeft, EndsThere, ReturnsBy, Shows}
use Rattle.monitor_laws.proofs.HandlerWords.{InStack, apart_from_block}
use Rattle.monitor_handlers.specs.Modes.{InMode}
use Rattle.monitor_handlers.proofs.Frames.{StackLaws, words_same, returns_turn, stack_may_read}

-- what is left of RAM, where the block was m and is b
pub record LeavesRam (i : Image) (t : Tables) (m b : MonitorBlock) (memory ram : List ℕ) : Type 0 where
  pub is_block : IsBlock i t ram b
  pub is_memory : IsMemory i t 0 memory ram
  pub words_stay : b ≡ m → IsMemory i t words_end memory ram

-- a core before the exception return to a thread, of a thread's state before
pub record Resuming (i : Image) (t : Tables) (s : State) (m b : MonitorBlock) (psp : ℕ) (after : List ℕ) (d : Core) : Type 0 where
  pub msp : d.sp ≡ t.monitor + block_size
  pub psp_is : d.other_sp ≡ psp
  pub unprivileged : d.protection.unprivileged ≡ true
  pub control : d.protection.mpu.control ≡ 5
  pub regions : d.protection.mpu.regions ≡ regions_for i t b.current b.top
  pub unit_stays : b.top ≡ m.top → d.protection.mpu ≡ s.protection.mpu
  pub no_fault : d.status.cfsr ≡ 0
  pub enabled : d.status.shcsr ≡ s.status.shcsr
  pub ram : LeavesRam i t m b after d.ram
  pub offset : ℕ
  pub at : psp ≡ i.ram_base + offset
  pub frame : InStack i t offset b.top
  -- the return loads the frame
  pub may_load : (a : ℕ) → psp ≤ a → a < psp + 32 → LoadFor i t s a
  pub current_in : b.current < length t.comps
  pub saved : ℕ
  pub is_top : IsTop t saved b.top

-- how a list's outcome answers to the handler's, of RAM before it
abbrev pub Answers : Image → Tables → (s : State) → MonitorBlock → (memory : List ℕ) → Outcome → PrivilegedOutcome → Type 0
Answers i t s m memory (Halts n) o = (d : Core) × (o ≡ Halted n d) × LeavesRam i t m m memory d.ram
Answers i t s m memory StopsAtBus o = (d : Core) × (o ≡ Stopped Bus d) × LeavesRam i t m m memory d.ram
Answers i t s m memory StopsUnaligned o = (d : Core) × (o ≡ Stopped Unaligned d) × LeavesRam i t m m memory d.ram
Answers i t s m memory (Resumes b psp after) o = (d : Core) × (o ≡ AtReturn d) × Resuming i t s m b psp after d

pub record ReturnLaws : Type 0 where
  pub stack : StackLaws
  pub steps : StepsAreActs

pub left_of : (i : Image) (t : Tables) (m b : MonitorBlock) (memory : List ℕ) (u : State) → LeavesRam i t m b memory u.ram → IsLeft i t m b memory u
left_of i t m b memory u l = record { is_block = l.is_block; is_memory = l.is_memory; words_stay = l.words_stay }

pub is_before : (a n : ℕ) → a < n + 1 → (a < n) ⊎ (a ≡ n)
is_before a n h = grind (arith, h)

module _ (laws : ReturnLaws) (i : Image) (t : Tables) (p : Placed i t) (s : State) (m : MonitorBlock) (queues : List (List ℕ)) (same_queues : queues ≡ s.queues) where
  -- ---- the return

  module _ (b : MonitorBlock) (psp : ℕ) (after : List ℕ) (d : Core) (r : Resuming i t s m b psp after d) (mode : d.protection.handler ≡ true) (pc : ℕ) (x : Scratch) (stands : Stands by_mpu i d.protection pc (BranchExchange 0 14)) where
    abbrev v : State
    v = at return_on_psp queues pc x d

    abbrev c : CoreRegisters
    c = registers return_on_psp queues pc x d

    o : ℕ
    o = r.offset

    inside : i.ram_base + (r.offset + 32) ≤ i.ram_base + i.ram_size
    inside = let h = r.frame.high in let e = r.frame.ends in let b = p.stack_base in let z = p.stack_size in let a = p.stack.place.1 in omega (arith, h, e, b, z, a)

    words : Words i d.other_sp r.offset 8
    words = record {
      is_at = sym (r.psp_is ∙ r.at);
      aligned = let e = r.psp_is in let f = r.at in let a = r.frame.aligned in let z = p.rules.ram_aligned in omega (arith, e, f, a, z);
      fits = let h = inside in omega (arith, h);
      low = let h = p.rules.ram_highest in let z = p.rules.ram_most in omega (arith, h, z);
    }

    by_permission : (q : ProtectionState) (a : ℕ) → q.handler ≡ false → q.unprivileged ≡ true → permits q.mpu true Read a ≡ true → by_mpu q Read a ≡ true
    unfolding by_mpu
    by_permission q a h u e = rw (h, u) e

    may : May by_mpu (record d.protection { handler = false }) Read d.other_sp 8
    may k lt = by_permission (record d.protection { handler = false }) (d.other_sp + 4 * k) refl r.unprivileged
        (stack_may_read laws.stack i t p b.current b.top r.saved r.is_top r.current_in d.protection.mpu r.control r.regions (d.other_sp + 4 * k)
        (let e = r.psp_is in let f = r.at in let l = r.frame.low in omega (arith, e, f, l))
        (let e = r.psp_is in let f = r.at in let l = r.frame.high in omega (arith, e, f, l, lt)))

    frame_same : words_at 8 r.offset d.ram ≡ frame_in i psp after
    frame_same =
        words_same 8 r.offset d.ram after (λ k lt. r.ram.is_memory.reads 4 (r.offset + 4 * k) (⊎_elim (λ x. inr (omega (arith, x))) (λ x. inl (omega (arith, x, lt))) (apart_from_block i t r.offset b.top p r.frame)))
        ∙ (let z : r.offset ≡ psp - i.ram_base = (let f = r.at in omega (arith, f)) in ap (λ o. words_at 8 o after) z)

    thread : Bool
    thread = is_thread (stacked i psp after status_place)

    asks : act (BranchExchange 0 14) (c.pc + size (BranchExchange 0 14)) c ≡ Exchanges return_on_psp
    unfolding act
    asks = refl

    turn_is : turn by_mpu i v ≡ leaves true (is_thread (stacked i psp after status_place)) true d.other_sp (words_at 8 r.offset d.ram) v
    turn_is =
        returns_turn laws.steps i c d.protection d.status d.ram queues r.offset stands asks mode words may
        ∙ ap (λ ws. leaves true (is_thread (get_or ws 7 0)) true d.other_sp (words_at 8 r.offset d.ram) v) frame_same

    top_is : top i t d.ram ≡ b.top
    top_is = r.ram.is_block.top_is

    in_stack : (a : ℕ) → d.other_sp ≤ a → a < d.other_sp + 32 → LoadKind i t v a
    in_stack a lo hi = OfStack (
      (let e = r.psp_is in let f = r.at in let l = r.frame.low in omega (arith, e, f, l, lo)),
      (let e = r.psp_is in let f = r.at in let l = r.frame.high in let z = top_is in omega (arith, e, f, l, hi, z)),
    )

    in_reach : (a : ℕ) → d.other_sp ≤ a → a < d.other_sp + 32 → LoadFor i t s a
    in_reach a lo hi = r.may_load a (subst (λ n. n ≤ a) r.psp_is lo) (subst (λ n. a < n + 32) r.psp_is hi)

    abbrev OfFrame : (ℕ → Type 0) → Type 0
    OfFrame P = (a : ℕ) → d.other_sp ≤ a → a < d.other_sp + 32 → P a

    loads_from : (P : ℕ → Type 0) → OfFrame P → (n a : ℕ) → d.other_sp ≤ a → a + 4 * n ≤ d.other_sp + 32 → Each (AllBytes P) (words_from a n)
    unfolding words_from
    loads_from P f zero a lo hi = tt
    loads_from P f (suc n) a lo hi =
        let w = words.is_at in
        let h = inside in
        let g = words.low in
        let e : word (a + 4) ≡ a + 4 = omega (arith, w, h, g, hi) in (
          λ k lt. f (a + k) (omega (arith, lo)) (omega (arith, lt, hi)),
          subst (λ a. Each (AllBytes P) (words_from a n)) (sym e) (loads_from P f n (a + 4) (omega (arith, lo)) (omega (arith, hi))),
        )

    -- by the status of the frame
    abbrev U : Bool → Turn
    U th = leaves true th true d.other_sp (words_at 8 r.offset d.ram) v

    loads_by : (P : ℕ → Type 0) → OfFrame P → (th : Bool) → Each (AllBytes P) (U th).loads
    loads_by P f true = loads_from P f 8 d.other_sp (omega arith) (omega arith)
    loads_by P f false = tt

    stores_by : (th : Bool) → (U th).stores ≡ []
    stores_by true = refl
    stores_by false = refl

    quiet_by : (th : Bool) → (U th).event ≡ None
    quiet_by true = refl
    quiet_by false = refl

    shows_by : (th : Bool) → ReturnsBy th i t s (U th).to m b psp after
    shows_by true = record {
      is_left = left_of i t m b after (U true).to r.ram;
      handler = c;
      core = ap (λ a. unstacked true c a (words_at 8 r.offset d.ram)) r.psp_is ∙ ap (λ ws. unstacked true c psp ws) frame_same;
      msp = r.msp;
      thread = refl;
      unprivileged = r.unprivileged;
      control = r.control;
      regions = r.regions;
      unit_stays = r.unit_stays;
      no_fault = r.no_fault;
      enabled = r.enabled;
      queues = same_queues;
      ending = refl;
    }
    shows_by false = (pc, record { ended = record { ending = refl; handler = mode }; is_left = left_of i t m b after (U false).to r.ram })

    loads_are : (P : ℕ → Type 0) → OfFrame P → Each (AllBytes P) (turn by_mpu i v).loads
    loads_are P f = subst (λ u. Each (AllBytes P) u.loads) (sym turn_is) (loads_by P f (is_thread (stacked i psp after status_place)))

    pub handles : Handles i t s v
    handles = record {
      handler = mode;
      quiet = ap (λ u. u.event) turn_is ∙ quiet_by (is_thread (stacked i psp after status_place));
      stores = subst (λ l. Each (AllBytes (StoreKind i t v)) l) (sym (ap (λ u. u.stores) turn_is ∙ stores_by (is_thread (stacked i psp after status_place)))) tt;
      loads = λ closed. loads_are (LoadKind i t v) in_stack;
      loads_for = λ closed. loads_are (LoadFor i t s) in_reach;
    }

    pub shows : Shows i t (Resumes b psp after) s m after (step i v)
    shows = subst (λ u. ReturnsBy (is_thread (stacked i psp after status_place)) i t s u.to m b psp after) (sym turn_is) (shows_by (is_thread (stacked i psp after status_place)))

  -- ---- the run

  module _ (Good : ProtectionState → Type 0) (memory : List ℕ) (from : State) (behind : ℕ) where
    -- to an end, or with one step more to the thread
    pub concluded : (most : ℕ) (h : Outcome) (o : PrivilegedOutcome) → Answers i t s m memory h o → InMode true o → Leads i t s most from (PrivilegedShows by_mpu i Good return_on_psp queues o behind) → Leads i t s (most + 1) from (Shows i t h s m memory)
    concluded most (Halts n) o a mode l =
        let e : PrivilegedShows by_mpu i Good return_on_psp queues (Halted n a.0) behind (run (step i) l.count from) = subst (λ o. PrivilegedShows by_mpu i Good return_on_psp queues o behind (run (step i) l.count from)) a.1 l.holds in
        let is_mode : a.0.protection.handler ≡ true = subst (InMode true) a.1 mode in
        record {
          count = l.count;
          within = let w = l.within in omega (arith, w);
          each = l.each;
          holds = subst (λ u. EndsThere i t m m memory u (HaltEnd n)) (sym e.2) (record { ended = record { ending = refl; handler = is_mode }; is_left = left_of i t m m memory (ended (HaltEnd n) (at return_on_psp queues e.0 e.1 a.0)) a.2 });
        }
    concluded most StopsAtBus o a mode l =
        let e : PrivilegedShows by_mpu i Good return_on_psp queues (Stopped Bus a.0) behind (run (step i) l.count from) = subst (λ o. PrivilegedShows by_mpu i Good return_on_psp queues o behind (run (step i) l.count from)) a.1 l.holds in
        let is_mode : a.0.protection.handler ≡ true = subst (InMode true) a.1 mode in
        record {
          count = l.count;
          within = let w = l.within in omega (arith, w);
          each = l.each;
          holds = (
            e.0,
            subst (λ u. EndsThere i t m m memory u (Stop Bus e.0)) (sym e.2) (record { ended = record { ending = refl; handler = is_mode }; is_left = left_of i t m m memory (ended (Stop Bus e.0) (at return_on_psp queues e.0 e.1 a.0)) a.2 }),
          );
        }
    concluded most StopsUnaligned o a mode l =
        let e : PrivilegedShows by_mpu i Good return_on_psp queues (Stopped Unaligned a.0) behind (run (step i) l.count from) = subst (λ o. PrivilegedShows by_mpu i Good return_on_psp queues o behind (run (step i) l.count from)) a.1 l.holds in
        let is_mode : a.0.protection.handler ≡ true = subst (InMode true) a.1 mode in
        record {
          count = l.count;
          within = let w = l.within in omega (arith, w);
          each = l.each;
          holds = (
            e.0,
            subst (λ u. EndsThere i t m m memory u (Stop Unaligned e.0)) (sym e.2) (record { ended = record { ending = refl; handler = is_mode }; is_left = left_of i t m m memory (ended (Stop Unaligned e.0) (at return_on_psp queues e.0 e.1 a.0)) a.2 }),
          );
        }
    concluded most (Resumes b psp after) o a mode l =
        let e : PrivilegedShows by_mpu i Good return_on_psp queues (AtReturn a.0) behind (run (step i) l.count from) = subst (λ o. PrivilegedShows by_mpu i Good return_on_psp queues o behind (run (step i) l.count from)) a.1 l.holds in
        let is_mode : a.0.protection.handler ≡ true = subst (InMode true) a.1 mode in
        let next : run (step i) (l.count + 1) from ≡ step i (at return_on_psp queues e.0 e.1 a.0) = run-add (step i) l.count 1 from ∙ (once {step = step i} {event = event i} (run (step i) l.count from)).leads ∙ ap (λ u. step i u) e.2 in
        record {
          count = l.count + 1;
          within = let w = l.within in omega (arith, w);
          each = λ k lt. ⊎_elim (λ x. l.each k x) (λ x. subst (λ u. Handles i t s u) (sym (ap (λ n. run (step i) n from) x ∙ e.2)) (handles b psp after a.0 a.2 is_mode e.0 e.1 e.5)) (is_before k l.count lt);
          holds = subst (λ u. Shows i t (Resumes b psp after) s m after u) (sym next) (shows b psp after a.0 a.2 is_mode e.0 e.1 e.5);
        }
