-- Calls of the monitor, from the SVC to the thread's next instruction.
use Rattle.std.proofs.Common.{◌≡◌, ℕ, suc, ◌+◌, ◌-◌, ◌*◌, ◌/◌, ◌%◌, ◌^◌, ◌<◌, ◌≤◌, ◌⊎◌, inl, inr, true, List, length, get_or, refl, sym, ap, ap₂, ◌∙◌, subst, arith}
use Rattle.base_words.specs.declared.conditions.Flags.{Flags}
use Rattle.base_words.specs.Bytes.{read, write_all}
use Rattle.machine_thumb.specs.Table.{svc}
use Rattle.base_ranges.specs.Ranges.{AreApart}
use Rattle.machine_protection.specs.declared.region.Access.TheVariants.{Fetch}
use Rattle.machine_devices.specs.declared.image.Image.{Image}
use Rattle.machine_bus.proofs.Offsets.{flash_at}
use Rattle.machine_model.specs.State.{State, by_mpu}
use Rattle.machine_model.specs.Code.{Lies}
use Rattle.machine_model.specs.Exceptions.{frame_at, frame_of, is_thread, supervisor_call}
use Rattle.machine_model.specs.Shape.{StateFits}
use Rattle.machine_model.specs.RunningCode.{Context, works}
use Rattle.monitor_model.specs.declared.tables.Tables.{Tables}
use Rattle.monitor_model.specs.Records.{lend_size}
use Rattle.monitor_model.specs.Placed.{Placed}
use Rattle.monitor_model.specs.Block.{MonitorBlock, Loan, lent}
use Rattle.monitor_model.specs.Handlers.{at_svc, Leads, Lends, Unlends}
use Rattle.monitor_model.specs.Invariant.{Invariant, InvariantHolds, IsOrderly}
use Rattle.monitor_model.specs.MonitorCode.{MonitorCode}
use Rattle.monitor_model.specs.MonitorLaw.{Shows, MonitorLaw, svc_steps}
use Rattle.monitor_model.specs.Outcomes.{Outcome, Resumes as OutcomeResumes, stacked, status_place}
use Rattle.monitor_model.specs.SvcOutcome.{new_loan, svc_outcome}
use Rattle.monitor_model.specs.Setting.{Setting, setting_of}
use Rattle.monitor_model.specs.Threads.{lend_steps, HasRoom, AtInstr, Resumes}
use Rattle.monitor_model.specs.AccessLaw.{StackHasRoom}
use Rattle.monitor_confined.proofs.EntryWords.{frame, frame_offset, entered_ram}
use Rattle.monitor_sound.proofs.ThreadLaws.{ThreadLaws}
use Rattle.monitor_sound.proofs.Permits.{fetches}
use Rattle.monitor_sound.proofs.Memory.{read_off_all}
use Rattle.monitor_sound.proofs.Outcomes.{lends, unlends}
use Rattle.base_laws.proofs.Multiples.{even_back}
use Rattle.monitor_sound.proofs.Behind.{Behind, behind, pc_is, sp_is}
use Rattle.monitor_sound.proofs.Room.{Pushed, from_base, below_top, back_up, sp_low, open_frame, pushed, svc_turn, is_svc, tells}
use Rattle.monitor_sound.proofs.Places.{room_of, ram_low}
use Rattle.monitor_sound.proofs.Resumed.{resumed}

-- the frame of a call lies in the stack below the thread's pointer
frame_off : (rb st o psp a w : ℕ) → psp + 32 ≡ rb + o → rb ≤ psp → st + 32 ≤ o → (a + w ≤ st) ⊎ (o ≤ a) → AreApart a w (psp - rb) 32
frame_off rb st o psp a w e lo room (inl h) = inl (omega (arith, e, lo, room, h))
frame_off rb st o psp a w e lo room (inr h) = inr (omega (arith, e, lo, h))

module _ (laws : ThreadLaws) (code : MonitorCode) (i : Image) (t : Tables) (p : Placed i t) (law : MonitorLaw i t (code.stub t)) where
  abbrev g : Setting
  g = setting_of code i t

  -- a thread of the invariant with room for a frame, at an SVC that may be fetched
  module _ (m : MonitorBlock) (x : Context) (low : List ℕ) (o lr pc : ℕ) (f : Flags) (ram : List ℕ) (queues : List (List ℕ)) (n : ℕ)
      (v : Invariant i t m x ram) (r : HasRoom g m o) (fits : StateFits i (works x low (i.ram_base + o) lr pc f ram queues)) (lies : Lies i pc (svc n)) (may : by_mpu x.protection Fetch pc ≡ true) where
    abbrev pub at : State
    at = works x low (i.ram_base + o) lr pc f ram queues

    abbrev pub psp : ℕ
    psp = frame_at (i.ram_base + o)

    abbrev pub memory : List ℕ
    memory = (at_svc i at).ram

    pub held : InvariantHolds i t m at
    held = record { inv = v; fits = fits }

    pub room : StackHasRoom i t m at
    room = room_of laws code i t p m x low o lr pc f ram queues r

    pub small : pc + 2 < 2 ^ 32
    small =
        let c = (is_svc laws i t p m at held room refl n lies).1 in
        let z = flash_at i pc c.offset c.is_in_flash in
        let a = z.0 in
        let b = z.1 in
        let high = p.rules.flash_highest in
        let most = p.rules.flash_most in
        omega (arith, a, b, high, most)

    pub words : Pushed i at.core (pc + 2) psp memory
    words = pushed laws i t p m at held room supervisor_call (pc + 2) at.status small

    pub up : psp + 32 ≡ i.ram_base + o
    up = back_up laws i t p m at held room

    pub lowest : t.stack.base ≤ psp
    lowest = from_base laws i t p m at held room

    pub highest : psp + 32 ≤ m.top
    highest = below_top laws i t p m at held room

    pub fits_word : psp + 32 < 2 ^ 32
    fits_word = let a = up in let b = sp_low laws i t p m at held room in omega (arith, a, b)

    pub no_pad : stacked i psp memory status_place / 2 ^ 9 % 2 ≡ 0
    no_pad = (tells laws i t p m at held room psp memory words.status).2

    -- what the call's frame leaves of RAM
    pub reads_off : (w a : ℕ) → (a + w ≤ t.stack.base - i.ram_base) ⊎ (o ≤ a) → read w a memory ≡ read w a ram
    reads_off w a k =
        let fr = frame laws.frames i p.rules at fits (open_frame laws i t p m at held room) in
        let e = entered_ram laws.frames i p.rules at fits (open_frame laws i t p m at held room) supervisor_call (pc + 2) at.status in
        let z = frame_offset laws.frames i p.rules at fits (open_frame laws i t p m at held room) in
        let b = lowest in
        let rl = ram_low i t p in
        let is : memory ≡ write_all 4 (psp - i.ram_base) (frame_of at.core (pc + 2)) ram = e ∙ ap (λ (q : ℕ). write_all 4 q (frame_of at.core (pc + 2)) ram) (sym z) in
        ap (λ (q : List ℕ). read w a q) is ∙ read_off_all w a (psp - i.ram_base) (frame_of at.core (pc + 2)) ram (frame_off i.ram_base (t.stack.base - i.ram_base) o psp a w up (omega (arith, b, rl)) r.low k)

    -- behind the handler, by its outcome
    pub called : (b : MonitorBlock) (q : ℕ) (after : List ℕ) → svc_outcome i t (code.stub t) m psp memory n ≡ OutcomeResumes b q after → is_thread (stacked i q after status_place) ≡ true →
        Behind i t at m (svc_steps n) b q after
    called b q after e th =
        let is = is_svc laws i t p m at held room refl n lies in
        let l : Leads i t at (svc_steps n) (at_svc i at) (Shows i t (svc_outcome i t (code.stub t) m psp memory n) at m memory) = law.svc at m n held refl is.0 is.1 (open_frame laws i t p m at held room) in
        behind laws i t p at m held supervisor_call (pc + 2) (svc_steps n) at.status b q after memory (svc_turn laws i t p m at held room refl n lies may)
        (subst (λ (y : Outcome). Leads i t at (svc_steps n) (at_svc i at) (Shows i t y at m memory)) e l) th

    -- where the block changes and the thread goes on behind the SVC
    pub goes_on : (b : MonitorBlock) (bound : ℕ) → suc (svc_steps n) ≤ bound → IsOrderly t b → svc_outcome i t (code.stub t) m psp memory n ≡ OutcomeResumes b psp memory →
        Resumes g (Invariant i t) bound at b (i.ram_base + o) (pc + 2) o ram queues
    goes_on b bound le ordered e =
        let k = tells laws i t p m at held room psp memory words.status in
        let y = called b psp memory e k.0 in
        resumed laws code i t p at m held (svc_steps n) bound b psp memory y le ordered (i.ram_base + o) (pc + 2) o ram
        (sp_is laws i t p at m held (svc_steps n) b psp memory y k.1 fits_word ∙ up)
        (pc_is laws i t p at m held (svc_steps n) b psp memory y ∙ ap (λ (q : ℕ). q / 2 * 2) words.return_address ∙ even_back pc fits.core.pc_even)
        (λ w a q. reads_off w a q.0) fits.ram_count

  -- ---- lend and unlend

  loan_is : (a n e : ℕ) (l : Loan) → a ≡ l.address → n ≡ l.number → e ≡ l.end → let y : Loan = record { address = a; end = e; number = n } in y ≡ l
  loan_is a n e l x y z = ap (λ (q : ℕ). record { address = q; end = e; number = n }) x ∙ ap (λ (q : ℕ). record { address = l.address; end = q; number = n }) z ∙ ap (λ (q : ℕ). record { address = l.address; end = l.end; number = q }) y

  pub lend : (m : MonitorBlock) (x : Context) (low : List ℕ) (o lr pc : ℕ) (f : Flags) (ram : List ℕ) (queues : List (List ℕ)) (l : Loan) →
      AtInstr g (Invariant i t) m x low o lr pc f ram queues (svc 2) → get_or low 0 0 ≡ l.address → get_or low 1 0 ≡ l.number →
      length m.loans < 32 → l.number < length t.lends → l.address % 4 ≡ 0 → l.end ≡ l.address + get_or t.lends l.number 0 →
      i.ram_base + o ≤ l.address → l.end ≤ m.top →
      Resumes g (Invariant i t) lend_steps (works x low (i.ram_base + o) lr pc f ram queues) (lent m l) (i.ram_base + o) (pc + 2) o ram queues
  lend m x low o lr pc f ram queues l z r0 r1 few known al size from to =
      let may = fetches laws.unit i t p m x ram z.invariant pc z.owned in
      let ws = words m x low o lr pc f ram queues 2 z.invariant z.room z.fits z.lies may in
      let q : ℕ = frame_at (i.ram_base + o) in
      let rm : List ℕ = memory m x low o lr pc f ram queues 2 z.invariant z.room z.fits z.lies may in
      let lo = lowest m x low o lr pc f ram queues 2 z.invariant z.room z.fits z.lies may in
      let hi = highest m x low o lr pc f ram queues 2 z.invariant z.room z.fits z.lies may in
      let u = up m x low o lr pc f ram queues 2 z.invariant z.room z.fits z.lies may in
      let w0 : stacked i q rm 0 ≡ l.address = ws.low 0 (omega arith) ∙ r0 in
      let w1 : stacked i q rm 1 ≡ l.number = ws.low 1 (omega arith) ∙ r1 in
      let end : stacked i q rm 0 + lend_size t (stacked i q rm 1) ≡ l.end = ap₂ (λ (a n : ℕ). a + lend_size t n) w0 w1 ∙ sym size in
      let above : q + 32 ≤ l.address = omega (arith, u, from) in
      let is : new_loan i t (code.stub t) m q rm ≡ l = loan_is (stacked i q rm 0) (stacked i q rm 1) (stacked i q rm 0 + lend_size t (stacked i q rm 1)) l w0 w1 end in
      let e : svc_outcome i t (code.stub t) m q rm 2 ≡ OutcomeResumes (lent m (new_loan i t (code.stub t) m q rm)) q rm =
      lends i t (code.stub t) m q rm lo hi (no_pad m x low o lr pc f ram queues 2 z.invariant z.room z.fits z.lies may) few
      (subst (λ (k : ℕ). k < length t.lends) (sym w1) known) (subst (λ (k : ℕ). k % 4 ≡ 0) (sym w0) al) (subst (λ (k : ℕ). q + 32 ≤ k) (sym w0) above) (subst (λ (k : ℕ). k ≤ m.top) (sym end) to) in
      let s : State = works x low (i.ram_base + o) lr pc f ram queues in
      let ordered = laws.order i t s s m (lent m l) p z.fits.core.sp_aligned z.invariant.orderly (Lends l (record { from_base = lo; below_top = hi }) few known al size above to) in
      goes_on m x low o lr pc f ram queues 2 z.invariant z.room z.fits z.lies may (lent m l) lend_steps (omega arith) ordered (e ∙ ap (λ (y : Loan). OutcomeResumes (lent m y) q rm) is)

  pub unlend : (m : MonitorBlock) (l : Loan) (x : Context) (low : List ℕ) (o lr pc : ℕ) (f : Flags) (ram : List ℕ) (queues : List (List ℕ)) →
      AtInstr g (Invariant i t) (lent m l) x low o lr pc f ram queues (svc 3) → m.mark ≤ length m.loans →
      Resumes g (Invariant i t) lend_steps (works x low (i.ram_base + o) lr pc f ram queues) m (i.ram_base + o) (pc + 2) o ram queues
  unlend m l x low o lr pc f ram queues z marks =
      let n : MonitorBlock = lent m l in
      let may = fetches laws.unit i t p n x ram z.invariant pc z.owned in
      let q : ℕ = frame_at (i.ram_base + o) in
      let rm : List ℕ = memory n x low o lr pc f ram queues 3 z.invariant z.room z.fits z.lies may in
      let lo = lowest n x low o lr pc f ram queues 3 z.invariant z.room z.fits z.lies may in
      let hi = highest n x low o lr pc f ram queues 3 z.invariant z.room z.fits z.lies may in
      let e : svc_outcome i t (code.stub t) n q rm 3 ≡ OutcomeResumes m q rm =
      unlends i t (code.stub t) n q rm lo hi (no_pad n x low o lr pc f ram queues 3 z.invariant z.room z.fits z.lies may) l m.loans refl marks in
      let s : State = works x low (i.ram_base + o) lr pc f ram queues in
      let ordered = laws.order i t s s n m p z.fits.core.sp_aligned z.invariant.orderly (Unlends l m.loans refl marks) in
      goes_on n x low o lr pc f ram queues 3 z.invariant z.room z.fits z.lies may m lend_steps (omega arith) ordered e
