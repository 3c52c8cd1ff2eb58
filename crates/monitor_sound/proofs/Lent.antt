-- Accesses that are in reach by a loan: the unit permits them, or the handler of MemManage makes them.
use Rattle.std.specs.Int.{bit_at}
use Rattle.std.proofs.Common.{◌≡◌, ℕ, zero, suc, ◌+◌, ◌-◌, ◌*◌, ◌/◌, ◌%◌, ◌^◌, ◌<◌, ◌≤◌, ◌⊎◌, inl, inr, Bool, true, false, ◌&&◌, List, length, get_or, set, None, nat_eq, refl, sym, ap, ap₂, ◌∙◌, subst, arith}
use Rattle.std.proofs.lemmas.Bool.{false≢true}
use Rattle.std.proofs.lemmas.Bool.Decides.{nat_tests}
use Rattle.base_words.specs.declared.conditions.Flags.{Flags}
use Rattle.base_words.specs.Arithmetic.{word}
use Rattle.base_words.specs.Bytes.{read, write, write_all}
use Rattle.base_words.specs.Runs.{run}
use Rattle.base_words.proofs.Bytes.{length-write, read_fits}
use Rattle.base_ranges.specs.Ranges.{AreApart}
use Rattle.machine_thumb.specs.declared.table.Instr.{Instr}
use Rattle.machine_thumb.specs.declared.table.Instr.TheVariants.{TransferImmediate}
use Rattle.machine_thumb.specs.Table.{encode}
use Rattle.machine_protection.specs.Registers.{Registers}
use Rattle.machine_protection.specs.declared.region.Access.TheVariants.{Read, Write}
use Rattle.machine_devices.specs.declared.image.Image.{Image}
use Rattle.machine_devices.specs.Rules.{block_size}
use Rattle.machine_bus.specs.Locations.{InRam, location}
use Rattle.machine_bus.proofs.Offsets.{in_ram, flash_at}
use Rattle.machine_model.specs.declared.state.CoreRegisters.{CoreRegisters}
use Rattle.machine_model.specs.declared.state.ProtectionState.{ProtectionState}
use Rattle.machine_model.specs.declared.state.FaultStatus.{FaultStatus}
use Rattle.machine_model.specs.State.{State, PermissionTest, by_mpu}
use Rattle.machine_model.specs.Act.{Act, Loads, Stores}
use Rattle.machine_model.specs.AccessLaw.{free}
use Rattle.machine_model.specs.Instructions.{act}
use Rattle.machine_model.specs.Perform.{perform}
use Rattle.machine_model.specs.Exceptions.{frame_at, frame_of, entered, mem_manage, flags_of, stacked_status}
use Rattle.machine_model.specs.Code.{HoldsHalf, Lies, Stands, StepsQuietly}
use Rattle.machine_model.specs.Step.{turn, step, event}
use Rattle.machine_model.specs.RunningCode.{works, IsStore, IsLoad}
use Rattle.monitor_model.specs.declared.tables.Tables.{Tables}
use Rattle.monitor_model.specs.Records.{compartment_at}
use Rattle.monitor_model.specs.Placed.{Placed}
use Rattle.monitor_model.specs.Block.{MonitorBlock, Loan}
use Rattle.monitor_model.specs.BlockWords.{words_end}
use Rattle.monitor_model.specs.Invariant.{IsLoan, InvariantHolds, context_of}
use Rattle.monitor_model.specs.Handlers.{at_memfault, IsFault, Leads}
use Rattle.monitor_model.specs.Outcomes.{Outcome, Resumes, stacked, with_stacked, moved_on}
use Rattle.monitor_model.specs.FaultOutcome.{is_lent, address, value, fault_outcome}
use Rattle.monitor_model.specs.MonitorLaw.{Shows, MonitorLaw, memfault_steps}
use Rattle.monitor_model.specs.Setting.{has_code, has_loan, has_read_loan}
use Rattle.monitor_model.specs.AccessLaw.{IsLentWhole, IsAlike, HasEffect}
use Rattle.monitor_confined.proofs.EntryWords.{frame, frame_offset, entered_ram, entered_length}
use Rattle.monitor_sound.proofs.ThreadLaws.{ThreadLaws, live_is, performed_at}
use Rattle.monitor_sound.proofs.Direct.{free_fetch, by_lead}
use Rattle.monitor_sound.proofs.Permits.{fetches}
use Rattle.monitor_sound.proofs.Memory.{read_off, read_off_all, write_past}
use Rattle.monitor_sound.proofs.Outcomes.{IsStoreForm, IsLoadForm, IsWidth, IsCovered, store_form, load_form, covered, half_of, stores, loads}
use Rattle.base_laws.proofs.Multiples.{even_back}
use Rattle.monitor_sound.proofs.Behind.{Behind, behind, pc_is, sp_is, lr_is, flags_are, on_psp, other_is, low_at, r12_is, holds_again}
use Rattle.monitor_sound.proofs.Room.{Pushed, stack_places, sp_low, from_base, below_top, back_up, open_frame, pushed, store_refused, load_refused, tells}
use Rattle.monitor_sound.proofs.Frames.{off_frame, moved, with_first}
use Rattle.machine_model.proofs.Frames.{core_of}

-- ---- parts of states

join_core : (low high : List ℕ) (sp other : ℕ) (psp : Bool) (lr pc : ℕ) (f : Flags) (sp' other' : ℕ) (psp' : Bool) (lr' pc' : ℕ) (f' : Flags) →
    sp ≡ sp' → other ≡ other' → psp ≡ psp' → lr ≡ lr' → pc ≡ pc' → f ≡ f' → core_of low high sp other psp lr pc f ≡ core_of low high sp' other' psp' lr' pc' f'
join_core low high sp other psp lr pc f sp' other' psp' lr' pc' f' a b c d e g = rw (a, b, c, d, e, g) refl

same_core : (c d : CoreRegisters) → c.sp ≡ d.sp → c.other_sp ≡ d.other_sp → c.on_psp ≡ d.on_psp → c.lr ≡ d.lr → c.pc ≡ d.pc → c.flags ≡ d.flags → c ≡ record d { low = c.low; high = c.high }
same_core c d a b p l q f = join_core c.low c.high c.sp c.other_sp c.on_psp c.lr c.pc c.flags d.sp d.other_sp d.on_psp d.lr d.pc d.flags a b p l q f

join_protection : (h u : Bool) (m : Registers) (h' u' : Bool) (m' : Registers) → h ≡ h' → u ≡ u' → m ≡ m' → let x : ProtectionState = record { handler = h; unprivileged = u; mpu = m } in let y : ProtectionState = record { handler = h'; unprivileged = u'; mpu = m' } in x ≡ y
join_protection h u m h' u' m' a b c = rw (a, b, c) refl

join_status : (s c s' c' a : ℕ) → s ≡ s' → c ≡ c' → let x : FaultStatus = record { shcsr = s; cfsr = c; mmfar = a } in let y : FaultStatus = record { shcsr = s'; cfsr = c'; mmfar = a } in x ≡ y
join_status s c s' c' a p q = rw (p, q) refl

alike_self : (i : Image) (t : Tables) (v : State) → IsAlike i t v v
alike_self i t v = record {
  low = λ k lt. refl;
  r12 = refl;
  rest = refl;
  protection = refl;
  status = refl;
  ram = λ w a lo x y. refl;
  as_long = refl;
  queues = refl;
  ending = refl;
}

-- a range off the stack below a pointer is off the frame there
off_below : (rb base psp sp a w : ℕ) → rb ≤ base → base ≤ psp → psp + 32 ≡ sp → rb ≤ a → (a + w ≤ base) ⊎ (sp ≤ a) → AreApart (a - rb) w (psp - rb) 32
off_below rb base psp sp a w x y z lo (inl h) = inl (omega (arith, x, y, lo, h))
off_below rb base psp sp a w x y z lo (inr h) = inr (omega (arith, x, y, z, lo, h))

off_words : (rb mon a w : ℕ) → rb ≤ a → rb ≤ mon → (a + w ≤ mon + words_end) ⊎ (mon + block_size ≤ a) → (a - rb + w ≤ mon - rb + words_end) ⊎ (mon - rb + block_size ≤ a - rb)
off_words rb mon a w lo lb (inl h) = inl (omega (arith, lo, lb, h))
off_words rb mon a w lo lb (inr h) = inr (omega (arith, lo, lb, h))

off_frame_at : (rb psp sp a w : ℕ) → psp + 32 ≡ sp → rb ≤ a → rb ≤ psp → (a + w + 32 ≤ sp) ⊎ (sp ≤ a) → AreApart (a - rb) w (psp - rb) 32
off_frame_at rb psp sp a w z lo lp (inl h) = inl (omega (arith, z, lo, lp, h))
off_frame_at rb psp sp a w z lo lp (inr h) = inr (omega (arith, z, lo, lp, h))

-- the core and RAM that the instruction alone leads to
abbrev reached : State → (low ram : List ℕ) → State
reached s low ram = record s { core = record s.core { low = low; pc = s.core.pc + 2 }; ram = ram }

module _ (laws : ThreadLaws) (i : Image) (t : Tables) (p : Placed i t) (m : MonitorBlock) (s : State) (h : InvariantHolds i t m s) (live : s.ending ≡ None) where
  -- ---- behind the handler, with the block as it was

  module _ (has : ℕ → Bool) (w : ℕ) (lent : IsLentWhole i t m has w s) where
    abbrev psp : ℕ
    psp = frame_at s.core.sp

    ram_below : i.ram_base ≤ psp
    ram_below = let x = (stack_places laws i t p m s h lent.room).0 in let y = from_base laws i t p m s h lent.room in omega (arith, x, y)

    alike : (low memory ram : List ℕ) (b : Behind i t s m memfault_steps m psp memory) → Pushed i (record s.core { low = low }) (s.core.pc + 2) psp memory →
        ((n a : ℕ) → AreApart a n (psp - i.ram_base) 32 → read n a memory ≡ read n a ram) → length ram ≡ i.ram_size → IsAlike i t (reached s low ram) (run (step i) b.count s)
    alike low memory ram b words same long =
        let u : State = run (step i) b.count s in
        let room = lent.room in
        let up = back_up laws i t p m s h room in
        let z = sp_low laws i t p m s h room in
        let k = tells laws i t p m s h room psp memory words.status in
        let sp : u.core.sp ≡ s.core.sp = sp_is laws i t p s m h memfault_steps m psp memory b k.1 (omega (arith, up, z)) ∙ up in
        let pc : u.core.pc ≡ s.core.pc + 2 = pc_is laws i t p s m h memfault_steps m psp memory b ∙ ap (λ (n : ℕ). n / 2 * 2) words.return_address ∙ even_back s.core.pc h.fits.core.pc_even in
        let flags : u.core.flags ≡ s.core.flags = flags_are laws i t p s m h memfault_steps m psp memory b ∙ ap (λ (n : ℕ). flags_of n) words.status ∙ (laws.status s.core.flags false).flags in
        let base = stack_places laws i t p m s h room in
        let inside = p.block_inside.0 in
        record {
          low = λ k lt. low_at laws i t p s m h memfault_steps m psp memory b k lt ∙ words.low k lt;
          r12 = r12_is laws i t p s m h memfault_steps m psp memory b ∙ words.r12;
          rest = same_core u.core (reached s low ram).core sp (other_is laws i t p s m h memfault_steps m psp memory b ∙ sym h.inv.msp) (on_psp laws i t p s m h memfault_steps m psp memory b ∙ sym h.inv.on_psp)
              (lr_is laws i t p s m h memfault_steps m psp memory b ∙ words.link) pc flags;
          protection = join_protection u.protection.handler u.protection.unprivileged u.protection.mpu s.protection.handler s.protection.unprivileged s.protection.mpu
              (b.goes.thread ∙ sym h.inv.thread) (b.goes.unprivileged ∙ sym h.inv.unprivileged) (b.goes.unit_stays refl);
          status = join_status u.status.shcsr u.status.cfsr s.status.shcsr s.status.cfsr u.status.mmfar b.goes.enabled (b.goes.no_fault ∙ sym h.inv.no_fault);
          ram = λ n a lo x y.
              (b.goes.is_left.words_stay refl).reads n (a - i.ram_base) (off_words i.ram_base t.monitor a n lo inside y)
              ∙ same n (a - i.ram_base) (off_below i.ram_base t.stack.base psp s.core.sp a n base.0 (from_base laws i t p m s h room) up lo x);
          as_long = b.fits.ram_count ∙ sym long;
          queues = b.goes.queues;
          ending = b.goes.ending ∙ sym live;
        }

    effect : (low memory ram : List ℕ) (v : State) → v ≡ reached s low ram → (b : Behind i t s m memfault_steps m psp memory) → Pushed i (record s.core { low = low }) (s.core.pc + 2) psp memory →
        ((n a : ℕ) → AreApart a n (psp - i.ram_base) 32 → read n a memory ≡ read n a ram) → length ram ≡ i.ram_size → (turn free i s).to ≡ v → HasEffect i t m s
    effect low memory ram v is b words same long leads =
        let le = b.within in
        record {
          count = b.count;
          within = omega (arith, le);
          quiet = b.quiet;
          alike = subst (λ (x : State). IsAlike i t x (run (step i) b.count s)) (sym (leads ∙ is)) (alike low memory ram b words same long);
          holds = holds_again laws i t p s m h memfault_steps m psp memory b h.inv.orderly;
        }

  -- ---- one step, where the unit permits the access

  one_step : (v : State) → v.protection ≡ s.protection → v.ending ≡ None → (turn free i s).to ≡ v → step i s ≡ v → event i s ≡ None → HasEffect i t m s
  unfolding run
  one_step v same on alone with_unit silent = record {
    count = 1;
    within = omega arith;
    quiet = once;
    alike = subst (λ (x : State). IsAlike i t (turn free i s).to x) (alone ∙ sym with_unit) (alike_self i t (turn free i s).to);
    holds = by_lead laws i t p m s h live (turn by_mpu i s) refl (ap (λ (x : State). x.protection) with_unit ∙ same) (ap (λ (x : State). x.ending) with_unit ∙ on) (laws.lead i t m s p h live);
  }
    where
      once : (k : ℕ) → k < 1 → event i (run (step i) k s) ≡ None
      once zero lt = silent
      once (suc k) lt = absurd (omega (arith, lt))

  -- ---- the address

  module _ (op : ℕ) (lies : Lies i s.core.pc (TransferImmediate op 0 1 0)) (code : has_code t m.current s.core.pc ≡ true) where
    abbrev transfer : Instr
    transfer = TransferImmediate op 0 1 0

    abbrev at : ℕ
    at = get_or s.core.low 1 0

    pub stands : Stands by_mpu i s.protection s.core.pc transfer
    unfolding encode
    stands = record { lies = lies; may_fetch = fetches laws.unit i t p m (context_of s) s.ram h.inv s.core.pc code }

    free_stands : Stands free i s.protection s.core.pc transfer
    free_stands = record { lies = lies; may_fetch = free_fetch s.protection s.core.pc (encode transfer) }

    held : HoldsHalf i s.core.pc (half_of op)
    unfolding encode
    held = lies.code

    -- of a loan that holds the access
    module _ (has : ℕ → Bool) (w : ℕ) (lent : IsLentWhole i t m has w s) (l : Loan) (placed : IsLoan t l) (from : l.address ≤ at) (to : at + w ≤ l.end) (some : 0 < w) where
      abbrev c : ℕ
      c = at - i.ram_base

      in_stack : (i.ram_base ≤ at) × (at + w ≤ i.ram_base + i.ram_size) × (at < 0xE0000000) × (t.stack.base ≤ at) × (at + w ≤ t.stack.base + t.stack.size)
      in_stack =
          let z = stack_places laws i t p m s h lent.room in
          let a = z.0 in
          let b = z.1 in
          let d = z.2 in
          let x = placed.from_base in
          let y = placed.below_end in
          (omega (arith, a, x, from), omega (arith, b, y, to), omega (arith, b, d, y, to, some), omega (arith, x, from), omega (arith, y, to))

      is_there : location i at ≡ InRam c
      is_there =
          let z = in_stack in
          let lo = z.0 in
          let hi = z.1 in
          in_ram i at c (omega (arith, lo)) (omega (arith, lo, hi, some))

      is_word : word (at + w * 0) ≡ at
      is_word =
          let z = in_stack in
          let lt = z.2 in
          let e : at + w * 0 ≡ at = omega arith in
          let f : word at ≡ at = omega (arith, lt) in
          ap word e ∙ f

      -- the pushed frame, off the access
      abbrev status : FaultStatus
      status = record s.status { cfsr = 0x82; mmfar = at }

      abbrev from_ram : List ℕ
      from_ram = (at_memfault i status s).ram

      is_fault : IsFault i s status
      is_fault = inr (at, half_of op, (let z = in_stack in let lt = z.2 in omega (arith, lt)), held, refl)

      words : Pushed i s.core s.core.pc (psp has w lent) from_ram
      words = pushed laws i t p m s h lent.room mem_manage s.core.pc status h.fits.core.pc_word

      off_access : AreApart c w (psp has w lent - i.ram_base) 32
      off_access = off_frame_at i.ram_base (psp has w lent) s.core.sp at w (back_up laws i t p m s h lent.room) in_stack.0 (ram_below has w lent) lent.off_frame

      long : psp has w lent - i.ram_base + 32 ≤ length from_ram
      long =
          let f = frame laws.frames i p.rules s h.fits (open_frame laws i t p m s h lent.room) in
          let e = frame_offset laws.frames i p.rules s h.fits (open_frame laws i t p m s h lent.room) in
          let fit = f.frame.words.fits in
          let z = entered_length laws.frames i p.rules s h.fits (open_frame laws i t p m s h lent.room) mem_manage s.core.pc status in
          subst (λ (n : ℕ). psp has w lent - i.ram_base + 32 ≤ n) (sym z) (subst (λ (n : ℕ). n + 32 ≤ i.ram_size) (sym e) fit)

      is_pushed : from_ram ≡ write_all 4 (psp has w lent - i.ram_base) (frame_of s.core s.core.pc) s.ram
      is_pushed =
          entered_ram laws.frames i p.rules s h.fits (open_frame laws i t p m s h lent.room) mem_manage s.core.pc status
          ∙ ap (λ (o : ℕ). write_all 4 o (frame_of s.core s.core.pc) s.ram) (sym (frame_offset laws.frames i p.rules s h.fits (open_frame laws i t p m s h lent.room)))

      small : s.core.pc + 2 < 2 ^ 32
      small =
          let f = flash_at i s.core.pc held.offset held.is_in_flash in
          let a = f.0 in
          let b = f.1 in
          let x = p.rules.flash_highest in
          let y = p.rules.flash_most in
          omega (arith, a, b, x, y)

      -- what RAM has off the frame
      reads_off : (n a : ℕ) → AreApart a n (psp has w lent - i.ram_base) 32 → read n a from_ram ≡ read n a s.ram
      reads_off n a o = ap (λ (r : List ℕ). read n a r) is_pushed ∙ read_off_all n a (psp has w lent - i.ram_base) (frame_of s.core s.core.pc) s.ram o

      moved_off : (memory : List ℕ) (n a : ℕ) → AreApart a n (psp has w lent - i.ram_base) 32 → read n a (moved_on i (psp has w lent) memory) ≡ read n a memory
      moved_off memory n a o = read_off n a 4 (psp has w lent - i.ram_base + 24) (stacked i (psp has w lent) memory 6 + 2) memory (inner n a o)
        where
          inner : (n a : ℕ) → AreApart a n (psp has w lent - i.ram_base) 32 → AreApart a n (psp has w lent - i.ram_base + 24) 4
          inner n a (inl x) = inl (omega (arith, x))
          inner n a (inr x) = inr (omega (arith, x))

      -- the thread behind the handler
      returned : (stub : ℕ) → MonitorLaw i t stub → (memory : List ℕ) → turn by_mpu i s ≡ entered true i mem_manage s.core.pc status s →
          fault_outcome i t m (psp has w lent) from_ram 0x82 (half_of op) ≡ Resumes m (psp has w lent) memory → stacked i (psp has w lent) memory 7 ≡ stacked_status s.core.flags false →
          Behind i t s m memfault_steps m (psp has w lent) memory
      returned stub law memory e o st =
          let l : Leads i t s memfault_steps (at_memfault i status s) (Shows i t (fault_outcome i t m (psp has w lent) from_ram 0x82 (half_of op)) s m from_ram) =
          law.memfault s m status (half_of op) h live is_fault (λ q. held) (open_frame laws i t p m s h lent.room) in
          behind laws i t p s m h mem_manage s.core.pc memfault_steps status m (psp has w lent) memory from_ram e
          (subst (λ (x : Outcome). Leads i t s memfault_steps (at_memfault i status s) (Shows i t x s m from_ram)) o l)
          (tells laws i t p m s h lent.room (psp has w lent) memory st).0

module _ (laws : ThreadLaws) (i : Image) (t : Tables) (p : Placed i t) (stub : ℕ) (law : MonitorLaw i t stub) (m : MonitorBlock) (s : State) (h : InvariantHolds i t m s) (live : s.ending ≡ None) where
  abbrev pub working : State
  working = works (context_of s) s.core.low s.core.sp s.core.lr s.core.pc s.core.flags s.ram s.queues

  steps_here : (j : PermissionTest) (v : State) → StepsQuietly j i working v → StepsQuietly j i s v
  steps_here j v x = subst (λ (z : State). StepsQuietly j i z v) (sym (live_is s live)) x

  is_reached : (low ram : List ℕ) → works (context_of s) low s.core.sp s.core.lr (s.core.pc + 2) s.core.flags ram s.queues ≡ reached s low ram
  is_reached low ram = sym (live_is (reached s low ram) live)

  one_of : (n k : ℕ) → nat_eq (bit_at n k) 1 ≡ true → bit_at n k ≡ 1
  one_of n k e = search (nat_tests, arith)

  store_width : (op w : ℕ) → IsStoreForm op w → IsWidth w
  store_width op w (inl f) = inl f.1
  store_width op w (inr (inl f)) = inr (inl f.1)
  store_width op w (inr (inr f)) = inr (inr f.1)

  load_width : (op w : ℕ) → IsLoadForm op w → IsWidth w
  load_width op w (inl f) = inl f.1
  load_width op w (inr (inl f)) = inr (inl f.1)
  load_width op w (inr (inr f)) = inr (inr f.1)

  some_width : (w : ℕ) → IsWidth w → 0 < w
  some_width w (inl e) = omega (arith, e)
  some_width w (inr (inl e)) = omega (arith, e)
  some_width w (inr (inr e)) = omega (arith, e)

  -- a number of so many bytes is a word
  fits_word : (w v : ℕ) → IsWidth w → v < 256 ^ w → v < 2 ^ 32
  fits_word w v (inl e) lt = let z = subst (λ (n : ℕ). v < 256 ^ n) e lt in omega (arith, z)
  fits_word w v (inr (inl e)) lt = let z = subst (λ (n : ℕ). v < 256 ^ n) e lt in omega (arith, z)
  fits_word w v (inr (inr e)) lt = let z = subst (λ (n : ℕ). v < 256 ^ n) e lt in omega (arith, z)

  module _ (op w : ℕ) (is : IsStore op w) (lies : Lies i s.core.pc (TransferImmediate op 0 1 0)) (code : has_code t m.current s.core.pc ≡ true) (lent : IsLentWhole i t m (has_loan t m.current) w s) where
    store_form_is : IsStoreForm op w
    store_form_is = store_form op w s.core lies.in_table.0 is

    store_some : 0 < w
    store_some = some_width w (store_width op w store_form_is)

    store_loan : IsCovered t (has_loan t m.current) (compartment_at t m.current).mask (get_or s.core.low 1 0) w m.loans
    store_loan =
        let z = store_some in
        covered t (has_loan t m.current) (compartment_at t m.current).mask (get_or s.core.low 1 0) w m.loans (λ n e. one_of (compartment_at t m.current).mask n e) (store_width op w store_form_is) lent.aligned h.inv.orderly.loans (lent.bytes (w - 1) (omega (arith, z)))

    abbrev pub a : ℕ
    a = get_or s.core.low 1 0

    abbrev pub r0 : ℕ
    r0 = get_or s.core.low 0 0

    abbrev pub stored_ram : List ℕ
    stored_ram = write w (a - i.ram_base) r0 s.ram

    abbrev pub stored_state : State
    stored_state = works (context_of s) s.core.low s.core.sp s.core.lr (s.core.pc + 2) s.core.flags stored_ram s.queues

    store_step : (j : PermissionTest) → Stands j i s.protection s.core.pc (TransferImmediate op 0 1 0) → j s.protection Write a ≡ true → StepsQuietly j i s stored_state
    store_step j st ok =
        let l = store_loan in
        let z = in_stack laws i t p m s h live op lies code (has_loan t m.current) w lent l.loan l.placed l.from l.to store_some in
        steps_here j stored_state
        ((laws.transfers j i (context_of s) s.core.low s.core.sp s.core.lr s.core.pc s.core.flags s.ram s.queues).store_ram op w 0 1 0 a (a - i.ram_base) is
        (is_word laws i t p m s h live op lies code (has_loan t m.current) w lent l.loan l.placed l.from l.to store_some) lent.aligned z.2 ok
        (is_there laws i t p m s h live op lies code (has_loan t m.current) w lent l.loan l.placed l.from l.to store_some) st)

    pub alone : (turn free i s).to ≡ stored_state
    alone = (store_step free (free_stands laws i t p m s h live op lies code) refl).leads

    store_by_handler : by_mpu s.protection Write a ≡ false → HasEffect i t m s
    store_by_handler nope =
        let has : ℕ → Bool = has_loan t m.current in
        let l = store_loan in
        let some = store_some in
        let z = in_stack laws i t p m s h live op lies code has w lent l.loan l.placed l.from l.to some in
        let q : ℕ = frame_at s.core.sp in
        let ram : List ℕ = from_ram laws i t p m s h live op lies code has w lent l.loan l.placed l.from l.to some in
        let u : FaultStatus = status laws i t p m s h live op lies code has w lent l.loan l.placed l.from l.to some in
        let ws = words laws i t p m s h live op lies code has w lent l.loan l.placed l.from l.to some in
        let off = off_access laws i t p m s h live op lies code has w lent l.loan l.placed l.from l.to some in
        let room = lent.room in
        let asks : act (TransferImmediate op 0 1 0) (s.core.pc + 2) s.core ≡ Stores w (word (a + w * 0)) r0 (record s.core { pc = s.core.pc + 2 }) =
        (laws.transfers by_mpu i (context_of s) s.core.low s.core.sp s.core.lr s.core.pc s.core.flags s.ram s.queues).store_act op w 0 1 0 is in
        let asks_at : act (TransferImmediate op 0 1 0) (s.core.pc + 2) s.core ≡ Stores w a r0 (record s.core { pc = s.core.pc + 2 }) =
        asks ∙ ap (λ (n : ℕ). Stores w n r0 (record s.core { pc = s.core.pc + 2 })) (is_word laws i t p m s h live op lies code has w lent l.loan l.placed l.from l.to some) in
        let faults : turn by_mpu i s ≡ entered true i mem_manage s.core.pc u s =
        performed_at laws.performed by_mpu i s (TransferImmediate op 0 1 0) live (stands laws i t p m s h live op lies code)
        ∙ ap (λ (y : Act). perform by_mpu i y s) asks_at ∙ store_refused laws i t p m s h room live w a r0 (record s.core { pc = s.core.pc + 2 }) lent.aligned z.2 nope in
        let written : List ℕ = write w (a - i.ram_base) r0 ram in
        let is_written : write w (address i t m q ram - i.ram_base) (value i t m q ram) ram ≡ written = ap₂ (λ (x y : ℕ). write w (x - i.ram_base) y ram) (ws.low 1 (omega arith)) (ws.low 0 (omega arith)) in
        let covers : is_lent (compartment_at t m.current).mask (address i t m q ram) w m.loans ≡ true =
        ap (λ (n : ℕ). is_lent (compartment_at t m.current).mask n w m.loans) (ws.low 1 (omega arith)) ∙ l.is_lent in
        let aligned : address i t m q ram % w ≡ 0 = ap (λ (n : ℕ). n % w) (ws.low 1 (omega arith)) ∙ lent.aligned in
        let pad = (tells laws i t p m s h room q ram ws.status).2 in
        let outcome : fault_outcome i t m q ram 0x82 (half_of op) ≡ Resumes m q (moved_on i q written) =
        stores i t stub m q ram (from_base laws i t p m s h room) (below_top laws i t p m s h room) pad op w store_form_is covers aligned ∙ ap (λ (x : List ℕ). Resumes m q (moved_on i q x)) is_written in
        let room_for : q - i.ram_base + 32 ≤ length written = subst (λ (n : ℕ). q - i.ram_base + 32 ≤ n) (sym (length-write w (a - i.ram_base) r0 ram)) (long laws i t p m s h live op lies code has w lent l.loan l.placed l.from l.to some) in
        let after : Pushed i s.core (s.core.pc + 2) q (moved_on i q written) =
        moved i s.core s.core.pc q written (small laws i t p m s h live op lies code has w lent l.loan l.placed l.from l.to some) room_for (off_frame i s.core s.core.pc q ram w (a - i.ram_base) r0 off ws) in
        let commutes : written ≡ write_all 4 (q - i.ram_base) (frame_of s.core s.core.pc) stored_ram =
        ap (λ (x : List ℕ). write w (a - i.ram_base) r0 x) (is_pushed laws i t p m s h live op lies code has w lent l.loan l.placed l.from l.to some)
        ∙ write_past w (a - i.ram_base) r0 (q - i.ram_base) (frame_of s.core s.core.pc) s.ram off in
        effect laws i t p m s h live has w lent s.core.low (moved_on i q written) stored_ram stored_state (is_reached s.core.low stored_ram)
        (returned laws i t p m s h live op lies code has w lent l.loan l.placed l.from l.to some stub law (moved_on i q written) faults outcome after.status) after
        (λ n b o. moved_off laws i t p m s h live op lies code has w lent l.loan l.placed l.from l.to some written n b o ∙ ap (λ (x : List ℕ). read n b x) commutes
        ∙ read_off_all n b (q - i.ram_base) (frame_of s.core s.core.pc) stored_ram o)
        (length-write w (a - i.ram_base) r0 s.ram ∙ h.inv.as_long) alone

    pub lent_store : HasEffect i t m s
    lent_store = by (by_mpu s.protection Write a) refl
      where
        by : (b : Bool) → by_mpu s.protection Write a ≡ b → HasEffect i t m s
        by true ok = let x = store_step by_mpu (stands laws i t p m s h live op lies code) ok in one_step laws i t p m s h live stored_state refl refl alone x.leads x.quiet
        by false nope = store_by_handler nope

  module _ (op w : ℕ) (is : IsLoad op w) (lies : Lies i s.core.pc (TransferImmediate op 0 1 0)) (code : has_code t m.current s.core.pc ≡ true) (lent : IsLentWhole i t m (has_read_loan i t m.current) w s) where
    first : (x y : Bool) → (x && y) ≡ true → x ≡ true
    first true y e = refl
    first false y e = absurd (false≢true e)

    second : (x y : Bool) → (x && y) ≡ true → y ≡ true
    second true y e = e
    second false y e = absurd (false≢true e)

    inner : (o n b : ℕ) → AreApart b n o 32 → AreApart b n (o + 4 * 0) 4
    inner o n b (inl x) = inl (omega (arith, x))
    inner o n b (inr x) = inr (omega (arith, x))

    load_form_is : IsLoadForm op w
    load_form_is = load_form op w s.core lies.in_table.0 is

    load_some : 0 < w
    load_some = some_width w (load_width op w load_form_is)

    load_loan : IsCovered t (has_read_loan i t m.current) (compartment_at t m.current).reads (get_or s.core.low 1 0) w m.loans
    load_loan =
        let z = load_some in
        covered t (has_read_loan i t m.current) (compartment_at t m.current).reads (get_or s.core.low 1 0) w m.loans (λ n e. one_of (compartment_at t m.current).reads n (second i.closed (nat_eq (bit_at (compartment_at t m.current).reads n) 1) e)) (load_width op w load_form_is) lent.aligned h.inv.orderly.loans (lent.bytes (w - 1) (omega (arith, z)))

    abbrev pub la : ℕ
    la = get_or s.core.low 1 0

    abbrev pub got : ℕ
    got = read w (la - i.ram_base) s.ram

    abbrev pub loaded_low : List ℕ
    loaded_low = set s.core.low 0 got

    abbrev pub loaded_state : State
    loaded_state = works (context_of s) loaded_low s.core.sp s.core.lr (s.core.pc + 2) s.core.flags s.ram s.queues

    load_step : (j : PermissionTest) → Stands j i s.protection s.core.pc (TransferImmediate op 0 1 0) → j s.protection Read la ≡ true → StepsQuietly j i s loaded_state
    load_step j st ok =
        let l = load_loan in
        let z = in_stack laws i t p m s h live op lies code (has_read_loan i t m.current) w lent l.loan l.placed l.from l.to load_some in
        steps_here j loaded_state
        ((laws.transfers j i (context_of s) s.core.low s.core.sp s.core.lr s.core.pc s.core.flags s.ram s.queues).load_ram op w 0 1 0 la (la - i.ram_base) is
        (is_word laws i t p m s h live op lies code (has_read_loan i t m.current) w lent l.loan l.placed l.from l.to load_some) lent.aligned z.2 ok
        (is_there laws i t p m s h live op lies code (has_read_loan i t m.current) w lent l.loan l.placed l.from l.to load_some) st)

    pub load_alone : (turn free i s).to ≡ loaded_state
    load_alone = (load_step free (free_stands laws i t p m s h live op lies code) refl).leads

    load_by_handler : by_mpu s.protection Read la ≡ false → HasEffect i t m s
    load_by_handler nope =
        let has : ℕ → Bool = has_read_loan i t m.current in
        let l = load_loan in
        let some = load_some in
        let z = in_stack laws i t p m s h live op lies code has w lent l.loan l.placed l.from l.to some in
        let q : ℕ = frame_at s.core.sp in
        let ram : List ℕ = from_ram laws i t p m s h live op lies code has w lent l.loan l.placed l.from l.to some in
        let u : FaultStatus = status laws i t p m s h live op lies code has w lent l.loan l.placed l.from l.to some in
        let ws = words laws i t p m s h live op lies code has w lent l.loan l.placed l.from l.to some in
        let off = off_access laws i t p m s h live op lies code has w lent l.loan l.placed l.from l.to some in
        let room = lent.room in
        let go : ℕ → CoreRegisters = λ (u : ℕ). record s.core { low = set s.core.low 0 u; pc = s.core.pc + 2 } in
        let asks : act (TransferImmediate op 0 1 0) (s.core.pc + 2) s.core ≡ Loads w (word (la + w * 0)) go =
        (laws.transfers by_mpu i (context_of s) s.core.low s.core.sp s.core.lr s.core.pc s.core.flags s.ram s.queues).load_act op w 0 1 0 is in
        let asks_at : act (TransferImmediate op 0 1 0) (s.core.pc + 2) s.core ≡ Loads w la go =
        asks ∙ ap (λ (n : ℕ). Loads w n go) (is_word laws i t p m s h live op lies code has w lent l.loan l.placed l.from l.to some) in
        let faults : turn by_mpu i s ≡ entered true i mem_manage s.core.pc u s =
        performed_at laws.performed by_mpu i s (TransferImmediate op 0 1 0) live (stands laws i t p m s h live op lies code)
        ∙ ap (λ (y : Act). perform by_mpu i y s) asks_at ∙ load_refused laws i t p m s h room live w la go lent.aligned z.2 nope in
        let same : read w (la - i.ram_base) ram ≡ got = reads_off laws i t p m s h live op lies code has w lent l.loan l.placed l.from l.to some w (la - i.ram_base) off in
        let written : List ℕ = with_stacked i q 0 got ram in
        let is_written : with_stacked i q 0 (read w (address i t m q ram - i.ram_base) ram) ram ≡ written =
        ap (λ (x : ℕ). with_stacked i q 0 (read w (x - i.ram_base) ram) ram) (ws.low 1 (omega arith)) ∙ ap (λ (v : ℕ). with_stacked i q 0 v ram) same in
        let covers : is_lent (compartment_at t m.current).reads (address i t m q ram) w m.loans ≡ true =
        ap (λ (n : ℕ). is_lent (compartment_at t m.current).reads n w m.loans) (ws.low 1 (omega arith)) ∙ l.is_lent in
        let closed : t.closed ≡ true = p.is_closed ∙ first i.closed (nat_eq (bit_at (compartment_at t m.current).reads l.loan.number) 1) l.mine in
        let aligned : address i t m q ram % w ≡ 0 = ap (λ (n : ℕ). n % w) (ws.low 1 (omega arith)) ∙ lent.aligned in
        let pad = (tells laws i t p m s h room q ram ws.status).2 in
        let outcome : fault_outcome i t m q ram 0x82 (half_of op) ≡ Resumes m q (moved_on i q written) =
        loads i t stub m q ram (from_base laws i t p m s h room) (below_top laws i t p m s h room) pad op w load_form_is closed covers aligned ∙ ap (λ (x : List ℕ). Resumes m q (moved_on i q x)) is_written in
        let room_for : q - i.ram_base + 32 ≤ length written = subst (λ (n : ℕ). q - i.ram_base + 32 ≤ n) (sym (length-write 4 (q - i.ram_base + 4 * 0) got ram)) (long laws i t p m s h live op lies code has w lent l.loan l.placed l.from l.to some) in
        let eight = h.fits.core.low_count in
        let word_of : got < 2 ^ 32 = fits_word w got (load_width op w load_form_is) (read_fits w (la - i.ram_base) s.ram) in
        let after : Pushed i (record s.core { low = loaded_low }) (s.core.pc + 2) q (moved_on i q written) =
        moved i (record s.core { low = loaded_low }) s.core.pc q written (small laws i t p m s h live op lies code has w lent l.loan l.placed l.from l.to some) room_for (with_first i s.core s.core.pc q ram got word_of (omega (arith, eight)) (long laws i t p m s h live op lies code has w lent l.loan l.placed l.from l.to some) ws) in
        effect laws i t p m s h live has w lent loaded_low (moved_on i q written) s.ram loaded_state (is_reached loaded_low s.ram)
        (returned laws i t p m s h live op lies code has w lent l.loan l.placed l.from l.to some stub law (moved_on i q written) faults outcome after.status) after
        (λ n b o. moved_off laws i t p m s h live op lies code has w lent l.loan l.placed l.from l.to some written n b o
        ∙ read_off n b 4 (q - i.ram_base + 4 * 0) got ram (inner (q - i.ram_base) n b o)
        ∙ reads_off laws i t p m s h live op lies code has w lent l.loan l.placed l.from l.to some n b o)
        h.inv.as_long load_alone

    pub lent_load : HasEffect i t m s
    lent_load = by (by_mpu s.protection Read la) refl
      where
        by : (b : Bool) → by_mpu s.protection Read la ≡ b → HasEffect i t m s
        by true ok = let x = load_step by_mpu (stands laws i t p m s h live op lies code) ok in one_step laws i t p m s h live loaded_state refl refl load_alone x.leads x.quiet
        by false nope = load_by_handler nope
