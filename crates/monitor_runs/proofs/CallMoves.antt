-- Behind the handler of SVC: which of the moves its thread has made.
use Rattle.std.specs.Prelude.{if◌then◌else◌, nat_le}
use Rattle.std.proofs.Common.{◌≡◌, ℕ, zero, suc, ◌+◌, ◌-◌, ◌*◌, ◌/◌, ◌%◌, ◌^◌, ◌<◌, ◌≤◌, ◌⊎◌, inl, inr, Bool, true, false, ◌&&◌, List, [], ◌∷◌, length, get_or, Option, Some, None, nat_eq, nat_lt, refl, sym, ap, ◌∙◌, subst, arith}
use Rattle.std.proofs.lemmas.Bool.Decides.{nat_tests}
use Rattle.std.specs.Int.{bit_at}
use Rattle.base_words.specs.Arithmetic.{word as word_of}
use Rattle.base_words.specs.Bytes.{read, cut, write_all}
use Rattle.base_words.proofs.Bytes.{cut_small, read_same, read_above, read_above_all}
use Rattle.base_ranges.specs.Ranges.{AreApart}
use Rattle.monitor_laws.proofs.Tables.{size_of_stack}
use Rattle.machine_devices.specs.Rules.{block_size}
use Rattle.machine_devices.specs.declared.image.Image.{Image}
use Rattle.machine_bus.specs.Locations.{Location, InRam, InFlash, InWindow, Nowhere, location, choose}
use Rattle.machine_model.specs.declared.state.CoreRegisters.{CoreRegisters}
use Rattle.machine_model.specs.State.{State, by_mpu}
use Rattle.machine_model.specs.Exceptions.{frame_at, has_pad, stacked_status, with_pad, is_frame_open, supervisor_call}
use Rattle.machine_model.proofs.Frames.{status_tells, sp_back}
use Rattle.machine_model.proofs.StackWords.{get_or-words_at}
use Rattle.monitor_model.specs.declared.tables.TargetRecord.{TargetRecord}
use Rattle.monitor_model.specs.declared.tables.Tables.{Tables}
use Rattle.monitor_model.specs.Records.{rounded, site_at, targets_of, last_with_entry, eighth}
use Rattle.monitor_model.specs.Placed.{Placed}
use Rattle.monitor_model.specs.Block.{MonitorBlock, Loan, Saved, entered, left, lent, unlent}
use Rattle.monitor_model.specs.Invariant.{AreSaved, InvariantHolds}
use Rattle.monitor_model.specs.Confined.{IsSvc}
use Rattle.monitor_model.specs.Handlers as change
use Rattle.monitor_model.specs.Handlers.{FrameIsOpen, Change, at_svc}
use Rattle.monitor_model.specs.Outcomes.{Outcome, Halts, Resumes, r12_place, return_place, status_place, frame_in, stacked, with_stacked, moved_on}
use Rattle.monitor_model.specs.SvcOutcome.{word, callee_frame, new_top, enter_to, enter_by, enter_at, leave_to, new_loan, lend, unlend_to, by_number, svc_outcome}
use Rattle.monitor_model.specs.MonitorLaw.{GoesOn}
use Rattle.monitor_confined.proofs.EntryWords.{FrameLaws, flash_low, frame, entered_length, frame_word}
use Rattle.monitor_confined.proofs.EnterLaw.{if_resumes, both, same_parts, rounded_below, callee_words, enter_change}
use Rattle.monitor_confined.proofs.Changes.{top_below}
use Rattle.monitor_confined.proofs.SvcLaw.{svc_change}
use Rattle.monitor_runs.specs.Moves.{Moves, Enters, Leaves, Lends, Unlends, Waits}
use Rattle.base_laws.proofs.Multiples.{even_back}
use Rattle.monitor_runs.proofs.Waiting.{own_pc, above_goes_on, return_pushed, core_by}

-- a number of eighths that is not 0 has at least 64 bytes
whole_eighths : (k e : ℕ) → 0 < k * e → 64 ≤ e → 64 ≤ k * e
whole_eighths zero e h l = absurd (omega (arith, h))
whole_eighths (suc k) e h l = omega (arith, l)

module _ (laws : FrameLaws) (i : Image) (t : Tables) (p : Placed i t) (stub : ℕ) (s u : State) (m : MonitorBlock) (h : InvariantHolds i t m s) (opened : is_frame_open by_mpu i s ≡ true) (k : ℕ) (svc : IsSvc i t k s) (n : MonitorBlock) (q : ℕ) (after : List ℕ) (on : GoesOn i t s u m n q after) where
  abbrev psp : ℕ
  psp = frame_at s.core.sp

  abbrev memory : List ℕ
  memory = (at_svc i s).ram

  pc_low : s.core.pc + 2 < 2 ^ 32
  pc_low = let low = flash_low i p.rules s.core.pc svc.offset svc.is_in_flash in omega (arith, low)

  -- behind the SVC
  goes_behind : psp ≡ q → memory ≡ after → u.core.pc ≡ s.core.pc + 2
  goes_behind e f =
      own_pc laws i t p s u m h opened supervisor_call (s.core.pc + 2) s.status pc_low on.handler (core_by on psp memory e f) ∙ even_back s.core.pc h.fits.core.pc_even

  leave_move : FrameIsOpen i t m psp → IsSvc i t 1 s → (es : List Saved) → m.saved ≡ es → leave_to i t stub m psp memory es ≡ Resumes n q after → Moves i t s u m n
  leave_move room one [] is e = cc
  leave_move room one (x ∷ es) is e =
      let w = same_parts (left m x es) n x.psp q (with_stacked i x.psp 0 (word i t stub m psp memory 0) memory) after e in
      let a = subst (λ (l : List Saved). AreSaved t m.top m.mark l) is h.inv.orderly.saved in
      let above = a.0.above in
      let below = room.below_top in
      subst (λ (b : MonitorBlock). Moves i t s u m b) w.0 (Leaves x es is one
      (above_goes_on laws i t p s u m h opened supervisor_call (s.core.pc + 2) s.status pc_low on.handler x.psp (word i t stub m psp memory 0) (omega (arith, above, below)) (core_by on x.psp (with_stacked i x.psp 0 (word i t stub m psp memory 0) memory) w.1 w.2)))

  lend_move : FrameIsOpen i t m psp → IsSvc i t 2 s → lend i t stub m psp memory ≡ Resumes n q after → Moves i t s u m n
  lend_move room two e =
      let l : Loan = new_loan i t stub m psp memory in
      let b1 : Bool = nat_lt (length m.loans) 32 in
      let b2 : Bool = nat_lt l.number (length t.lends) in
      let b3 : Bool = nat_eq (l.address % 4) 0 in
      let b4 : Bool = nat_le (psp + 32) l.address in
      let b5 : Bool = nat_le l.end m.top in
      let a = if_resumes (b1 && (b2 && (b3 && (b4 && b5)))) (Resumes (lent m l) psp memory) 6 n q after e in
      let b = both b1 (b2 && (b3 && (b4 && b5))) a.0 in
      let c = both b2 (b3 && (b4 && b5)) b.1 in
      let d = both b3 (b4 && b5) c.1 in
      let f = both b4 b5 d.1 in
      let x1 : length m.loans < 32 = let z = b.0 in search (nat_tests, arith) in
      let x2 : l.number < length t.lends = let z = c.0 in search (nat_tests, arith) in
      let x4 : psp + 32 ≤ l.address = let z = f.0 in search (nat_tests, arith) in
      let x5 : l.end ≤ m.top = let z = f.1 in search (nat_tests, arith) in
      let w = same_parts (lent m l) n psp q memory after a.1 in
      subst (λ (b : MonitorBlock). Moves i t s u m b) w.0 (Lends l two room x1 x2 refl x4 x5 (goes_behind w.1 w.2))

  unlend_by : IsSvc i t 3 s → (l : Loan) (ls : List Loan) → m.loans ≡ l ∷ ls → m.mark ≤ suc (length ls) → (b : Bool) → nat_eq (suc (length ls)) m.mark ≡ b →
      (if b then Halts 6 else Resumes (record m { loans = ls }) psp memory) ≡ Resumes n q after → Moves i t s u m n
  unlend_by three l ls is le true z e = cc
  unlend_by three l ls is le false z e =
      let x : m.mark ≤ length ls = search (nat_tests, arith) in
      let w = same_parts (unlent m ls) n psp q memory after e in
      subst (λ (b : MonitorBlock). Moves i t s u m b) w.0 (Unlends l ls is x three (goes_behind w.1 w.2))

  unlend_move : IsSvc i t 3 s → (ls : List Loan) → m.loans ≡ ls → unlend_to i t stub m psp memory ls ≡ Resumes n q after → Moves i t s u m n
  unlend_move three [] is e = cc
  unlend_move three (l ∷ ls) is e =
      unlend_by three l ls is (subst (λ (k : List Loan). m.mark ≤ length k) is h.inv.orderly.marks) (nat_eq (suc (length ls)) m.mark) refl e

  -- ---- enter

  -- the outcome's parts
  record IsEntered : Type 0 where
    target : TargetRecord
    some : t.stack.base < new_top i t stub m psp memory
    block : entered m target.compartment (new_top i t stub m psp memory) psp ≡ n
    lies : new_top i t stub m psp memory - 32 ≡ q
    ram : write_all 4 (new_top i t stub m psp memory - 32 - i.ram_base) (callee_frame i t stub m psp memory target) (moved_on i psp memory) ≡ after

  entered_to : (o : Option TargetRecord) → enter_to i t stub m psp memory o ≡ Resumes n q after → IsEntered
  entered_to None e = cc
  entered_to (Some g) e =
      let x : Outcome = Resumes (entered m g.compartment (new_top i t stub m psp memory) psp) (new_top i t stub m psp memory - 32) (write_all 4 (new_top i t stub m psp memory - 32 - i.ram_base) (callee_frame i t stub m psp memory g) (moved_on i psp memory)) in
      let a = if_resumes (nat_lt t.stack.base (new_top i t stub m psp memory)) x 5 n q after e in
      let z = a.0 in
      let w = same_parts (entered m g.compartment (new_top i t stub m psp memory) psp) n (new_top i t stub m psp memory - 32) q (write_all 4 (new_top i t stub m psp memory - 32 - i.ram_base) (callee_frame i t stub m psp memory g) (moved_on i psp memory)) after a.1 in
      record { target = g; some = search (nat_tests, arith); block = w.0; lies = w.1; ram = w.2 }

  entered_by : (number : ℕ) → enter_by i t stub m psp memory number ≡ Resumes n q after → IsEntered
  entered_by number e =
      let o : Option TargetRecord = last_with_entry (word i t stub m psp memory r12_place) (targets_of t (site_at t number)) in
      let a = if_resumes (nat_lt number (length t.sites) && nat_eq (site_at t number).ret (word i t stub m psp memory return_place)) (enter_to i t stub m psp memory o) 2 n q after e in
      entered_to o a.1

  entered_at : (l : Location) → enter_at i t stub m psp memory l ≡ Resumes n q after → IsEntered
  entered_at (InRam o) e = cc
  entered_at (InFlash o) e = entered_by (read 2 o i.flash) e
  entered_at (InWindow j o) e = cc
  entered_at Nowhere e = cc

  -- the callee's stack pointer
  entered_sp : IsSvc i t 0 s → (room : FrameIsOpen i t m psp) → IsEntered → u.core.sp ≡ rounded t psp
  entered_sp none room x =
      let below : m.top ≤ t.stack.base + t.stack.size = top_below t (length m.saved) m.top h.inv.orderly.is_top in
      let ws = callee_words laws i t p stub s u m h opened none room below x.target in
      let core = core_by on (new_top i t stub m psp memory - 32) _ x.lies x.ram in
      let status : get_or (frame_in i (new_top i t stub m psp memory - 32) (write_all 4 (new_top i t stub m psp memory - 32 - i.ram_base) (callee_frame i t stub m psp memory x.target) (moved_on i psp memory))) 7 0 ≡ 2 ^ 24 =
      ap (λ (l : List ℕ). get_or l 7 0) ws ∙ cut_small 4 (2 ^ 24) (omega arith) in
      let lo = room.from_base in
      let hi = room.below_top in
      let under = rounded_below t.stack.base (eighth t) psp lo in
      let some = x.some in
      let base = p.stack_base in
      let size = p.stack_size in
      let location = p.stack.place in
      let from = location.0 in
      let to = location.1 in
      let low = p.rules.ram_lowest in
      let high = p.rules.ram_highest in
      let most = p.rules.ram_most in
      ap (λ (c : CoreRegisters). c.sp) core
      ∙ ap (λ (a : ℕ). with_pad (nat_eq (a / 2 ^ 9 % 2) 1) (word_of (new_top i t stub m psp memory - 32 + 32))) status
      ∙ whole (new_top i t stub m psp memory) (omega (arith, some, base, from, low)) (omega (arith, under, hi, below, base, size, to, high, most))
    where
      whole : (x : ℕ) → 32 ≤ x → x < 2 ^ 32 → word_of (x - 32 + 32) ≡ x
      whole x a b = omega (arith, a, b)

  -- the caller's frame, behind the handler
  entered_waits : (room : FrameIsOpen i t m psp) → IsEntered → Waits i u.ram psp s
  entered_waits room x =
      let top : ℕ = new_top i t stub m psp memory in
      let o : ℕ = psp - i.ram_base in
      let lo = room.from_base in
      let hi = room.below_top in
      let below : m.top ≤ t.stack.base + t.stack.size = top_below t (length m.saved) m.top h.inv.orderly.is_top in
      let under = rounded_below t.stack.base (eighth t) psp lo in
      let base = p.stack_base in
      let size = p.stack_size in
      let from = p.stack.place.0 in
      let to = p.stack.place.1 in
      let low = p.rules.ram_lowest in
      let high = p.rules.ram_highest in
      let most = p.rules.ram_most in
      let some = x.some in
      let eighths = whole_eighths ((psp - t.stack.base) / eighth t) (eighth t) (omega (arith, some)) (size_of_stack p).least in
      let f = frame laws i p.rules s h.fits opened in
      let is = f.frame.words.is_at in
      let fit = f.frame.words.fits in
      let long = entered_length laws i p.rules s h.fits opened supervisor_call (s.core.pc + 2) s.status in
      let mon = p.block_inside.0 in
      -- RAM off the block, off the callee's frame
      let kept : (d : ℕ) → d + 4 ≤ 32 → read 4 (o + d) u.ram ≡ read 4 (o + d) (moved_on i psp memory) = λ d few.
      on.is_left.is_memory.reads 4 (o + d) (off_block d few lo hi below base size from mon p.apart)
      ∙ ap (λ (r : List ℕ). read 4 (o + d) r) (sym x.ram)
      ∙ read_above_all 4 (o + d) 4 (top - 32 - i.ram_base) (callee_frame i t stub m psp memory x.target) (moved_on i psp memory) (omega (arith, under, lo, base, from, eighths, low)) in
      let moved : read 4 (o + 24) (moved_on i psp memory) ≡ s.core.pc + 4 =
      read_same 4 (o + 24) (word i t stub m psp memory 6 + 2) memory (omega (arith, is, fit, long))
      ∙ ap (λ (a : ℕ). cut 4 (a + 2)) (return_pushed laws i t p s u m h opened supervisor_call (s.core.pc + 2) s.status pc_low)
      ∙ cut_small 4 (s.core.pc + 2 + 2) far ∙ (let e : s.core.pc + 2 + 2 ≡ s.core.pc + 4 = omega arith in e) in
      let status : read 4 (o + 28) (moved_on i psp memory) ≡ stacked_status s.core.flags (has_pad s.core.sp) =
      read_above 4 (o + 28) 4 (o + 24) (word i t stub m psp memory 6 + 2) memory (omega arith)
      ∙ sym (get_or-words_at 8 o 7 memory (omega arith))
      ∙ frame_word laws i p.rules s h.fits opened supervisor_call (s.core.pc + 2) s.status 7
      ∙ cut_small 4 (stacked_status s.core.flags (has_pad s.core.sp)) (status_tells s.core.flags (has_pad s.core.sp)).fits in
      record {
        pc = kept 24 (omega arith) ∙ moved;
        sp = ap (λ (a : ℕ). with_pad (nat_eq (a / 2 ^ 9 % 2) 1) (word_of (psp + 32))) (kept 28 (omega arith) ∙ status)
            ∙ ap (λ (b : Bool). with_pad b (word_of (psp + 32))) (status_tells s.core.flags (has_pad s.core.sp)).pad_bit
            ∙ sp_back s.core.sp h.fits.core.sp_aligned (room_below (has_pad s.core.sp) s.core.sp h.fits.core.sp_word (omega (arith, hi, below, base, size, to, high, most)) (omega (arith, lo, base, from, low))) h.fits.core.sp_word;
      }
    where
      far : s.core.pc + 2 + 2 < 256 ^ 4
      far = let low = flash_low i p.rules s.core.pc svc.offset svc.is_in_flash in omega (arith, low)

      -- a frame between these ends is not that of a stack pointer near 0
      room_below : (b : Bool) (x : ℕ) → x < 2 ^ 32 → word_of (x + 2 ^ 32 - choose b 36 32) < 2 ^ 31 → 100 ≤ word_of (x + 2 ^ 32 - choose b 36 32) → 36 ≤ x
      room_below true x w a b = omega (arith, w, a, b)
      room_below false x w a b = omega (arith, w, a, b)

      off_block : (d : ℕ) → d + 4 ≤ 32 → t.stack.base ≤ psp → psp + 32 ≤ m.top → m.top ≤ t.stack.base + t.stack.size → t.stack.base ≡ i.stack_base → t.stack.size ≡ i.stack_size → i.ram_base ≤ i.stack_base → i.ram_base ≤ t.monitor →
          AreApart t.monitor block_size t.stack.base t.stack.size → (psp - i.ram_base + d + 4 ≤ t.monitor - i.ram_base + 0) ⊎ (t.monitor - i.ram_base + block_size ≤ psp - i.ram_base + d)
      off_block d few lo hi below base size from mon (inl z) = inr (omega (arith, few, lo, z, base, from, mon))
      off_block d few lo hi below base size from mon (inr z) = inl (omega (arith, few, lo, hi, below, z, base, from, mon))

  more_saved : (b : MonitorBlock) (c top f : ℕ) → entered m c top f ≡ b → length b.saved ≡ suc (length m.saved)
  more_saved b c top f e = ap (λ (x : MonitorBlock). length x.saved) (sym e)

  -- enter is what the law of changes says, and no other change
  by_change : (b : MonitorBlock) → Change i t s u m b → length b.saved ≡ suc (length m.saved) → u.core.sp ≡ rounded t psp → Waits i u.ram psp s → Moves i t s u m b
  by_change _ change.Emulates l sp w = absurd (omega (arith, l))
  by_change _ (change.Enters c o some inside crosses) l sp w = Enters c crosses o some sp w
  by_change _ (change.Leaves e es is v) l sp w = absurd (let z : length m.saved ≡ suc (length es) = ap (λ (x : List Saved). length x) is in omega (arith, l, z))
  by_change _ (change.Lends x o room in_list al size from to) l sp w = absurd (omega (arith, l))
  by_change _ (change.Unlends x ls is marks) l sp w = absurd (omega (arith, l))

  enter_move : IsSvc i t 0 s → FrameIsOpen i t m psp → enter_at i t stub m psp memory (location i (word i t stub m psp memory return_place)) ≡ Resumes n q after → Moves i t s u m n
  enter_move none room e =
      let below : m.top ≤ t.stack.base + t.stack.size = top_below t (length m.saved) m.top h.inv.orderly.is_top in
      let x = entered_at (location i (word i t stub m psp memory return_place)) e in
      by_change n (enter_change laws i t p stub s u m h opened none room below n q after on e) (more_saved n x.target.compartment (new_top i t stub m psp memory) psp x.block) (entered_sp none room x) (entered_waits room x)

  -- ---- by the number of the SVC

  number_move : FrameIsOpen i t m psp → by_number i t stub m psp memory k ≡ Resumes n q after → Moves i t s u m n
  number_move room e = by (nat_eq k 0) (nat_eq k 1) (nat_eq k 2) (nat_eq k 3) refl refl refl refl e
    where
      at : (a : ℕ) → nat_eq k a ≡ true → IsSvc i t a s
      at a z = let y : k ≡ a = search (nat_tests, arith) in subst (λ (b : ℕ). IsSvc i t b s) y svc

      by : (b0 b1 b2 b3 : Bool) → nat_eq k 0 ≡ b0 → nat_eq k 1 ≡ b1 → nat_eq k 2 ≡ b2 → nat_eq k 3 ≡ b3 →
          (if b0 then enter_at i t stub m psp memory (location i (word i t stub m psp memory return_place)) else if b1 then leave_to i t stub m psp memory m.saved else if b2 then lend i t stub m psp memory else if b3 then unlend_to i t stub m psp memory m.loans else Halts 1) ≡ Resumes n q after →
          Moves i t s u m n
      by true b1 b2 b3 z0 z1 z2 z3 e = enter_move (at 0 z0) room e
      by false true b2 b3 z0 z1 z2 z3 e = leave_move room (at 1 z1) m.saved refl e
      by false false true b3 z0 z1 z2 z3 e = lend_move room (at 2 z2) e
      by false false false true z0 z1 z2 z3 e = unlend_move (at 3 z3) m.loans refl e
      by false false false false z0 z1 z2 z3 e = cc

  is_opened : svc_outcome i t stub m psp memory k ≡ Resumes n q after → FrameIsOpen i t m psp × (by_number i t stub m psp memory k ≡ Resumes n q after)
  unfolding svc_outcome
  is_opened e =
      let b1 : Bool = nat_le t.stack.base psp in
      let b2 : Bool = nat_le (psp + 32) m.top in
      let b3 : Bool = nat_eq (bit_at (stacked i psp memory status_place) 9) 0 in
      let a = if_resumes (b1 && (b2 && b3)) (by_number i t stub m psp memory k) 4 n q after e in
      let b = both b1 (b2 && b3) a.0 in
      let c = both b2 b3 b.1 in
      let x1 : t.stack.base ≤ psp = let z = b.0 in search (nat_tests, arith) in
      let x2 : psp + 32 ≤ m.top = let z = c.0 in search (nat_tests, arith) in
      (record { from_base = x1; below_top = x2 }, a.1)

  pub call_move : svc_outcome i t stub m psp memory k ≡ Resumes n q after → Moves i t s u m n
  call_move e = let o = is_opened e in number_move o.0 o.1

  pub call_change : svc_outcome i t stub m psp memory k ≡ Resumes n q after → Change i t s u m n
  call_change e =
      svc_change i t stub s u m memory n q after h.inv.orderly.marks k svc e
      (λ none room x. enter_change laws i t p stub s u m h opened none room (top_below t (length m.saved) m.top h.inv.orderly.is_top) n q after on x)
