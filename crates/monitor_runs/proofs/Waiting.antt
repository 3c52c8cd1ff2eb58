-- Where a thread goes on behind a handler: what the frames hold that it returns by.
use Rattle.std.proofs.Common.{◌≡◌, ℕ, ◌+◌, ◌-◌, ◌*◌, ◌/◌, ◌%◌, ◌^◌, ◌<◌, ◌≤◌, ◌⊎◌, ⊎_elim, true, List, length, nat_eq, sym, ap, ap₂, ◌∙◌, arith}
use Rattle.base_words.specs.Arithmetic.{word}
use Rattle.base_words.specs.Bytes.{read, write}
use Rattle.base_words.proofs.Bytes.{cut_small, read_below, read_above, read_same, read_above_all}
use Rattle.base_ranges.specs.Ranges.{AreApart}
use Rattle.machine_devices.specs.declared.image.Image.{Image}
use Rattle.machine_model.specs.declared.state.CoreRegisters.{CoreRegisters}
use Rattle.machine_model.specs.declared.state.FaultStatus.{FaultStatus}
use Rattle.machine_model.specs.State.{State, by_mpu, low_register}
use Rattle.machine_model.specs.Exceptions.{frame_at, frame_of, unstacked, with_pad, is_frame_open, entered as entry}
use Rattle.machine_model.proofs.StackWords.{get_or-words_at}
use Rattle.monitor_model.specs.declared.tables.Tables.{Tables}
use Rattle.monitor_model.specs.Placed.{Placed}
use Rattle.monitor_model.specs.Block.{MonitorBlock}
use Rattle.monitor_model.specs.Invariant.{InvariantHolds}
use Rattle.monitor_model.specs.Outcomes.{frame_in, stacked, with_stacked, moved_on}
use Rattle.monitor_model.specs.MonitorLaw.{GoesOn}
use Rattle.monitor_confined.proofs.EntryWords.{FrameLaws, frame, frame_offset, entered_ram, entered_length, frame_word}
use Rattle.monitor_runs.specs.Moves.{GoesOnAt}

-- so many bytes from an address on are none of the 32 at another
abbrev pub IsOff : (frame address width : ℕ) → Type 0
IsOff f a w = AreApart a w f 32

-- the core of the thread behind a return, by parts that are the outcome's own
pub core_by : {i : Image} {t : Tables} {s u : State} {m n : MonitorBlock} {q : ℕ} {after : List ℕ} (on : GoesOn i t s u m n q after) (a : ℕ) (r : List ℕ) → a ≡ q → r ≡ after → u.core ≡ unstacked true on.handler a (frame_in i a r)
core_by {i} on a r e f = on.core ∙ ap₂ (λ (b : ℕ) (x : List ℕ). unstacked true on.handler b (frame_in i b x)) (sym e) (sym f)

module _ (laws : FrameLaws) (i : Image) (t : Tables) (p : Placed i t) (s u : State) (m : MonitorBlock) (h : InvariantHolds i t m s) (opened : is_frame_open by_mpu i s ≡ true) (n ret : ℕ) (z : FaultStatus) (small : ret < 2 ^ 32) where
  abbrev psp : ℕ
  psp = frame_at s.core.sp

  abbrev memory : List ℕ
  memory = (entry true i n ret z s).to.ram

  -- r1 and the return address, as the entry pushes them
  pub second_pushed : stacked i psp memory 1 ≡ low_register s.core 1
  second_pushed = frame_word laws i p.rules s h.fits opened n ret z 1 ∙ cut_small 4 (low_register s.core 1) (h.fits.core.low_words 1)

  pub return_pushed : stacked i psp memory 6 ≡ ret
  return_pushed = frame_word laws i p.rules s h.fits opened n ret z 6 ∙ cut_small 4 ret small

  -- by its own frame as it was pushed
  pub own_pc : (c : CoreRegisters) → u.core ≡ unstacked true c psp (frame_in i psp memory) → u.core.pc ≡ ret / 2 * 2
  own_pc c e = ap (λ (x : CoreRegisters). x.pc) e ∙ ap (λ (a : ℕ). a / 2 * 2) return_pushed

  -- by its own frame, whose return address was raised behind changes of RAM that keep it
  pub moved_pc : (c : CoreRegisters) (changed : List ℕ) → length changed ≡ length memory → read 4 (psp - i.ram_base + 24) changed ≡ read 4 (psp - i.ram_base + 24) memory → ret + 2 < 2 ^ 32 →
      u.core ≡ unstacked true c psp (frame_in i psp (moved_on i psp changed)) → u.core.pc ≡ (ret + 2) / 2 * 2
  moved_pc c changed long same few e =
      let o : ℕ = psp - i.ram_base in
      let first : stacked i psp changed 6 ≡ ret = get_or-words_at 8 o 6 changed (omega arith) ∙ same ∙ sym (get_or-words_at 8 o 6 memory (omega arith)) ∙ return_pushed in
      let at = frame_offset laws i p.rules s h.fits opened in
      let fit = (frame laws i p.rules s h.fits opened).frame.words.fits in
      let size = entered_length laws i p.rules s h.fits opened n ret z in
      let room : o + 24 + 4 ≤ length changed = omega (arith, at, fit, long, size) in
      let back : stacked i psp (moved_on i psp changed) 6 ≡ ret + 2 =
      get_or-words_at 8 o 6 (moved_on i psp changed) (omega arith) ∙ read_same 4 (o + 24) (stacked i psp changed 6 + 2) changed room
      ∙ cut_small 4 (stacked i psp changed 6 + 2) (omega (arith, first, few)) ∙ ap (λ (a : ℕ). a + 2) first in
      ap (λ (x : CoreRegisters). x.pc) e ∙ ap (λ (a : ℕ). a / 2 * 2) back

  -- by a frame that lies above
  pub above_word : (q k v : ℕ) → psp + 32 ≤ q → 0 < k → k < 8 → stacked i q (with_stacked i q 0 v memory) k ≡ read 4 (q - i.ram_base + 4 * k) s.ram
  above_word q k v above some few =
      let o : ℕ = q - i.ram_base in
      let f = frame laws i p.rules s h.fits opened in
      let is = f.frame.words.is_at in
      get_or-words_at 8 o k (with_stacked i q 0 v memory) few
      ∙ read_above 4 (o + 4 * k) 4 (o + 4 * 0) v memory (omega (arith, some))
      ∙ ap (λ (r : List ℕ). read 4 (o + 4 * k) r) (entered_ram laws i p.rules s h.fits opened n ret z)
      ∙ read_above_all 4 (o + 4 * k) 4 f.offset (frame_of s.core ret) s.ram (omega (arith, is, above))

  pub above_goes_on : (c : CoreRegisters) (q v : ℕ) → psp + 32 ≤ q → u.core ≡ unstacked true c q (frame_in i q (with_stacked i q 0 v memory)) → GoesOnAt i s.ram q u
  above_goes_on c q v above e = record {
    pc = ap (λ (x : CoreRegisters). x.pc) e ∙ ap (λ (a : ℕ). a / 2 * 2) (above_word q 6 v above (omega arith) (omega arith));
    sp = ap (λ (x : CoreRegisters). x.sp) e ∙ ap (λ (a : ℕ). with_pad (nat_eq (a / 2 ^ 9 % 2) 1) (word (q + 32))) (above_word q 7 v above (omega arith) (omega arith));
  }

  -- a store off the frame keeps its return address
  pub store_keeps : (w a v : ℕ) → i.ram_base ≤ a → IsOff psp a w → read 4 (psp - i.ram_base + 24) (write w (a - i.ram_base) v memory) ≡ read 4 (psp - i.ram_base + 24) memory
  store_keeps w a v low off =
      let f = frame laws i p.rules s h.fits opened in
      let is = f.frame.words.is_at in
      ⊎_elim (λ (x : a + w ≤ psp). read_above 4 (psp - i.ram_base + 24) w (a - i.ram_base) v memory (omega (arith, is, x, low)))
      (λ (x : psp + 32 ≤ a). read_below 4 (psp - i.ram_base + 24) w (a - i.ram_base) v memory (omega (arith, is, x, low))) off
