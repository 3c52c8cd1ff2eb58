-- The address of a refused store of the handler's is r1, and so none of the thread's own frame: the frame was pushed where all may write.
use Rattle.std.proofs.Common.{◌≡◌, ℕ, ◌+◌, ◌-◌, ◌*◌, ◌/◌, ◌%◌, ◌<◌, ◌≤◌, ◌⊎◌, inl, inr, ⊎_elim, true, false, Some, bit_or, refl, sym, ap, ◌∙◌, subst, arith}
use Rattle.std.proofs.lemmas.Bool.{false≢true, cases_lt}
use Rattle.base_words.specs.Arithmetic.{word}
use Rattle.base_words.specs.Bytes.{read}
use Rattle.machine_thumb.specs.declared.table.Instr.{Instr}
use Rattle.machine_thumb.specs.declared.table.Instr.TheVariants.{TransferImmediate}
use Rattle.machine_thumb.specs.Decoded.{decoded, narrow_of, transfer_of}
use Rattle.machine_protection.specs.declared.region.Access.TheVariants.{Write}
use Rattle.machine_protection.specs.Protection.{IsAccessWidth}
use Rattle.machine_protection.proofs.Alike.{permits_alike}
use Rattle.machine_devices.specs.declared.image.Image.{Image}
use Rattle.machine_bus.specs.Locations.{location}
use Rattle.machine_bus.specs.Bus.{fetch_at}
use Rattle.machine_model.specs.declared.state.CoreRegisters.{CoreRegisters}
use Rattle.machine_model.specs.declared.state.FaultStatus.{FaultStatus}
use Rattle.machine_model.specs.State.{State, Turn, by_mpu, is_unprivileged, low_register}
use Rattle.machine_model.specs.Act.{Stores}
use Rattle.machine_model.specs.Asked.{RefusesFirst, IsRefused}
use Rattle.machine_model.specs.Code.{HoldsHalf}
use Rattle.machine_model.specs.Exceptions.{frame_at, is_frame_open}
use Rattle.machine_model.specs.Instructions.{act}
use Rattle.machine_model.specs.Step.{step, turn}
use Rattle.machine_model.specs.ThreadStep.{IsFetchFault, IsDataFault, ThreadStep, Ends, Goes, Calls, Faults}
use Rattle.monitor_model.specs.declared.tables.Tables.{Tables}
use Rattle.monitor_model.specs.Placed.{Placed}
use Rattle.monitor_model.specs.Block.{MonitorBlock}
use Rattle.monitor_model.specs.Invariant.{InvariantHolds}
use Rattle.monitor_model.specs.Handlers.{at_memfault}
use Rattle.monitor_confined.proofs.EntryWords.{FrameLaws, frame}
use Rattle.monitor_runs.proofs.Waiting.{IsOff}

-- STR, STRB and STRH r0,[r1,#0], with the width of their accesses
pub data IsStore : (half width : ℕ) → Type 0 where
  OfWord : IsStore 0x6008 4
  OfByte : IsStore 0x7008 1
  OfHalf : IsStore 0x8008 2

word_code : (b : ℕ) → decoded 0x6008 b ≡ Some (TransferImmediate 0 0 1 0)
unfolding decoded narrow_of transfer_of
word_code b = refl

byte_code : (b : ℕ) → decoded 0x7008 b ≡ Some (TransferImmediate 2 0 1 0)
unfolding decoded narrow_of transfer_of
byte_code b = refl

half_code : (b : ℕ) → decoded 0x8008 b ≡ Some (TransferImmediate 4 0 1 0)
unfolding decoded narrow_of transfer_of
half_code b = refl

module _ (laws : FrameLaws) (i : Image) (t : Tables) (p : Placed i t) (s : State) (m : MonitorBlock) (h : InvariantHolds i t m s) (opened : is_frame_open by_mpu i s ≡ true)
    (z : FaultStatus) (leads : ThreadStep i s (turn by_mpu i s)) (enters : step i s ≡ at_memfault i z s) (data_fault : z.cfsr ≡ 0x82) where
  abbrev r1 : ℕ
  r1 = low_register s.core 1

  -- the step's fault is that of a data access
  no_entry : (turn by_mpu i s).to.protection.handler ≡ false → ⊥
  no_entry e = false≢true (sym e ∙ ap (λ (x : State). x.protection.handler) enters)

  status_is : (u : FaultStatus) → (turn by_mpu i s).to.status ≡ u → u ≡ z
  status_is u e = sym e ∙ ap (λ (x : State). x.status) enters

  its_fault : (u : FaultStatus) → IsFetchFault i s u ⊎ IsDataFault i s u → u ≡ z → IsDataFault i s z
  its_fault u (inl f) e = absurd (let c : bit_or 0 1 ≡ 0x82 = sym (ap (λ (x : FaultStatus). x.cfsr) f.status ∙ ap (λ n. bit_or n 1) h.inv.no_fault) ∙ ap (λ (x : FaultStatus). x.cfsr) e ∙ data_fault in omega (arith, c))
  its_fault u (inr f) e = subst (IsDataFault i s) e f

  refused : ThreadStep i s (turn by_mpu i s) → IsDataFault i s z
  refused (Ends e q) = absurd (no_entry (ap (λ (x : Turn). x.to.protection.handler) q ∙ h.inv.thread))
  refused (Goes x next k plain) = absurd (no_entry (ap (λ q. q.handler) plain.protection ∙ h.inv.thread))
  refused (Calls n few f o q) =
      absurd (let e = status_is s.status (ap (λ (x : Turn). x.to.status) q) in let c : 0 ≡ 0x82 = sym h.inv.no_fault ∙ ap (λ (x : FaultStatus). x.cfsr) e ∙ data_fault in omega (arith, c))
  refused (Faults u f on o q) = its_fault u f (status_is u (ap (λ (x : Turn). x.to.status) q))

  -- by the instruction that stands there
  same_half : (half first : ℕ) → HoldsHalf i s.core.pc half → fetch_at (location i s.core.pc) i s.ram ≡ Some first → first ≡ half
  same_half half first x f =
      let e : Some (read 2 x.offset i.flash) ≡ Some first = sym (ap (λ q. fetch_at q i s.ram) x.is_in_flash) ∙ f in
      let y : read 2 x.offset i.flash ≡ first = cc in
      sym y ∙ x.is_half

  refused_act : (half : ℕ) (x : Instr) → HoldsHalf i s.core.pc half → ((b : ℕ) → decoded half b ≡ Some x) → (next address : ℕ) × RefusesFirst by_mpu i s (act x next s.core) address
  refused_act half x stands is =
      let f = refused leads in
      let first = same_half half f.taken.first stands f.taken.begins.is_half in
      let d : Some x ≡ Some f.instruction = sym (is f.taken.second) ∙ ap (λ a. decoded a f.taken.second) (sym first) ∙ f.taken.decodes in
      let y : f.instruction ≡ x = cc in
      (f.next, f.address, subst (λ (a : Instr). RefusesFirst by_mpu i s (act a f.next s.core) f.address) y f.first)

  refused_store : (w a v address : ℕ) (c : CoreRegisters) → RefusesFirst by_mpu i s (Stores w a v c) address → IsRefused by_mpu s.protection Write (record { width = w; address = a })
  refused_store w a v address c (inl f) = absurd f
  refused_store w a v address c (inr (inl f)) = f.1
  refused_store w a v address c (inr (inr f)) = absurd f.1

  -- ---- it misses the frame

  abbrev psp : ℕ
  psp = frame_at s.core.sp

  -- the frame's words may be written
  writable : (k : ℕ) → k < 8 → by_mpu s.protection Write (psp + 4 * k) ≡ true
  writable k lt = (frame laws i p.rules s h.fits opened).frame.writes k lt

  word_alike : (a b : ℕ) → a / 4 ≡ b / 4 → by_mpu s.protection Write a ≡ by_mpu s.protection Write b
  unfolding by_mpu
  word_alike a b e = permits_alike s.protection.mpu (is_unprivileged s.protection) Write a b e

  inside : (w a : ℕ) → by_mpu s.protection Write a ≡ false → psp ≤ a → a < psp + 32 → ⊥
  inside w a refuses lo hi =
      let k : ℕ = (a - psp) / 4 in
      let al = (frame laws i p.rules s h.fits opened).aligned in
      let same : a / 4 ≡ (psp + 4 * ((a - psp) / 4)) / 4 = omega (arith, lo, al) in
      false≢true (sym refuses ∙ word_alike a (psp + 4 * ((a - psp) / 4)) same ∙ writable ((a - psp) / 4) (omega (arith, lo, hi)))

  off_frame : (w a : ℕ) → IsAccessWidth w → a % w ≡ 0 → by_mpu s.protection Write a ≡ false → IsOff psp a w
  off_frame w a wide al refuses = ⊎_elim (λ lt. before lt) (λ le. ⊎_elim (λ lt. absurd (inside w a refuses le lt)) (λ le2. inr le2) (cases_lt a (psp + 32))) (cases_lt a psp)
    where
      fr : psp % 8 ≡ 0
      fr = (frame laws i p.rules s h.fits opened).aligned

      before : a < psp → IsOff psp a w
      before lt = by wide
        where
          by : IsAccessWidth w → IsOff psp a w
          by (inl e) = inl (omega (arith, lt, e))
          by (inr (inl e)) = let al2 : a % 2 ≡ 0 = ap (λ n. a % n) (sym e) ∙ al in let f = fr in inl (omega (arith, lt, e, al2, f))
          by (inr (inr e)) = let al4 : a % 4 ≡ 0 = ap (λ n. a % n) (sym e) ∙ al in let f = fr in inl (omega (arith, lt, e, al4, f))

  -- ---- the three of them

  by_refused : (w a : ℕ) → IsAccessWidth w → a ≡ r1 → IsRefused by_mpu s.protection Write (record { width = w; address = a }) → IsOff psp r1 w
  by_refused w a wide e f = subst (λ (x : ℕ). IsOff psp x w) e (off_frame w a wide f.aligned f.refused)

  at_r1 : word (r1 + 0) ≡ r1
  at_r1 = let few = h.fits.core.low_words 1 in omega (arith, few)

  pub refused_off : (half w : ℕ) → IsStore half w → HoldsHalf i s.core.pc half → IsOff psp r1 w
  unfolding act
  refused_off _ _ OfWord stands =
      let f = refused_act 0x6008 (TransferImmediate 0 0 1 0) stands word_code in
      by_refused 4 (word (r1 + 4 * 0)) (inr (inr refl)) at_r1 (refused_store 4 (word (r1 + 4 * 0)) (low_register s.core 0) f.1 (record s.core { pc = f.0 }) f.2)
  refused_off _ _ OfByte stands =
      let f = refused_act 0x7008 (TransferImmediate 2 0 1 0) stands byte_code in
      by_refused 1 (word (r1 + 0)) (inl refl) at_r1 (refused_store 1 (word (r1 + 0)) (low_register s.core 0) f.1 (record s.core { pc = f.0 }) f.2)
  refused_off _ _ OfHalf stands =
      let f = refused_act 0x8008 (TransferImmediate 4 0 1 0) stands half_code in
      by_refused 2 (word (r1 + 2 * 0)) (inr (inl refl)) at_r1 (refused_store 2 (word (r1 + 2 * 0)) (low_register s.core 0) f.1 (record s.core { pc = f.0 }) f.2)
