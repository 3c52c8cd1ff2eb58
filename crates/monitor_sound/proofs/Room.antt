-- A thread whose stack has room for an exception's frame: the frame is open, its words are read, and SVC and refused accesses enter.
use Rattle.std.proofs.Common.{◌≡◌, ℕ, zero, suc, ◌+◌, ◌-◌, ◌*◌, ◌/◌, ◌%◌, ◌^◌, ◌<◌, ◌≤◌, Bool, true, false, List, get_or, None, nat_eq, nat_lt, bit_or, refl, sym, ap, ap₂, ◌∙◌, subst, arith}
use Rattle.std.proofs.lemmas.Bool.Decides.{nat_tests}
use Rattle.base_words.specs.Arithmetic.{word}
use Rattle.base_words.specs.Bytes.{cut}
use Rattle.base_words.proofs.Bytes.{cut_small}
use Rattle.machine_thumb.specs.Table.{encode, svc}
use Rattle.machine_protection.specs.declared.region.Access.TheVariants.{Read, Write, Fetch}
use Rattle.machine_protection.specs.declared.region.Access.{Access}
use Rattle.machine_devices.specs.declared.image.Image.{Image}
use Rattle.machine_bus.specs.Locations.{InRam, location}
use Rattle.machine_bus.proofs.Offsets.{in_ram}
use Rattle.machine_model.specs.declared.state.CoreRegisters.{CoreRegisters}
use Rattle.machine_model.specs.declared.state.FaultStatus.{FaultStatus}
use Rattle.machine_model.specs.declared.state.ProtectionState.{ProtectionState}
use Rattle.machine_model.specs.declared.answers.Verdict.TheVariants.{Refused}
use Rattle.machine_model.specs.State.{State, PermissionTest, by_mpu}
use Rattle.machine_model.specs.Act.{Loads, Stores}
use Rattle.machine_model.specs.Instructions.{act}
use Rattle.machine_model.specs.Stack.{cut_words}
use Rattle.machine_model.specs.Tests.{all_open, verdict}
use Rattle.machine_model.specs.System.{in_system}
use Rattle.machine_model.specs.Exceptions.{frame_at, frame_of, has_pad, entered, call, fault_by, is_fault_enabled, is_frame_open, is_thread, data_status, supervisor_call, mem_manage, stacked_status}
use Rattle.machine_model.specs.Perform.{perform}
use Rattle.machine_model.specs.Code.{Lies, Stands}
use Rattle.machine_model.specs.Step.{turn}
use Rattle.monitor_model.specs.declared.tables.Tables.{Tables}
use Rattle.monitor_model.specs.Placed.{Placed}
use Rattle.monitor_model.specs.Block.{MonitorBlock}
use Rattle.monitor_model.specs.Confined.{IsSvc}
use Rattle.monitor_model.specs.Invariant.{InvariantHolds, context_of}
use Rattle.monitor_model.specs.AccessLaw.{StackHasRoom}
use Rattle.monitor_model.specs.Outcomes.{stacked}
use Rattle.monitor_confined.proofs.EntryWords.{frame_word}
use Rattle.monitor_sound.proofs.ThreadLaws.{ThreadLaws, performed_at}
use Rattle.monitor_sound.proofs.Permits.{writes_stack, top_inside}

all_are_open : (j : PermissionTest) (i : Image) (p : ProtectionState) (n a o : ℕ) → i.ram_base + o ≡ a → o + 4 * n ≤ i.ram_size → i.ram_base + i.ram_size ≤ 0x40000000 →
    ((k : ℕ) → k < n → j p Write (a + 4 * k) ≡ true) → all_open j i p Write a n ≡ true
unfolding all_open
all_are_open j i p zero a o at fits low may = refl
all_are_open j i p (suc n) a o at fits low may =
    let z : a + 4 * 0 ≡ a = omega arith in
    let here : j p Write a ≡ true = subst (λ (x : ℕ). j p Write x ≡ true) z (may 0 (omega arith)) in
    let l : location i a ≡ InRam o = in_ram i a o at (omega (arith, fits)) in
    let step : word (a + 4) ≡ a + 4 = omega (arith, at, fits, low) in
    let rest : all_open j i p Write (a + 4) n ≡ true =
    all_are_open j i p n (a + 4) (o + 4) (omega (arith, at)) (omega (arith, fits)) low
    (λ k lt. let y : a + 4 * suc k ≡ a + 4 + 4 * k = omega arith in subst (λ (x : ℕ). j p Write x ≡ true) y (may (suc k) (omega (arith, lt)))) in
    rw (here, l, step, rest) refl

pub frame_is : (sp : ℕ) → sp % 8 ≡ 0 → 32 ≤ sp → sp < 2 ^ 32 → frame_at sp ≡ sp - 32
frame_is sp a l h =
    let e : nat_eq (sp % 8) 0 ≡ true = search (nat_tests, arith) in
    rw e (omega arith)

no_pad_at : (sp : ℕ) → sp % 8 ≡ 0 → has_pad sp ≡ false
no_pad_at sp a = let e : nat_eq (sp % 8) 0 ≡ true = search (nat_tests, arith) in rw e refl

clear_bit : (n : ℕ) → nat_eq (n % 2) 1 ≡ false → n % 2 ≡ 0
clear_bit n e = grind (arith, nat_tests)

pub low_address : (a : ℕ) → a < 0xE0000000 → in_system a ≡ false
low_address a h = let e : nat_lt a 0xE0000000 ≡ true = search (nat_tests, arith) in rw e refl

refused_verdict : (p : ProtectionState) (kind : Access) (w a : ℕ) → a % w ≡ 0 → a < 0xE0000000 → by_mpu p kind a ≡ false → verdict by_mpu p kind w a ≡ Refused
unfolding verdict
refused_verdict p kind w a al low nope =
    let x : nat_eq (a % w) 0 ≡ true = search (nat_tests, arith) in
    let y = low_address a low in
    rw (x, y, nope) refl

-- the pushed words, with this return address
pub record Pushed (i : Image) (c : CoreRegisters) (ret psp : ℕ) (memory : List ℕ) : Type 0 where
  pub low : (k : ℕ) → k < 4 → stacked i psp memory k ≡ get_or c.low k 0
  pub r12 : stacked i psp memory 4 ≡ get_or c.high 4 0
  pub link : stacked i psp memory 5 ≡ c.lr
  pub return_address : stacked i psp memory 6 ≡ ret
  pub status : stacked i psp memory 7 ≡ stacked_status c.flags false

module _ (laws : ThreadLaws) (i : Image) (t : Tables) (p : Placed i t) (m : MonitorBlock) (s : State) (h : InvariantHolds i t m s) (room : StackHasRoom i t m s) where
  -- the stack lies low, in RAM
  pub stack_places : (i.ram_base ≤ t.stack.base) × (t.stack.base + t.stack.size ≤ i.ram_base + i.ram_size) × (i.ram_base + i.ram_size ≤ 0x40000000)
  stack_places =
      let e = p.stack_base in
      let z = p.stack_size in
      let x = p.stack.place in
      let lo = x.0 in
      let hi = x.1 in
      let r = p.rules.ram_highest in
      let q = p.rules.ram_most in
      (omega (arith, e, lo), omega (arith, e, z, hi), omega (arith, r, q))

  pub sp_low : s.core.sp < 2 ^ 30 + 1
  sp_low =
      let a = room.high in
      let b = top_inside laws.unit i t p m (context_of s) s.ram h.inv in
      let c = stack_places in
      let d = c.1 in
      let e = c.2 in
      omega (arith, a, b, d, e)

  pub psp_is : frame_at s.core.sp ≡ s.core.sp - 32
  psp_is = let l = room.low in let z = sp_low in frame_is s.core.sp room.aligned (omega (arith, l)) (omega (arith, z))

  pub from_base : t.stack.base ≤ frame_at s.core.sp
  from_base = let l = room.low in let q : t.stack.base ≤ s.core.sp - 32 = omega (arith, l) in subst (λ (a : ℕ). t.stack.base ≤ a) (sym psp_is) q

  pub below_top : frame_at s.core.sp + 32 ≤ m.top
  below_top = let l = room.low in let u = room.high in let q : s.core.sp - 32 + 32 ≤ m.top = omega (arith, l, u) in subst (λ (a : ℕ). a + 32 ≤ m.top) (sym psp_is) q

  pub back_up : frame_at s.core.sp + 32 ≡ s.core.sp
  back_up = let l = room.low in let q : s.core.sp - 32 + 32 ≡ s.core.sp = omega (arith, l) in ap (λ (a : ℕ). a + 32) psp_is ∙ q

  pub open_frame : is_frame_open by_mpu i s ≡ true
  open_frame =
      let l = room.low in
      let u = room.high in
      let places = stack_places in
      let lo = places.0 in
      let hi = places.1 in
      let top = top_inside laws.unit i t p m (context_of s) s.ram h.inv in
      let may : (k : ℕ) → k < 8 → by_mpu s.protection Write (s.core.sp - 32 + 4 * k) ≡ true =
      λ k lt. writes_stack laws.unit i t p m (context_of s) s.ram h.inv (s.core.sp - 32 + 4 * k) (omega (arith, l)) (omega (arith, l, u, lt)) in
      subst (λ (a : ℕ). all_open by_mpu i s.protection Write a 8 ≡ true) (sym psp_is)
      (all_are_open by_mpu i s.protection 8 (s.core.sp - 32) (s.core.sp - 32 - i.ram_base) (omega (arith, l, lo)) (omega (arith, l, lo, u, top, hi)) places.2 may)

  -- ---- the words of the frame

  module _ (n ret : ℕ) (u : FaultStatus) (small : ret < 2 ^ 32) where
    pub pushed : Pushed i s.core ret (frame_at s.core.sp) (entered true i n ret u s).to.ram
    pushed = record {
      low = λ k lt. frame_word laws.frames i p.rules s h.fits open_frame n ret u k ∙ first k lt;
      r12 = frame_word laws.frames i p.rules s h.fits open_frame n ret u 4 ∙ cut_small 4 (get_or s.core.high 4 0) (h.fits.core.high_words 4);
      link = frame_word laws.frames i p.rules s h.fits open_frame n ret u 5 ∙ cut_small 4 s.core.lr h.fits.core.lr_word;
      return_address = frame_word laws.frames i p.rules s h.fits open_frame n ret u 6 ∙ cut_small 4 ret small;
      status = frame_word laws.frames i p.rules s h.fits open_frame n ret u 7 ∙ ap (λ (b : Bool). cut 4 (stacked_status s.core.flags b)) (no_pad_at s.core.sp room.aligned) ∙ cut_small 4 (stacked_status s.core.flags false) (laws.status s.core.flags false).fits;
    }
      where
        first : (k : ℕ) → k < 4 → get_or (cut_words (frame_of s.core ret)) k 0 ≡ get_or s.core.low k 0
        first zero lt = cut_small 4 (get_or s.core.low 0 0) (h.fits.core.low_words 0)
        first (suc zero) lt = cut_small 4 (get_or s.core.low 1 0) (h.fits.core.low_words 1)
        first (suc (suc zero)) lt = cut_small 4 (get_or s.core.low 2 0) (h.fits.core.low_words 2)
        first (suc (suc (suc zero))) lt = cut_small 4 (get_or s.core.low 3 0) (h.fits.core.low_words 3)
        first (suc (suc (suc (suc k)))) lt = absurd (omega (arith, lt))

  -- ---- what the turns are

  module _ (live : s.ending ≡ None) where
    pub svc_turn : (n : ℕ) → Lies i s.core.pc (svc n) → by_mpu s.protection Fetch s.core.pc ≡ true → turn by_mpu i s ≡ entered true i supervisor_call (s.core.pc + 2) s.status s
    unfolding act encode perform
    svc_turn n lies may =
        let st : Stands by_mpu i s.protection s.core.pc (svc n) = record { lies = lies; may_fetch = may } in
        let called : turn by_mpu i s ≡ call s.protection.handler by_mpu i (s.core.pc + 2) s = performed_at laws.performed by_mpu i s (svc n) live st in
        called ∙ ap (λ (b : Bool). call b by_mpu i (s.core.pc + 2) s) h.inv.thread ∙ ap (λ (b : Bool). entered b i supervisor_call (s.core.pc + 2) s.status s) open_frame

    pub is_svc : (n : ℕ) → Lies i s.core.pc (svc n) → (n < 256) × IsSvc i t n s
    unfolding encode
    is_svc n lies = (lies.in_table.1, lies.code)

    -- a refused access of data, by what the instruction asks for
    fault_turn : (a : ℕ) → fault_by s.protection.handler (is_fault_enabled s.status) by_mpu i (data_status a s.status) s ≡ entered true i mem_manage s.core.pc (record s.status { cfsr = 0x82; mmfar = a }) s
    fault_turn a =
        let on : is_fault_enabled s.status ≡ true = ap (λ (k : ℕ). nat_eq (k / 2 ^ 16 % 2) 1) h.inv.enabled in
        let one : fault_by s.protection.handler (is_fault_enabled s.status) by_mpu i (data_status a s.status) s ≡ fault_by false true by_mpu i (data_status a s.status) s =
        ap₂ (λ (x y : Bool). fault_by x y by_mpu i (data_status a s.status) s) h.inv.thread on in
        let two : fault_by false true by_mpu i (data_status a s.status) s ≡ entered true i mem_manage s.core.pc (data_status a s.status) s = ap (λ (b : Bool). entered b i mem_manage s.core.pc (data_status a s.status) s) open_frame in
        let three : entered true i mem_manage s.core.pc (data_status a s.status) s ≡ entered true i mem_manage s.core.pc (record s.status { cfsr = 0x82; mmfar = a }) s =
        ap (λ (c : ℕ). entered true i mem_manage s.core.pc (record s.status { cfsr = bit_or c 0x82; mmfar = a }) s) h.inv.no_fault in
        one ∙ two ∙ three

    pub store_refused : (w a v : ℕ) (c : CoreRegisters) → a % w ≡ 0 → a < 0xE0000000 → by_mpu s.protection Write a ≡ false →
        perform by_mpu i (Stores w a v c) s ≡ entered true i mem_manage s.core.pc (record s.status { cfsr = 0x82; mmfar = a }) s
    unfolding perform
    store_refused w a v c al low nope =
        let e = refused_verdict s.protection Write w a al low nope in
        rw e (fault_turn a)

    pub load_refused : (w a : ℕ) (go : ℕ → CoreRegisters) → a % w ≡ 0 → a < 0xE0000000 → by_mpu s.protection Read a ≡ false →
        perform by_mpu i (Loads w a go) s ≡ entered true i mem_manage s.core.pc (record s.status { cfsr = 0x82; mmfar = a }) s
    unfolding perform
    load_refused w a go al low nope =
        let e = refused_verdict s.protection Read w a al low nope in
        rw e (fault_turn a)

  -- ---- what the status word of the thread's frame tells

  pub tells : (psp : ℕ) (memory : List ℕ) → stacked i psp memory 7 ≡ stacked_status s.core.flags false →
      (is_thread (stacked i psp memory 7) ≡ true) × (nat_eq (stacked i psp memory 7 / 2 ^ 9 % 2) 1 ≡ false) × (stacked i psp memory 7 / 2 ^ 9 % 2 ≡ 0)
  tells psp memory e =
      let k = laws.status s.core.flags false in
      let pad = ap (λ (n : ℕ). nat_eq (n / 2 ^ 9 % 2) 1) e ∙ k.pad_bit in
      (ap (λ (n : ℕ). is_thread n) e ∙ k.thread, pad, clear_bit (stacked i psp memory 7 / 2 ^ 9) pad)
