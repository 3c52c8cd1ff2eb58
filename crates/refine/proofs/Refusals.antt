-- Steps that stop because the frame of the exception that they ask for may not be pushed.
use Rattle.std.proofs.Common.{◌≡◌, ℕ, suc, ◌+◌, ◌-◌, ◌*◌, ◌%◌, ◌^◌, ◌<◌, Bool, true, false, List, [], ◌∷◌, get_or, set, nat_eq, refl, ap, ap₂, ◌∙◌, arith}
use Rattle.std.proofs.lemmas.Bool.Decides.{nat_tests}
use Rattle.base_words.specs.declared.conditions.Flags.{Flags}
use Rattle.base_words.specs.Arithmetic.{word}
use Rattle.machine_thumb.specs.declared.table.Instr.TheVariants.{StackRelative, PushPop, TransferImmediate}
use Rattle.machine_thumb.specs.Table.{svc}
use Rattle.machine_protection.specs.declared.region.Access.{Access}
use Rattle.machine_protection.specs.declared.region.Access.TheVariants.{Read, Write}
use Rattle.machine_devices.specs.declared.image.Image.{Image}
use Rattle.machine_model.specs.declared.state.CoreRegisters.{CoreRegisters}
use Rattle.machine_model.specs.declared.state.FaultStatus.{FaultStatus}
use Rattle.machine_model.specs.declared.state.ProtectionState.{ProtectionState}
use Rattle.machine_model.specs.declared.state.StopReason.TheVariants.{Stacking}
use Rattle.machine_model.specs.declared.answers.Verdict.TheVariants.{Refused}
use Rattle.machine_model.specs.declared.answers.Verdicts.TheVariants.{RefusedAt}
use Rattle.machine_model.specs.State.{State, PermissionTest, stops}
use Rattle.machine_model.specs.Act.{Loads, Stores, StoresMany, Calls}
use Rattle.machine_model.specs.Instructions.{act, listed}
use Rattle.machine_model.specs.Tests.{all_open, verdict, verdicts}
use Rattle.machine_model.specs.Exceptions.{frame_at, entered, call, fault, fault_by, is_fault_enabled, is_frame_open, data_status, supervisor_call, mem_manage}
use Rattle.machine_model.specs.Perform.{perform}
use Rattle.machine_model.specs.Code.{Stands, StepsQuietly}
use Rattle.machine_model.specs.RunningCode.{Context, body, works, IsLoad, IsStore}
use Rattle.machine_model.proofs.Exec.{stepped}
use Rattle.monitor_sound.proofs.Room.{low_address}

-- a frame whose first word is refused
closed_words : (j : PermissionTest) (i : Image) (p : ProtectionState) (a n : ℕ) → j p Write a ≡ false → all_open j i p Write a (suc n) ≡ false
unfolding all_open
closed_words j i p a n e = rw e refl

pub closed_frame : (j : PermissionTest) (i : Image) (s : State) → j s.protection Write (frame_at s.core.sp) ≡ false → is_frame_open j i s ≡ false
closed_frame j i s e = closed_words j i s.protection (frame_at s.core.sp) 7 e

refused_word : (j : PermissionTest) (p : ProtectionState) (a : ℕ) → a % 4 ≡ 0 → a < 0xE0000000 → j p Write a ≡ false → verdict j p Write 4 a ≡ Refused
unfolding verdict
refused_word j p a al low nope =
    let x : nat_eq (a % 4) 0 ≡ true = search (nat_tests, arith) in
    let y = low_address a low in
    rw (x, y, nope) refl

refused_words : (j : PermissionTest) (i : Image) (p : ProtectionState) (a n : ℕ) → a % 4 ≡ 0 → a < 0xE0000000 → j p Write a ≡ false → verdicts j i p Write a (suc n) ≡ RefusedAt a
unfolding verdicts
refused_words j i p a n al low nope = let e = refused_word j p a al low nope in rw e refl

pub refused_width : (j : PermissionTest) (p : ProtectionState) (kind : Access) (w a : ℕ) → a % w ≡ 0 → a < 0xE0000000 → j p kind a ≡ false → verdict j p kind w a ≡ Refused
unfolding verdict
refused_width j p kind w a al low nope =
    let x : nat_eq (a % w) 0 ≡ true = search (nat_tests, arith) in
    let y = low_address a low in
    rw (x, y, nope) refl

-- a state of a thread whose frame is closed
pub record IsShut (j : PermissionTest) (i : Image) (s : State) : Type 0 where
  pub thread : s.protection.handler ≡ false
  pub enabled : is_fault_enabled s.status ≡ true
  pub shut : is_frame_open j i s ≡ false

module _ (j : PermissionTest) (i : Image) (s : State) (h : IsShut j i s) where
  fault_stops : (t : FaultStatus) → fault j i t s ≡ stops Stacking s
  fault_stops t = ap₂ (λ (a b : Bool). fault_by a b j i t s) h.thread h.enabled ∙ ap (λ (b : Bool). entered b i mem_manage s.core.pc t s) h.shut

  pub store_stops : (a v : ℕ) (c : CoreRegisters) → a % 4 ≡ 0 → a < 0xE0000000 → j s.protection Write a ≡ false → perform j i (Stores 4 a v c) s ≡ stops Stacking s
  unfolding perform
  store_stops a v c al low nope = let e = refused_word j s.protection a al low nope in rw e (fault_stops (data_status a s.status))

  pub push_stops : (a v : ℕ) (c : CoreRegisters) → a % 4 ≡ 0 → a < 0xE0000000 → j s.protection Write a ≡ false → perform j i (StoresMany a (v ∷ []) c) s ≡ stops Stacking s
  unfolding perform
  push_stops a v c al low nope = let e = refused_words j i s.protection a 0 al low nope in rw e (fault_stops (data_status a s.status))

  pub store_stops_at : (w a v : ℕ) (c : CoreRegisters) → a % w ≡ 0 → a < 0xE0000000 → j s.protection Write a ≡ false → perform j i (Stores w a v c) s ≡ stops Stacking s
  unfolding perform
  store_stops_at w a v c al low nope = let e = refused_width j s.protection Write w a al low nope in rw e (fault_stops (data_status a s.status))

  pub load_stops_at : (w a : ℕ) (go : ℕ → CoreRegisters) → a % w ≡ 0 → a < 0xE0000000 → j s.protection Read a ≡ false → perform j i (Loads w a go) s ≡ stops Stacking s
  unfolding perform
  load_stops_at w a go al low nope = let e = refused_width j s.protection Read w a al low nope in rw e (fault_stops (data_status a s.status))

  pub call_stops : (next : ℕ) → perform j i (Calls next) s ≡ stops Stacking s
  unfolding perform
  call_stops next = ap (λ (b : Bool). call b j i next s) h.thread ∙ ap (λ (b : Bool). entered b i supervisor_call next s.status s) h.shut

-- where the machine has stopped
abbrev pub stopped : State → State
stopped s = (stops Stacking s).to

module _ (j : PermissionTest) (i : Image) (x : Context) (low : List ℕ) (sp lr pc : ℕ) (f : Flags) (ram : List ℕ) (queues : List (List ℕ)) where
  abbrev here : State
  here = works x low sp lr pc f ram queues

  module _ (h : IsShut j i here) where
    -- STR t, [sp, #4 k]
    pub str_stops : (t k a : ℕ) → word (sp + 4 * k) ≡ a → a % 4 ≡ 0 → a < 0xE0000000 → j x.protection Write a ≡ false → Stands j i x.protection pc (StackRelative 0 t 0 k) → StepsQuietly j i here (stopped here)
    unfolding act
    str_stops t k a is al below nope st =
        let e = stepped j i (body x low sp lr pc f) x.protection x.status ram queues (StackRelative 0 t 0 k) st in
        let z = ap (λ (b : ℕ). perform j i (Stores 4 b (get_or low t 0) (body x low sp lr (pc + 2) f)) here) is in
        let w = e ∙ z ∙ store_stops j i here h a (get_or low t 0) (body x low sp lr (pc + 2) f) al below nope in
        record { leads = ap (λ u. u.to) w; quiet = ap (λ u. u.event) w }

    -- PUSH {lr}
    pub push_lr_stops : (to : ℕ) → to + 4 ≡ sp → sp < 2 ^ 32 → to % 4 ≡ 0 → to < 0xE0000000 → j x.protection Write to ≡ false → Stands j i x.protection pc (PushPop 0 1 0 0) → StepsQuietly j i here (stopped here)
    unfolding act listed
    push_lr_stops to is top al below nope st =
        let e = stepped j i (body x low sp lr pc f) x.protection x.status ram queues (PushPop 0 1 0 0) st in
        let a : word (sp + 2 ^ 32 - 4) ≡ to = omega (arith, is, top) in
        let z = ap (λ (b : ℕ). perform j i (StoresMany b (lr ∷ []) (body x low b lr (pc + 2) f)) here) a in
        let w = e ∙ z ∙ push_stops j i here h to lr (body x low to lr (pc + 2) f) al below nope in
        record { leads = ap (λ u. u.to) w; quiet = ap (λ u. u.event) w }

    -- SVC
    pub svc_stops : (n : ℕ) → Stands j i x.protection pc (svc n) → StepsQuietly j i here (stopped here)
    unfolding act
    svc_stops n st =
        let e = stepped j i (body x low sp lr pc f) x.protection x.status ram queues (svc n) st in
        let w = e ∙ call_stops j i here h (pc + 2) in
        record { leads = ap (λ u. u.to) w; quiet = ap (λ u. u.event) w }

    -- STR, STRH and STRB t, [n, #0], and LDR, LDRH and LDRB
    pub transfer_store_stops : (op w n t a : ℕ) → IsStore op w → get_or low n 0 ≡ a → a % w ≡ 0 → a < 0xE0000000 → j x.protection Write a ≡ false → Stands j i x.protection pc (TransferImmediate op 0 n t) → StepsQuietly j i here (stopped here)
    unfolding act
    transfer_store_stops op w n t a is at al below nope st =
        let e = is 0 (get_or low n 0) t (pc + 2) (body x low sp lr pc f) in
        let wa : word (a + w * 0) ≡ a = let z : w * 0 ≡ 0 = omega arith in omega (arith, z, below) in
        let b : word (get_or low n 0 + w * 0) ≡ a = ap (λ (y : ℕ). word (y + w * 0)) at ∙ wa in
        let q : act (TransferImmediate op 0 n t) (pc + 2) (body x low sp lr pc f) ≡ Stores w a (get_or low t 0) (body x low sp lr (pc + 2) f) = rw (e, b) refl in
        let s = stepped j i (body x low sp lr pc f) x.protection x.status ram queues (TransferImmediate op 0 n t) st in
        let u = s ∙ ap (λ y. perform j i y here) q ∙ store_stops_at j i here h w a (get_or low t 0) (body x low sp lr (pc + 2) f) al below nope in
        record { leads = ap (λ v. v.to) u; quiet = ap (λ v. v.event) u }

    pub transfer_load_stops : (op w n t a : ℕ) → IsLoad op w → get_or low n 0 ≡ a → a % w ≡ 0 → a < 0xE0000000 → j x.protection Read a ≡ false → Stands j i x.protection pc (TransferImmediate op 0 n t) → StepsQuietly j i here (stopped here)
    unfolding act
    transfer_load_stops op w n t a is at al below nope st =
        let e = is 0 (get_or low n 0) t (pc + 2) (body x low sp lr pc f) in
        let wa : word (a + w * 0) ≡ a = let z : w * 0 ≡ 0 = omega arith in omega (arith, z, below) in
        let b : word (get_or low n 0 + w * 0) ≡ a = ap (λ (y : ℕ). word (y + w * 0)) at ∙ wa in
        let q : act (TransferImmediate op 0 n t) (pc + 2) (body x low sp lr pc f) ≡ Loads w a (λ u. body x (set low t u) sp lr (pc + 2) f) = rw (e, b) refl in
        let s = stepped j i (body x low sp lr pc f) x.protection x.status ram queues (TransferImmediate op 0 n t) st in
        let u = s ∙ ap (λ y. perform j i y here) q ∙ load_stops_at j i here h w a (λ v. body x (set low t v) sp lr (pc + 2) f) al below nope in
        record { leads = ap (λ v. v.to) u; quiet = ap (λ v. v.event) u }
