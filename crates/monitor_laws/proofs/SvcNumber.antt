-- The handler of SVC up to its number, and the whole of it for numbers of unlend and above.
use Rattle.std.proofs.Common.{◌≡◌, ◌≢◌, ℕ, ◌+◌, ◌-◌, ◌*◌, ◌%◌, ◌^◌, ◌<◌, ◌≤◌, true, false, List, [], length, nat_eq, refl, ap, ◌∙◌, arith}
use Rattle.std.proofs.lemmas.Bool.Decides.{nat_tests}
use Rattle.base_words.specs.Arithmetic.{subtract}
use Rattle.base_words.specs.Bytes.{read, write}
use Rattle.base_words.specs.declared.memory.Width.TheVariants.{Byte}
use Rattle.machine_protection.specs.declared.TheConstants.{MPU_CTRL}
use Rattle.machine_devices.specs.declared.image.Image.{Image}
use Rattle.machine_model.specs.declared.state.ProtectionState.{ProtectionState}
use Rattle.machine_model.specs.declared.state.FaultStatus.{FaultStatus}
use Rattle.machine_model.specs.State.{by_mpu, is_unprivileged}
use Rattle.monitor_steps.specs.Steps.{PrivilegedSteps}
use Rattle.monitor_steps.specs.Core.{Core}
use Rattle.monitor_steps.specs.Effect.{Outcome, Halted, AtReturn}
use Rattle.monitor_steps.proofs.Within.{GivesWithin, const_within, alu_within, at_within, more_within, yes_within, no_within, next_within, halt_within, load_within, load_flash_within}
use Rattle.monitor_model.specs.Records.{stack_end}
use Rattle.monitor_program.specs.Constants.{Constants, constants_with}
use Rattle.monitor_program.specs.Opening.{opened}
use Rattle.monitor_program.specs.Svc.{svc_number, by_number as lists_by_number, svc}
use Rattle.monitor_laws.proofs.Off.{core, with_unit, IsOff, open_while_off}
use Rattle.monitor_laws.proofs.Placement.{writable}
use Rattle.monitor_laws.proofs.Opened.{FrameIsOpen, opened_within, HandlerPremises}
use Rattle.monitor_laws.proofs.Unlend.{unlend_within}

-- SVC #n stands in flash before a return address
pub record Called (i : Image) (ret n : ℕ) : Type 0 where
  pub offset : ℕ
  pub at : ret ≡ i.flash_base + offset + 2
  pub room : offset + 2 ≤ length i.flash
  pub half : read 2 offset i.flash ≡ 0xDF00 + n
  pub byte : n < 256

low_byte : (o n : ℕ) (flash : List ℕ) → read 2 o flash ≡ 0xDF00 + n → n < 256 → read 1 o flash ≡ n
unfolding read
low_byte o n flash h b = omega (arith, h, b)

module _ (premises : HandlerPremises) where
  open premises use {installed, installed.{image as i, tables as t, placed as p, stub}, Good, Allowed, entry_top, handles}

  abbrev k : Constants
  k = constants_with stub t

  abbrev W : ℕ → PrivilegedSteps → List PrivilegedSteps → Core → (Outcome → Type 0) → Type 0
  W n s ks c Q = GivesWithin by_mpu i Good Allowed n s ks c Q

  abbrev block : ℕ
  block = t.monitor - i.ram_base

  -- by the number
  abbrev pub by_number : PrivilegedSteps
  by_number = lists_by_number k

  -- up to the number
  abbrev pub numbered : PrivilegedSteps → PrivilegedSteps
  numbered rest = opened k (svc_number rest)

  module _ {msp psp : ℕ} {u : FaultStatus} where
    -- the number into r5, the return address in r4: 54 steps
    pub numbered_within : {b : ℕ} {s : PrivilegedSteps} {Q : Outcome → Type 0} {q : ProtectionState} (o n : ℕ) {m : List ℕ} {a0 a1 a2 a3 a4 a5 a6 a7 : ℕ} → q.handler ≡ true → is_unprivileged q ≡ false → psp ≡ i.ram_base + o → o % 4 ≡ 0 → o < 2 ^ 31 → read 4 (block + 4) m ≤ stack_end t → read 4 (block + 4) m ≤ entry_top → Called i (read 4 (o + 24) m) n →
        ((d : Core) → d.ram ≡ m → (FrameIsOpen i t o m → ⊥) → Q (Halted 4 d)) →
        ((q1 : ProtectionState) → q1 ≡ with_unit q (record q.mpu { control = 0 }) → IsOff true q1 → FrameIsOpen i t o m → W b s [] (core msp psp q1 u m psp k.block k.stack (read 4 (block + 4) m) (read 4 (o + 24) m) n MPU_CTRL 0) Q) →
        W (54 + b) (numbered s) [] (core msp psp q u m a0 a1 a2 a3 a4 a5 a6 a7) Q
    numbered_within {b} {s} {Q} o n {m} h un ep ao small et below called refuse go =
        more_within
        (opened_within premises o h un ep ao small et below refuse (λ q1 v4 eq off f.
        load_within p.rules (o + 24) (open_while_off q1 off.control) (frame_at ep) (aligned ao) (room f.high) (handles.stack_load _ (o + 24) (later f.low) (earlier f.high) (at_entry f.high)) (λ x4 e4.
        const_within (alu_within (λ x5 e5.
        load_flash_within p.rules called.offset {z = Byte} (open_while_off q1 off.control) (before x4 x5 e4 e5) (omega arith) (inside called.room) (handles.plain.flash _ 1 called.offset (one called.room)) (λ y5 f5.
        at_within (ap (λ x. core msp psp q1 u m psp k.block k.stack (read 4 (block + 4) m) x y5 MPU_CTRL 0) e4 ∙ ap (λ y. core msp psp q1 u m psp k.block k.stack (read 4 (block + 4) m) (read 4 (o + 24) m) y MPU_CTRL 0) (f5 ∙ low_byte called.offset n i.flash called.half called.byte))
        (go q1 eq off f))))))) (omega arith)
      where
        frame_at : psp ≡ i.ram_base + o → psp + 4 * 6 ≡ i.ram_base + (o + 24)
        frame_at e = omega (arith, e)

        aligned : o % 4 ≡ 0 → (o + 24) % 4 ≡ 0
        aligned a = omega (arith, a)

        room : i.ram_base + o + 32 ≤ read 4 (block + 4) m → o + 24 + 4 ≤ i.ram_size
        room x = let a = (writable installed).stack_inside.1 in omega (arith, x, a, et)

        later : t.stack.base ≤ i.ram_base + o → t.stack.base ≤ i.ram_base + (o + 24)
        later l = omega (arith, l)

        earlier : i.ram_base + o + 32 ≤ read 4 (block + 4) m → i.ram_base + (o + 24 + 4) ≤ read 4 (block + 4) m
        earlier x = omega (arith, x)

        at_entry : i.ram_base + o + 32 ≤ read 4 (block + 4) m → i.ram_base + (o + 24 + 4) ≤ entry_top
        at_entry x = omega (arith, x, below)

        before : (x4 x5 : ℕ) → x4 ≡ read 4 (o + 24) m → x5 ≡ subtract x4 2 → x5 + 1 * 0 ≡ i.flash_base + called.offset
        before x4 x5 a e = let r = called.at in let s = called.room in let y = p.rules.flash_highest in let z = p.rules.flash_most in omega (arith, a, e, r, s, y, z)

        inside : called.offset + 2 ≤ length i.flash → called.offset < length i.flash
        inside a = omega (arith, a)

        one : called.offset + 2 ≤ length i.flash → called.offset + 1 ≤ length i.flash
        one a = omega (arith, a)

    pub number_within : {b : ℕ} {Q : Outcome → Type 0} {q : ProtectionState} (o n : ℕ) {m : List ℕ} {a0 a1 a2 a3 a4 a5 a6 a7 : ℕ} → q.handler ≡ true → is_unprivileged q ≡ false → psp ≡ i.ram_base + o → o % 4 ≡ 0 → o < 2 ^ 31 → read 4 (block + 4) m ≤ stack_end t → read 4 (block + 4) m ≤ entry_top → Called i (read 4 (o + 24) m) n →
        ((d : Core) → d.ram ≡ m → (FrameIsOpen i t o m → ⊥) → Q (Halted 4 d)) →
        ((q1 : ProtectionState) → q1 ≡ with_unit q (record q.mpu { control = 0 }) → IsOff true q1 → FrameIsOpen i t o m → W b by_number [] (core msp psp q1 u m psp k.block k.stack (read 4 (block + 4) m) (read 4 (o + 24) m) n MPU_CTRL 0) Q) →
        W (54 + b) (svc k) [] (core msp psp q u m a0 a1 a2 a3 a4 a5 a6 a7) Q
    number_within o n h un ep ao small et below called refuse go =
        numbered_within o n h un ep ao small et below called refuse go

    -- above 3: halt 1
    pub above_within : {Q : Outcome → Type 0} {q : ProtectionState} (n : ℕ) {m : List ℕ} {a0 a1 a2 a3 a4 a6 a7 : ℕ} → 3 < n → ((d : Core) → d.ram ≡ m → Q (Halted 1 d)) → W 25 by_number [] (core msp psp q u m a0 a1 a2 a3 a4 n a6 a7) Q
    above_within n h f =
        more_within
        (const_within (no_within (other 3 (omega (arith, h))) (next_within (const_within (no_within (other 2 (omega (arith, h))) (next_within (const_within (no_within (other 0 (omega (arith, h))) (next_within (const_within (no_within (other 1 (omega (arith, h))) (next_within (halt_within (f _ refl)))))))))))))) (omega arith)
      where
        other : (j : ℕ) → j < n → nat_eq n j ≡ false
        other j lt = search (nat_tests, arith)

    -- 3: unlend
    pub three_within : {Q : Outcome → Type 0} {q : ProtectionState} {m : List ℕ} {a0 a2 a3 a4 a6 a7 : ℕ} → IsOff true q → Good (with_unit q (record q.mpu { control = 5 })) →
        ((d : Core) → d.ram ≡ m → read 4 (block + 12) m ≡ read 4 (block + 16) m → Q (Halted 6 d)) →
        ((q1 : ProtectionState) (new : List ℕ) (v4 : ℕ) → q1 ≡ with_unit q (record q.mpu { control = 5 }) → read 4 (block + 12) m ≢ read 4 (block + 16) m → new ≡ write 4 (block + 12) (subtract (read 4 (block + 12) m) 1) m → length new ≡ length m →
        Q (AtReturn (core msp psp q1 u new a0 k.block a2 a3 v4 1 MPU_CTRL 5))) →
        W 30 by_number [] (core msp psp q u m a0 k.block a2 a3 a4 3 a6 a7) Q
    three_within off on refuse go =
        more_within
        (const_within (yes_within refl
        (unlend_within premises off on refuse go))) (omega arith)
