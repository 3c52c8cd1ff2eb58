-- The special registers and the system's registers, as privileged code uses them.
use Rattle.std.proofs.Common.{◌≡◌, ℕ, ◌+◌, ◌*◌, ◌/◌, ◌%◌, ◌<◌, true, false, List, get_or, set, nat_eq, nat_lt, refl, arith}
use Rattle.std.proofs.lemmas.Bool.Decides.{nat_tests}
use Rattle.base_words.specs.declared.conditions.Flags.{Flags}
use Rattle.base_words.specs.Arithmetic.{word}
use Rattle.machine_thumb.specs.declared.table.Instr.TheVariants.{TransferImmediate, SpecialRegister}
use Rattle.machine_protection.specs.declared.region.Access.TheVariants.{Read, Write}
use Rattle.machine_devices.specs.declared.image.Image.{Image}
use Rattle.machine_model.specs.State.{PermissionTest, is_unprivileged, bit_of}
use Rattle.machine_model.specs.Act.{Loads, Stores, GetsSpecial, SetsSpecial}
use Rattle.machine_model.specs.Instructions.{act}
use Rattle.machine_model.specs.System.{read_system, write_status}
use Rattle.machine_protection.specs.Registers.{write_register}
use Rattle.machine_model.specs.declared.answers.Verdict.TheVariants.{ToSystem}
use Rattle.machine_model.specs.Tests.{verdict}
use Rattle.machine_model.specs.Perform.{perform}
use Rattle.machine_model.specs.Code.{Stands, StepsQuietly}
use Rattle.machine_model.specs.RunningCode.{Context, body, works}
use Rattle.machine_model.proofs.Exec.{steps_from}
use Rattle.machine_model.proofs.Acts.{turns}
use Rattle.machine_model.proofs.InstructionEffects.{register_low, with_register_low}

module _ (j : PermissionTest) (i : Image) (x : Context) (low : List ℕ) (sp lr pc : ℕ) (f : Flags) (ram : List ℕ) (queues : List (List ℕ)) where
  -- MRS d, PSP and MSR PSP, n where MSP is in use
  pub mrs_psp : (d : ℕ) → d < 8 → is_unprivileged x.protection ≡ false → x.on_psp ≡ false → Stands j i x.protection pc (SpecialRegister 1 0 d 9) →
      StepsQuietly j i (works x low sp lr pc f ram queues) (works x (set low d x.other_sp) sp lr (pc + 4) f ram queues)
  unfolding act perform
  mrs_psp d h u m st =
      let e : nat_lt d 8 ≡ true = search (nat_tests, arith) in
      steps_from (turns j i (body x low sp lr pc f) x.protection x.status ram queues (SpecialRegister 1 0 d 9) (GetsSpecial 9 d (body x low sp lr (pc + 4) f)) st refl) (rw (u, m, e) refl) refl

  pub msr_psp : (n : ℕ) → n < 8 → is_unprivileged x.protection ≡ false → x.on_psp ≡ false → Stands j i x.protection pc (SpecialRegister 0 n 0 9) →
      StepsQuietly j i (works x low sp lr pc f ram queues) (works (record x { other_sp = get_or low n 0 / 4 * 4 }) low sp lr (pc + 4) f ram queues)
  unfolding act perform
  msr_psp n h u m st =
      let r = register_low (body x low sp lr pc f) n h in
      steps_from (turns j i (body x low sp lr pc f) x.protection x.status ram queues (SpecialRegister 0 n 0 9) (SetsSpecial 9 (get_or low n 0) (body x low sp lr (pc + 4) f)) st (rw r refl)) (rw (u, m) refl) refl

  -- MRS d, CONTROL
  pub mrs_control : (d : ℕ) → d < 8 → Stands j i x.protection pc (SpecialRegister 1 0 d 20) →
      StepsQuietly j i (works x low sp lr pc f ram queues) (works x (set low d (bit_of x.protection.unprivileged + 2 * bit_of x.on_psp)) sp lr (pc + 4) f ram queues)
  unfolding act perform
  mrs_control d h st =
      let e = with_register_low (body x low sp lr (pc + 4) f) d (bit_of x.protection.unprivileged + 2 * bit_of x.on_psp) h in
      steps_from (turns j i (body x low sp lr pc f) x.protection x.status ram queues (SpecialRegister 1 0 d 20) (GetsSpecial 20 d (body x low sp lr (pc + 4) f)) st refl) (rw e refl) refl

  -- MSR CONTROL, n in Handler mode, and in a privileged thread that goes over to PSP
  pub msr_control_in_handler : (n : ℕ) → n < 8 → x.protection.handler ≡ true → Stands j i x.protection pc (SpecialRegister 0 n 0 20) →
      StepsQuietly j i (works x low sp lr pc f ram queues)
      (works (record x { protection = record x.protection { unprivileged = nat_eq (get_or low n 0 % 2) 1 } }) low sp lr (pc + 4) f ram queues)
  unfolding act perform
  msr_control_in_handler n h m st =
      let r = register_low (body x low sp lr pc f) n h in
      steps_from (turns j i (body x low sp lr pc f) x.protection x.status ram queues (SpecialRegister 0 n 0 20) (SetsSpecial 20 (get_or low n 0) (body x low sp lr (pc + 4) f)) st (rw r refl)) (rw m refl) refl

  pub msr_control_to_psp : (n : ℕ) → n < 8 → x.protection.handler ≡ false → x.protection.unprivileged ≡ false → x.on_psp ≡ false → get_or low n 0 / 2 % 2 ≡ 1 → Stands j i x.protection pc (SpecialRegister 0 n 0 20) →
      StepsQuietly j i (works x low sp lr pc f ram queues)
      (works (record x { other_sp = sp; on_psp = true; protection = record x.protection { unprivileged = nat_eq (get_or low n 0 % 2) 1 } }) low x.other_sp lr (pc + 4) f ram queues)
  unfolding act perform
  msr_control_to_psp n h m u z v st =
      let r = register_low (body x low sp lr pc f) n h in
      let e : nat_eq (get_or low n 0 / 2 % 2) 1 ≡ true = search (nat_tests, arith) in
      steps_from (turns j i (body x low sp lr pc f) x.protection x.status ram queues (SpecialRegister 0 n 0 20) (SetsSpecial 20 (get_or low n 0) (body x low sp lr (pc + 4) f)) st (rw r refl)) (rw (m, u, e, z) refl) refl

  -- STR t, [n, #4 k] to a register of the system, and LDR
  pub store_system : (k n t a : ℕ) → word (get_or low n 0 + 4 * k) ≡ a → verdict j x.protection Write 4 a ≡ ToSystem → Stands j i x.protection pc (TransferImmediate 0 k n t) →
      StepsQuietly j i (works x low sp lr pc f ram queues)
      (works (record x { protection = record x.protection { mpu = write_register a (get_or low t 0) x.protection.mpu }; status = write_status a (get_or low t 0) x.status }) low sp lr (pc + 2) f ram queues)
  unfolding act perform
  store_system k n t a at v st =
      steps_from (turns j i (body x low sp lr pc f) x.protection x.status ram queues (TransferImmediate 0 k n t) (Stores 4 a (get_or low t 0) (body x low sp lr (pc + 2) f)) st (rw at refl)) (rw v refl) (rw v refl)

  pub load_system : (k n t a : ℕ) → word (get_or low n 0 + 4 * k) ≡ a → verdict j x.protection Read 4 a ≡ ToSystem → Stands j i x.protection pc (TransferImmediate 1 k n t) →
      StepsQuietly j i (works x low sp lr pc f ram queues) (works x (set low t (read_system a x.protection x.status)) sp lr (pc + 2) f ram queues)
  unfolding act perform
  load_system k n t a at v st =
      steps_from (turns j i (body x low sp lr pc f) x.protection x.status ram queues (TransferImmediate 1 k n t) (Loads 4 a (λ u. body x (set low t u) sp lr (pc + 2) f)) st (rw at refl)) (rw v refl) (rw v refl)
