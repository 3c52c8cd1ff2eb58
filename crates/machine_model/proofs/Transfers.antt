-- The loads and stores of generated code and the monitor, and what else goes over the stack or the special registers.
use Rattle.std.proofs.Common.{◌≡◌, ◌≢◌, ℕ, ◌+◌, ◌-◌, ◌*◌, ◌/◌, ◌%◌, ◌^◌, ◌<◌, Bool, true, false, ◌&&◌, List, [], ◌∷◌, get_or, set, nat_eq, refl, ap, arith}
use Rattle.std.proofs.lemmas.Bool.Decides.{nat_tests}
use Rattle.base_words.specs.declared.conditions.Flags.{Flags}
use Rattle.base_words.specs.Arithmetic.{word}
use Rattle.base_words.specs.Bytes.{read, write, cut, write_all}
use Rattle.machine_thumb.specs.declared.table.Instr.{Instr}
use Rattle.machine_thumb.specs.declared.table.Instr.TheVariants.{BranchExchange, LoadLiteral, TransferImmediate, StackRelative, AdjustStack, PushPop}
use Rattle.machine_protection.specs.declared.region.Access.{Access}
use Rattle.machine_protection.specs.declared.region.Access.TheVariants.{Read, Write}
use Rattle.machine_devices.specs.declared.image.Image.{Image}
use Rattle.machine_bus.specs.Locations.{InRam, InFlash, InWindow, location}
use Rattle.machine_model.specs.declared.state.CoreRegisters.{CoreRegisters}
use Rattle.machine_model.specs.declared.state.ProtectionState.{ProtectionState}
use Rattle.machine_model.specs.declared.state.End.TheVariants.{InputEnd}
use Rattle.machine_model.specs.State.{PermissionTest}
use Rattle.machine_model.specs.Act.{Changes, Exchanges}
use Rattle.machine_model.specs.Instructions.{act, listed}
use Rattle.machine_model.specs.declared.answers.Verdict.TheVariants.{ToBus}
use Rattle.machine_model.specs.Tests.{verdict}
use Rattle.machine_model.specs.Perform.{perform}
use Rattle.machine_model.specs.Code.{size, Stands, live, StepsQuietly}
use Rattle.machine_model.specs.Stack.{Words, words_at, May, Room}
use Rattle.machine_model.specs.Events.{StepsWith, input_event, output_event, ended}
use Rattle.machine_model.specs.RunningCode.{Context, body, works, IsLoad, IsStore}
use Rattle.machine_model.proofs.Exec.{steps_from}
use Rattle.machine_model.proofs.Acts.{turns, changes, loads_ram, loads_flash, loads_window, loads_nothing, stores_ram, stores_window}
use Rattle.machine_model.proofs.Stack.{word_verdict, stores_many, loads_many}
use Rattle.machine_model.proofs.StackWords.{head_place}
use Rattle.machine_model.proofs.ToSystem.{to_bus}

-- ---- words below a stack pointer

pushed_address : (i : Image) (sp o n k : ℕ) → Words i sp o n → k < n → word (sp + 4 * k) ≡ sp + 4 * k
pushed_address i sp o n k w h = omega (arith, w.is_at, w.fits, w.low)

pushed_words : (i : Image) (sp o n k : ℕ) → Words i sp o n → k < n → Words i (word (sp + 4 * k)) (o + 4 * k) 1
pushed_words i sp o n k w h =
    let e = pushed_address i sp o n k w h in
    rw e (record { is_at = omega (arith, w.is_at); aligned = omega (arith, w.aligned); fits = omega (arith, w.fits); low = w.low })

pushed_place : (i : Image) (sp o n k : ℕ) → Words i sp o n → k < n → location i (word (sp + 4 * k)) ≡ InRam (o + 4 * k)
pushed_place i sp o n k w h = head_place i (word (sp + 4 * k)) (o + 4 * k) 0 (pushed_words i sp o n k w h)

pushed_verdict : (j : PermissionTest) (i : Image) (p : ProtectionState) (kind : Access) (sp o n k : ℕ) → Words i sp o n → May j p kind sp n → k < n → verdict j p kind 4 (word (sp + 4 * k)) ≡ ToBus
pushed_verdict j i p kind sp o n k w m h =
    let e = pushed_address i sp o n k w h in
    word_verdict j i p kind (word (sp + 4 * k)) (o + 4 * k) 0 (pushed_words i sp o n k w h) (rw e (m k h))

-- ---- widths

pub loads_words : IsLoad 1 4
loads_words k b t next c = refl

pub loads_halves : IsLoad 5 2
loads_halves k b t next c = refl

pub loads_bytes : IsLoad 3 1
loads_bytes k b t next c = let e : 1 * k ≡ k = omega arith in rw e

pub stores_words : IsStore 0 4
stores_words k b t next c = refl

pub stores_halves : IsStore 4 2
stores_halves k b t next c = refl

pub stores_bytes : IsStore 2 1
stores_bytes k b t next c = let e : 1 * k ≡ k = omega arith in rw e

-- an address of no exception return
pub not_return : (handler : Bool) (v n : ℕ) → v ≢ n → handler && nat_eq v n ≡ false
not_return false v n h = refl
not_return true v n h = search (nat_tests, arith)

module _ (j : PermissionTest) (i : Image) (x : Context) (low : List ℕ) (sp lr pc : ℕ) (f : Flags) (ram : List ℕ) (queues : List (List ℕ)) where
  by_change : (y : Instr) (d : CoreRegisters) → act y (pc + size y) (body x low sp lr pc f) ≡ Changes d → Stands j i x.protection pc y → StepsQuietly j i (works x low sp lr pc f ram queues) (live d x.protection x.status ram queues)
  by_change y d e st = changes j i (body x low sp lr pc f) x.protection x.status ram queues y d st e

  -- ---- the stack

  -- LDR t, [sp, #4 k] and STR
  pub ldr_sp : (t k o n : ℕ) → Room j i x.protection sp o n → k < n → Stands j i x.protection pc (StackRelative 1 t 0 k) →
      StepsQuietly j i (works x low sp lr pc f ram queues) (works x (set low t (read 4 (o + 4 * k) ram)) sp lr (pc + 2) f ram queues)
  unfolding act
  ldr_sp t k o n r h st =
      let v = pushed_verdict j i x.protection Read sp o n k r.words r.reads h in
      let l = pushed_place i sp o n k r.words h in
      loads_ram j i (body x low sp lr pc f) x.protection x.status ram queues (StackRelative 1 t 0 k) 4 (word (sp + 4 * k)) (o + 4 * k) (λ u. body x (set low t u) sp lr (pc + 2) f) st refl v l

  pub str_sp : (t k o n : ℕ) → Room j i x.protection sp o n → k < n → Stands j i x.protection pc (StackRelative 0 t 0 k) →
      StepsQuietly j i (works x low sp lr pc f ram queues) (works x low sp lr (pc + 2) f (write 4 (o + 4 * k) (get_or low t 0) ram) queues)
  unfolding act
  str_sp t k o n r h st =
      let v = pushed_verdict j i x.protection Write sp o n k r.words r.writes h in
      let l = pushed_place i sp o n k r.words h in
      stores_ram j i (body x low sp lr pc f) x.protection x.status ram queues (StackRelative 0 t 0 k) 4 (word (sp + 4 * k)) (o + 4 * k) (get_or low t 0) (body x low sp lr (pc + 2) f) st refl v l

  -- ADD d, sp, #4 k
  pub add_d_sp : (d k : ℕ) → sp + 4 * k < 2 ^ 32 → Stands j i x.protection pc (StackRelative 2 0 d k) →
      StepsQuietly j i (works x low sp lr pc f ram queues) (works x (set low d (sp + 4 * k)) sp lr (pc + 2) f ram queues)
  unfolding act
  add_d_sp d k h st =
      let e : word (sp + 4 * k) ≡ sp + 4 * k = omega arith in
      by_change (StackRelative 2 0 d k) (body x (set low d (sp + 4 * k)) sp lr (pc + 2) f) (rw e refl) st

  -- ADD sp, #4 k and SUB
  pub add_sp : (k : ℕ) → sp + 4 * k < 2 ^ 32 → Stands j i x.protection pc (AdjustStack 0 k) →
      StepsQuietly j i (works x low sp lr pc f ram queues) (works x low (sp + 4 * k) lr (pc + 2) f ram queues)
  unfolding act
  add_sp k h st =
      let e : word (sp + 4 * k) ≡ sp + 4 * k = omega arith in
      by_change (AdjustStack 0 k) (body x low (sp + 4 * k) lr (pc + 2) f) (rw e refl) st

  pub sub_sp : (k to : ℕ) → to + 4 * k ≡ sp → sp < 2 ^ 32 → Stands j i x.protection pc (AdjustStack 1 k) →
      StepsQuietly j i (works x low sp lr pc f ram queues) (works x low to lr (pc + 2) f ram queues)
  unfolding act
  sub_sp k to is h st =
      let e : word (sp + 2 ^ 32 - 4 * k) ≡ to = omega arith in
      by_change (AdjustStack 1 k) (body x low to lr (pc + 2) f) (rw e refl) st

  -- PUSH {lr} and POP {pc}
  pub push_lr : (to o : ℕ) → to + 4 ≡ sp → Room j i x.protection to o 1 → Stands j i x.protection pc (PushPop 0 1 0 0) →
      StepsQuietly j i (works x low sp lr pc f ram queues) (works x low to lr (pc + 2) f (write 4 o lr ram) queues)
  unfolding act listed write_all
  push_lr to o is r st =
      let w = r.words in
      let e : word (sp + 2 ^ 32 - 4) ≡ to = omega (arith, w.is_at, w.fits, w.low) in
      stores_many j i (body x low sp lr pc f) x.protection x.status ram queues (PushPop 0 1 0 0) to o (lr ∷ []) (body x low to lr (pc + 2) f) st (rw e refl) r.words r.writes

  pub pop_pc : (o to : ℕ) → Room j i x.protection sp o 1 → read 4 o ram ≡ to + 1 → to % 2 ≡ 0 → Stands j i x.protection pc (PushPop 1 0 1 0) →
      StepsQuietly j i (works x low sp lr pc f ram queues) (works x low (sp + 4) lr to f ram queues)
  unfolding act listed words_at
  pop_pc o to r is even st =
      let w = r.words in
      let e : word (sp + 4) ≡ sp + 4 = omega (arith, w.is_at, w.fits, w.low) in
      let odd : nat_eq ((to + 1) % 2) 1 ≡ true = search (nat_tests, arith) in
      let d : to + 1 - 1 ≡ to = omega arith in
      loads_many j i (body x low sp lr pc f) x.protection x.status ram queues (PushPop 1 0 1 0) sp o 1 _ (body x low (sp + 4) lr to f) st refl r.words r.reads (rw (is, odd, e, d) refl)

  -- ---- LDR, LDRH and LDRB t, [n, #w k]

  pub load_ram : (op w k n t a o : ℕ) → IsLoad op w → word (get_or low n 0 + w * k) ≡ a → a % w ≡ 0 → a < 0xE0000000 → j x.protection Read a ≡ true → location i a ≡ InRam o → Stands j i x.protection pc (TransferImmediate op k n t) →
      StepsQuietly j i (works x low sp lr pc f ram queues) (works x (set low t (read w o ram)) sp lr (pc + 2) f ram queues)
  unfolding act
  load_ram op w k n t a o is at aligned below may l st =
      let e = is k (get_or low n 0) t (pc + 2) (body x low sp lr pc f) in
      loads_ram j i (body x low sp lr pc f) x.protection x.status ram queues (TransferImmediate op k n t) w a o (λ u. body x (set low t u) sp lr (pc + 2) f) st (rw (e, at) refl) (to_bus j x.protection Read w a aligned below may) l

  pub load_flash : (op w k n t a o : ℕ) → IsLoad op w → word (get_or low n 0 + w * k) ≡ a → a % w ≡ 0 → a < 0xE0000000 → j x.protection Read a ≡ true → location i a ≡ InFlash o → Stands j i x.protection pc (TransferImmediate op k n t) →
      StepsQuietly j i (works x low sp lr pc f ram queues) (works x (set low t (read w o i.flash)) sp lr (pc + 2) f ram queues)
  unfolding act
  load_flash op w k n t a o is at aligned below may l st =
      let e = is k (get_or low n 0) t (pc + 2) (body x low sp lr pc f) in
      loads_flash j i (body x low sp lr pc f) x.protection x.status ram queues (TransferImmediate op k n t) w a o (λ u. body x (set low t u) sp lr (pc + 2) f) st (rw (e, at) refl) (to_bus j x.protection Read w a aligned below may) l

  -- from a window, with its event; and where it has no word left
  pub load_window : (op w k n t a q o u : ℕ) (us : List ℕ) → IsLoad op w → word (get_or low n 0 + w * k) ≡ a → a % w ≡ 0 → a < 0xE0000000 → j x.protection Read a ≡ true → location i a ≡ InWindow q o → get_or queues q [] ≡ u ∷ us → Stands j i x.protection pc (TransferImmediate op k n t) →
      StepsWith j i (works x low sp lr pc f ram queues) (works x (set low t (cut w u)) sp lr (pc + 2) f ram (set queues q us)) (input_event i ram q o w u)
  unfolding act
  load_window op w k n t a q o u us is at aligned below may l some st =
      let e = is k (get_or low n 0) t (pc + 2) (body x low sp lr pc f) in
      loads_window j i (body x low sp lr pc f) x.protection x.status ram queues (TransferImmediate op k n t) w a q o u us (λ u. body x (set low t u) sp lr (pc + 2) f) st (rw (e, at) refl) (to_bus j x.protection Read w a aligned below may) l some

  pub load_nothing : (op w k n t a q o : ℕ) → IsLoad op w → word (get_or low n 0 + w * k) ≡ a → a % w ≡ 0 → a < 0xE0000000 → j x.protection Read a ≡ true → location i a ≡ InWindow q o → get_or queues q [] ≡ [] → Stands j i x.protection pc (TransferImmediate op k n t) →
      StepsQuietly j i (works x low sp lr pc f ram queues) (ended InputEnd (works x low sp lr pc f ram queues))
  unfolding act
  load_nothing op w k n t a q o is at aligned below may l none st =
      let e = is k (get_or low n 0) t (pc + 2) (body x low sp lr pc f) in
      loads_nothing j i (body x low sp lr pc f) x.protection x.status ram queues (TransferImmediate op k n t) w a q o (λ u. body x (set low t u) sp lr (pc + 2) f) st (rw (e, at) refl) (to_bus j x.protection Read w a aligned below may) l none

  -- LDR t, [pc, #4 k]
  pub ldr_literal : (k t a o : ℕ) → word ((pc + 4) / 4 * 4 + 4 * k) ≡ a → a % 4 ≡ 0 → a < 0xE0000000 → j x.protection Read a ≡ true → location i a ≡ InFlash o → Stands j i x.protection pc (LoadLiteral t k) →
      StepsQuietly j i (works x low sp lr pc f ram queues) (works x (set low t (read 4 o i.flash)) sp lr (pc + 2) f ram queues)
  unfolding act
  ldr_literal k t a o at aligned below may l st =
      let z : pc + 2 + 2 ≡ pc + 4 = omega arith in
      loads_flash j i (body x low sp lr pc f) x.protection x.status ram queues (LoadLiteral t k) 4 a o (λ u. body x (set low t u) sp lr (pc + 2) f) st (rw (z, at) refl) (to_bus j x.protection Read 4 a aligned below may) l

  -- ---- STR, STRH and STRB t, [n, #w k]

  pub store_ram : (op w k n t a o : ℕ) → IsStore op w → word (get_or low n 0 + w * k) ≡ a → a % w ≡ 0 → a < 0xE0000000 → j x.protection Write a ≡ true → location i a ≡ InRam o → Stands j i x.protection pc (TransferImmediate op k n t) →
      StepsQuietly j i (works x low sp lr pc f ram queues) (works x low sp lr (pc + 2) f (write w o (get_or low t 0) ram) queues)
  unfolding act
  store_ram op w k n t a o is at aligned below may l st =
      let e = is k (get_or low n 0) t (pc + 2) (body x low sp lr pc f) in
      stores_ram j i (body x low sp lr pc f) x.protection x.status ram queues (TransferImmediate op k n t) w a o (get_or low t 0) (body x low sp lr (pc + 2) f) st (rw (e, at) refl) (to_bus j x.protection Write w a aligned below may) l

  pub store_window : (op w k n t a q o : ℕ) → IsStore op w → word (get_or low n 0 + w * k) ≡ a → a % w ≡ 0 → a < 0xE0000000 → j x.protection Write a ≡ true → location i a ≡ InWindow q o → Stands j i x.protection pc (TransferImmediate op k n t) →
      StepsWith j i (works x low sp lr pc f ram queues) (works x low sp lr (pc + 2) f ram queues) (output_event i ram q o w (get_or low t 0))
  unfolding act
  store_window op w k n t a q o is at aligned below may l st =
      let e = is k (get_or low n 0) t (pc + 2) (body x low sp lr pc f) in
      stores_window j i (body x low sp lr pc f) x.protection x.status ram queues (TransferImmediate op k n t) w a q o (get_or low t 0) (body x low sp lr (pc + 2) f) st (rw (e, at) refl) (to_bus j x.protection Write w a aligned below may) l

  -- ---- jumps by registers

  -- BLX r12
  pub blx_r12 : (to : ℕ) → get_or x.high 4 0 ≡ to + 1 → to % 2 ≡ 0 → Stands j i x.protection pc (BranchExchange 1 12) →
      StepsQuietly j i (works x low sp lr pc f ram queues) (works x low sp (pc + 2 + 1) to f ram queues)
  unfolding act
  blx_r12 to is even st =
      let odd : nat_eq ((to + 1) % 2) 1 ≡ true = search (nat_tests, arith) in
      let d : to + 1 - 1 ≡ to = omega arith in
      by_change (BranchExchange 1 12) (body x low sp (pc + 2 + 1) to f) (rw (is, odd, d) refl) st

  -- BX lr that is no exception return
  pub bx_lr : (to : ℕ) → lr ≡ to + 1 → to % 2 ≡ 0 → to < 0xFFFFFFF0 → Stands j i x.protection pc (BranchExchange 0 14) →
      StepsQuietly j i (works x low sp lr pc f ram queues) (works x low sp lr to f ram queues)
  unfolding act perform
  bx_lr to is even below st =
      let a = not_return x.protection.handler (to + 1) 0xFFFFFFFD (omega arith) in
      let b = not_return x.protection.handler (to + 1) 0xFFFFFFF9 (omega arith) in
      let odd : nat_eq ((to + 1) % 2) 1 ≡ true = search (nat_tests, arith) in
      let d : to + 1 - 1 ≡ to = omega arith in
      steps_from (turns j i (body x low sp lr pc f) x.protection x.status ram queues (BranchExchange 0 14) (Exchanges (to + 1)) st (ap Exchanges is)) (rw (a, b, odd, d) refl) (rw (a, b, odd) refl)
