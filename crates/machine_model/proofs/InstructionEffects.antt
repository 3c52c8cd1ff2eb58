-- The instructions that generated code and the monitor are made of, each as a step from a whole state to a whole state.
use Rattle.std.proofs.Common.{◌≡◌, ℕ, ℤ, ◌+◌, ◌*◌, ◌%◌, ◌^◌, ◌<◌, true, false, List, get_or, set, nat_lt, refl, arith}
use Rattle.std.proofs.lemmas.Bool.Decides.{nat_tests}
use Rattle.base_words.specs.declared.conditions.Flags.{Flags}
use Rattle.base_words.specs.Arithmetic.{moved, unsigned_quotient, signed_quotient}
use Rattle.base_words.specs.Flags.{holds, result_flags, compare_flags}
use Rattle.machine_thumb.specs.declared.table.Instr.{Instr}
use Rattle.machine_thumb.specs.declared.table.Instr.TheVariants.{ShiftImmediate, AddSubRegister, AddSubImmediate, DataImmediate, DataRegister, HighRegister, BreakpointNop, BranchConditional, CallBranch, BranchLink, BranchWide, MoveWide, MoveTop, Divide, Barrier}
use Rattle.machine_devices.specs.declared.image.Image.{Image}
use Rattle.machine_model.specs.declared.state.CoreRegisters.{CoreRegisters}
use Rattle.machine_model.specs.declared.state.End.TheVariants.{Halt}
use Rattle.machine_model.specs.State.{PermissionTest, register, with_register, with_low}
use Rattle.machine_model.specs.Act.{Changes}
use Rattle.machine_model.specs.declared.answers.Outcome.TheVariants.{Gives, Tests}
use Rattle.machine_model.specs.DataOperations.{shift_by, immediate_amount, add_or_subtract, immediate, operation}
use Rattle.machine_model.specs.Instructions.{act}
use Rattle.machine_model.specs.Code.{size, Stands, live, StepsQuietly}
use Rattle.machine_model.specs.Events.{ended}
use Rattle.machine_model.specs.RunningCode.{Context, body, works}
use Rattle.machine_model.proofs.Acts.{changes, halts}

-- ---- registers

pub register_low : (c : CoreRegisters) (k : ℕ) → k < 8 → register c k ≡ get_or c.low k 0
register_low c k h = let e : nat_lt k 8 ≡ true = search (nat_tests, arith) in rw e

pub with_register_low : (c : CoreRegisters) (k v : ℕ) → k < 8 → with_register c k v ≡ with_low c k v
with_register_low c k v h = let e : nat_lt k 8 ≡ true = search (nat_tests, arith) in rw e

module _ (j : PermissionTest) (i : Image) (x : Context) (low : List ℕ) (sp lr pc : ℕ) (f : Flags) (ram : List ℕ) (queues : List (List ℕ)) where
  abbrev goes : Instr → (d : CoreRegisters) → Type 0
  goes y d = Stands j i x.protection pc y → StepsQuietly j i (works x low sp lr pc f ram queues) (live d x.protection x.status ram queues)

  by_change : (y : Instr) (d : CoreRegisters) → act y (pc + size y) (body x low sp lr pc f) ≡ Changes d → goes y d
  by_change y d e st = changes j i (body x low sp lr pc f) x.protection x.status ram queues y d st e

  -- ---- numbers and registers

  -- MOVS d, #n
  pub movs : (d n : ℕ) → Stands j i x.protection pc (DataImmediate 0 d n) →
      StepsQuietly j i (works x low sp lr pc f ram queues) (works x (set low d n) sp lr (pc + 2) (result_flags f n) ram queues)
  unfolding act
  movs d n st = by_change (DataImmediate 0 d n) (body x (set low d n) sp lr (pc + 2) (result_flags f n)) refl st

  -- ADDS and SUBS d, #n, by what they give
  pub immediate_gives : (op d n v : ℕ) (g : Flags) → immediate op (get_or low d 0) n f ≡ Gives v g → Stands j i x.protection pc (DataImmediate op d n) →
      StepsQuietly j i (works x low sp lr pc f ram queues) (works x (set low d v) sp lr (pc + 2) g ram queues)
  unfolding act
  immediate_gives op d n v g e st = by_change (DataImmediate op d n) (body x (set low d v) sp lr (pc + 2) g) (rw e refl) st

  -- CMP d, #n
  pub cmp_immediate : (d n : ℕ) → Stands j i x.protection pc (DataImmediate 1 d n) →
      StepsQuietly j i (works x low sp lr pc f ram queues) (works x low sp lr (pc + 2) (compare_flags (get_or low d 0) n) ram queues)
  unfolding act
  cmp_immediate d n st = by_change (DataImmediate 1 d n) (body x low sp lr (pc + 2) (compare_flags (get_or low d 0) n)) refl st

  -- LSLS, LSRS, ASRS d, m, #n
  pub shift_gives : (op n m d v : ℕ) (g : Flags) → shift_by op (get_or low m 0) (immediate_amount op n) f ≡ Gives v g → Stands j i x.protection pc (ShiftImmediate op n m d) →
      StepsQuietly j i (works x low sp lr pc f ram queues) (works x (set low d v) sp lr (pc + 2) g ram queues)
  unfolding act
  shift_gives op n m d v g e st = by_change (ShiftImmediate op n m d) (body x (set low d v) sp lr (pc + 2) g) (rw e refl) st

  -- ADDS, SUBS d, n, m
  pub sum_gives : (op m n d v : ℕ) (g : Flags) → add_or_subtract op (get_or low n 0) (get_or low m 0) ≡ Gives v g → Stands j i x.protection pc (AddSubRegister op m n d) →
      StepsQuietly j i (works x low sp lr pc f ram queues) (works x (set low d v) sp lr (pc + 2) g ram queues)
  unfolding act
  sum_gives op m n d v g e st = by_change (AddSubRegister op m n d) (body x (set low d v) sp lr (pc + 2) g) (rw e refl) st

  -- ADDS, SUBS d, n, #k
  pub small_sum_gives : (op k n d v : ℕ) (g : Flags) → add_or_subtract op (get_or low n 0) k ≡ Gives v g → Stands j i x.protection pc (AddSubImmediate op k n d) →
      StepsQuietly j i (works x low sp lr pc f ram queues) (works x (set low d v) sp lr (pc + 2) g ram queues)
  unfolding act
  small_sum_gives op k n d v g e st = by_change (AddSubImmediate op k n d) (body x (set low d v) sp lr (pc + 2) g) (rw e refl) st

  -- AND EOR LSL LSR ASR ORR MUL BIC and the like: d and m, by what they give; for a known op the premise is refl
  pub operation_gives : (op m d v : ℕ) (g : Flags) → operation op (get_or low d 0) (get_or low m 0) f ≡ Gives v g → Stands j i x.protection pc (DataRegister op m d) →
      StepsQuietly j i (works x low sp lr pc f ram queues) (works x (set low d v) sp lr (pc + 2) g ram queues)
  unfolding act
  operation_gives op m d v g e st = by_change (DataRegister op m d) (body x (set low d v) sp lr (pc + 2) g) (rw e refl) st

  -- CMP, TST and CMN
  pub operation_tests : (op m d : ℕ) (g : Flags) → operation op (get_or low d 0) (get_or low m 0) f ≡ Tests g → Stands j i x.protection pc (DataRegister op m d) →
      StepsQuietly j i (works x low sp lr pc f ram queues) (works x low sp lr (pc + 2) g ram queues)
  unfolding act
  operation_tests op m d g e st = by_change (DataRegister op m d) (body x low sp lr (pc + 2) g) (rw e refl) st

  -- CMP d, m
  pub cmp : (m d : ℕ) → Stands j i x.protection pc (DataRegister 10 m d) →
      StepsQuietly j i (works x low sp lr pc f ram queues) (works x low sp lr (pc + 2) (compare_flags (get_or low d 0) (get_or low m 0)) ram queues)
  cmp m d st = operation_tests 10 m d (compare_flags (get_or low d 0) (get_or low m 0)) refl st

  -- MOVW and MOVT of a low register
  pub movw : (d n : ℕ) → d < 8 → Stands j i x.protection pc (MoveWide d n) →
      StepsQuietly j i (works x low sp lr pc f ram queues) (works x (set low d n) sp lr (pc + 4) f ram queues)
  unfolding act
  movw d n h st =
      let e = with_register_low (body x low sp lr pc f) d n h in
      by_change (MoveWide d n) (body x (set low d n) sp lr (pc + 4) f) (rw e refl) st

  pub movt : (d n : ℕ) → d < 8 → Stands j i x.protection pc (MoveTop d n) →
      StepsQuietly j i (works x low sp lr pc f ram queues) (works x (set low d (get_or low d 0 % 2 ^ 16 + n * 2 ^ 16)) sp lr (pc + 4) f ram queues)
  unfolding act
  movt d n h st =
      let r = register_low (body x low sp lr pc f) d h in
      let e = with_register_low (body x low sp lr pc f) d (get_or low d 0 % 2 ^ 16 + n * 2 ^ 16) h in
      by_change (MoveTop d n) (body x (set low d (get_or low d 0 % 2 ^ 16 + n * 2 ^ 16)) sp lr (pc + 4) f) (rw (r, e) refl) st

  -- UDIV and SDIV d, n, m
  pub udiv : (n d m : ℕ) → n < 8 → d < 8 → m < 8 → Stands j i x.protection pc (Divide 0 n d m) →
      StepsQuietly j i (works x low sp lr pc f ram queues) (works x (set low d (unsigned_quotient (get_or low n 0) (get_or low m 0))) sp lr (pc + 4) f ram queues)
  unfolding act
  udiv n d m a b c st =
      let r = register_low (body x low sp lr pc f) n a in
      let q = register_low (body x low sp lr pc f) m c in
      let e = with_register_low (body x low sp lr pc f) d (unsigned_quotient (get_or low n 0) (get_or low m 0)) b in
      by_change (Divide 0 n d m) (body x (set low d (unsigned_quotient (get_or low n 0) (get_or low m 0))) sp lr (pc + 4) f) (rw (r, q, e) refl) st

  pub sdiv : (n d m : ℕ) → n < 8 → d < 8 → m < 8 → Stands j i x.protection pc (Divide 1 n d m) →
      StepsQuietly j i (works x low sp lr pc f ram queues) (works x (set low d (signed_quotient (get_or low n 0) (get_or low m 0))) sp lr (pc + 4) f ram queues)
  unfolding act
  sdiv n d m a b c st =
      let r = register_low (body x low sp lr pc f) n a in
      let q = register_low (body x low sp lr pc f) m c in
      let e = with_register_low (body x low sp lr pc f) d (signed_quotient (get_or low n 0) (get_or low m 0)) b in
      by_change (Divide 1 n d m) (body x (set low d (signed_quotient (get_or low n 0) (get_or low m 0))) sp lr (pc + 4) f) (rw (r, q, e) refl) st

  -- MOV r12, m and MOV d, r12
  pub mov_to_r12 : (m : ℕ) → m < 8 → Stands j i x.protection pc (HighRegister 2 m 12) →
      StepsQuietly j i (works x low sp lr pc f ram queues) (works (record x { high = set x.high 4 (get_or low m 0) }) low sp lr (pc + 2) f ram queues)
  unfolding act
  mov_to_r12 m h st =
      let r = register_low (body x low sp lr pc f) m h in
      by_change (HighRegister 2 m 12) (body (record x { high = set x.high 4 (get_or low m 0) }) low sp lr (pc + 2) f) (rw r refl) st

  pub mov_from_r12 : (d : ℕ) → d < 8 → Stands j i x.protection pc (HighRegister 2 12 d) →
      StepsQuietly j i (works x low sp lr pc f ram queues) (works x (set low d (get_or x.high 4 0)) sp lr (pc + 2) f ram queues)
  unfolding act
  mov_from_r12 d h st =
      let e = with_register_low (body x low sp lr pc f) d (get_or x.high 4 0) h in
      by_change (HighRegister 2 12 d) (body x (set low d (get_or x.high 4 0)) sp lr (pc + 2) f) (rw e refl) st

  -- MOV lr, m
  pub mov_to_lr : (m : ℕ) → m < 8 → Stands j i x.protection pc (HighRegister 2 m 14) →
      StepsQuietly j i (works x low sp lr pc f ram queues) (works x low sp (get_or low m 0) (pc + 2) f ram queues)
  unfolding act
  mov_to_lr m h st =
      let r = register_low (body x low sp lr pc f) m h in
      by_change (HighRegister 2 m 14) (body x low sp (get_or low m 0) (pc + 2) f) (rw r refl) st

  -- NOP, DSB and ISB
  pub nop : Stands j i x.protection pc (BreakpointNop 1 0) →
      StepsQuietly j i (works x low sp lr pc f ram queues) (works x low sp lr (pc + 2) f ram queues)
  unfolding act
  nop st = by_change (BreakpointNop 1 0) (body x low sp lr (pc + 2) f) refl st

  pub barrier : (op : ℕ) → Stands j i x.protection pc (Barrier op) →
      StepsQuietly j i (works x low sp lr pc f ram queues) (works x low sp lr (pc + 4) f ram queues)
  unfolding act
  barrier op st = by_change (Barrier op) (body x low sp lr (pc + 4) f) refl st

  -- BKPT #n
  pub bkpt : (n : ℕ) → Stands j i x.protection pc (BreakpointNop 0 n) →
      StepsQuietly j i (works x low sp lr pc f ram queues) (ended (Halt n) (works x low sp lr pc f ram queues))
  unfolding act
  bkpt n st = halts j i (body x low sp lr pc f) x.protection x.status ram queues (BreakpointNop 0 n) n st refl

  -- ---- branches

  -- B, where the condition holds, and where it does not
  pub b_taken : (cond to : ℕ) (offset : ℤ) → holds cond f ≡ true → moved (pc + 4) offset ≡ to → Stands j i x.protection pc (BranchConditional cond offset) →
      StepsQuietly j i (works x low sp lr pc f ram queues) (works x low sp lr to f ram queues)
  unfolding act
  b_taken cond to offset h e st =
      let z : pc + 2 + 2 ≡ pc + 4 = omega arith in
      by_change (BranchConditional cond offset) (body x low sp lr to f) (rw (h, z, e) refl) st

  pub b_not_taken : (cond : ℕ) (offset : ℤ) → holds cond f ≡ false → Stands j i x.protection pc (BranchConditional cond offset) →
      StepsQuietly j i (works x low sp lr pc f ram queues) (works x low sp lr (pc + 2) f ram queues)
  unfolding act
  b_not_taken cond offset h st = by_change (BranchConditional cond offset) (body x low sp lr (pc + 2) f) (rw h refl) st

  -- B of one halfword and of two
  pub b : (to : ℕ) (offset : ℤ) → moved (pc + 4) offset ≡ to → Stands j i x.protection pc (CallBranch 1 0 offset) →
      StepsQuietly j i (works x low sp lr pc f ram queues) (works x low sp lr to f ram queues)
  unfolding act
  b to offset e st =
      let z : pc + 2 + 2 ≡ pc + 4 = omega arith in
      by_change (CallBranch 1 0 offset) (body x low sp lr to f) (rw (z, e) refl) st

  pub b_wide : (to : ℕ) (offset : ℤ) → moved (pc + 4) offset ≡ to → Stands j i x.protection pc (BranchWide offset) →
      StepsQuietly j i (works x low sp lr pc f ram queues) (works x low sp lr to f ram queues)
  unfolding act
  b_wide to offset e st = by_change (BranchWide offset) (body x low sp lr to f) (rw e refl) st

  -- BL
  pub bl : (to : ℕ) (offset : ℤ) → moved (pc + 4) offset ≡ to → Stands j i x.protection pc (BranchLink offset) →
      StepsQuietly j i (works x low sp lr pc f ram queues) (works x low sp (pc + 4 + 1) to f ram queues)
  unfolding act
  bl to offset e st = by_change (BranchLink offset) (body x low sp (pc + 4 + 1) to f) (rw e refl) st
