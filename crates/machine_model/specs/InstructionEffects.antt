-- Beyond the program's claim: only laws, proofs and functions inside the tool cite this file.
-- The instructions that generated code and the monitor are made of: each as the step from one whole state to the next.
use Rattle.std.specs.Prelude.{◌≡◌, ℕ, ℤ, pos, ◌+◌, ◌*◌, ◌/◌, ◌%◌, ◌^◌, ◌<◌, List, [], ◌∷◌, true, false, nat_eq, length}
use Rattle.std.proofs.Math.ListN.{get_or, set}
use Rattle.base_words.specs.declared.conditions.Flags.{Flags}
use Rattle.base_words.specs.Arithmetic.{word, moved, unsigned_quotient, signed_quotient, add, subtract}
use Rattle.base_words.specs.Bytes.{read, write, cut, write_all}
use Rattle.base_words.specs.Flags.{holds, result_flags, compare_flags, add_flags}
use Rattle.machine_thumb.specs.declared.table.Instr.{Instr}
use Rattle.machine_thumb.specs.declared.table.Instr.TheVariants.{ShiftImmediate, AddSubRegister, AddSubImmediate, DataImmediate, DataRegister, HighRegister, BranchExchange, LoadLiteral, TransferImmediate, StackRelative, AdjustStack, PushPop, BreakpointNop, BranchConditional, CallBranch, BranchLink, BranchWide, MoveWide, MoveTop, Divide, SpecialRegister, Barrier}
use Rattle.machine_protection.specs.declared.region.Access.TheVariants.{Read, Write}
use Rattle.machine_protection.specs.Registers.{write_register}
use Rattle.machine_devices.specs.declared.image.Image.{Image}
use Rattle.base_events.specs.declared.event.Event.{Event}
use Rattle.machine_bus.specs.Locations.{InRam, InFlash, InWindow, location}
use Rattle.machine_model.specs.declared.state.End.TheVariants.{Halt, InputEnd}
use Rattle.machine_model.specs.State.{State, PermissionTest, is_unprivileged, bit_of}
use Rattle.machine_model.specs.Act.{Loads, Stores}
use Rattle.machine_model.specs.Instructions.{act}
use Rattle.machine_model.specs.declared.answers.Outcome.TheVariants.{Gives, Tests}
use Rattle.machine_model.specs.DataOperations.{shift_by, immediate_amount, add_or_subtract, immediate, operation}
use Rattle.machine_model.specs.System.{read_system, write_status}
use Rattle.machine_model.specs.declared.answers.Verdict.TheVariants.{ToSystem}
use Rattle.machine_model.specs.Tests.{verdict}
use Rattle.machine_model.specs.Exceptions.{frame_at, frame_of, vector, supervisor_call, return_on_psp, return_on_msp, is_thread, flags_of, with_pad}
use Rattle.machine_model.specs.Code.{Stands, StepsQuietly, Runs}
use Rattle.machine_model.specs.Stack.{Words, words_at, May, Room, ExceptionFrame}
use Rattle.machine_model.specs.Events.{StepsWith, input_event, output_event, ended}
use Rattle.machine_model.specs.RunningCode.{Context, body, works, IsLoad, IsStore}

module _ (j : PermissionTest) (i : Image) (x : Context) (low : List ℕ) (sp lr pc : ℕ) (f : Flags) (ram : List ℕ) (queues : List (List ℕ)) where
  -- an instruction that stands at the program counter leads there, without an event or with this one
  abbrev pub Makes : Instr → State → Type 0
  Makes y t = Stands j i x.protection pc y → StepsQuietly j i (works x low sp lr pc f ram queues) t

  abbrev pub Tells : Instr → Event → State → Type 0
  Tells y e t = Stands j i x.protection pc y → StepsWith j i (works x low sp lr pc f ram queues) t e

  pub record RegisterSteps : Type 0 where
    -- MOVS d, #n; CMP d, #n; CMP d, m
    pub movs : (d n : ℕ) → Makes (DataImmediate 0 d n) (works x (set low d n) sp lr (pc + 2) (result_flags f n) ram queues)
    pub cmp_immediate : (d n : ℕ) → Makes (DataImmediate 1 d n) (works x low sp lr (pc + 2) (compare_flags (get_or low d 0) n) ram queues)
    pub cmp : (m d : ℕ) → Makes (DataRegister 10 m d) (works x low sp lr (pc + 2) (compare_flags (get_or low d 0) (get_or low m 0)) ram queues)
    -- by what the operation gives: ADDS and SUBS d, #n
    pub immediate_gives : (op d n v : ℕ) (g : Flags) → immediate op (get_or low d 0) n f ≡ Gives v g → Makes (DataImmediate op d n) (works x (set low d v) sp lr (pc + 2) g ram queues)
    -- LSLS, LSRS and ASRS d, m, #n
    pub shift_gives : (op n m d v : ℕ) (g : Flags) → shift_by op (get_or low m 0) (immediate_amount op n) f ≡ Gives v g → Makes (ShiftImmediate op n m d) (works x (set low d v) sp lr (pc + 2) g ram queues)
    -- ADDS and SUBS d, n, m; d, n, #k
    pub sum_gives : (op m n d v : ℕ) (g : Flags) → add_or_subtract op (get_or low n 0) (get_or low m 0) ≡ Gives v g → Makes (AddSubRegister op m n d) (works x (set low d v) sp lr (pc + 2) g ram queues)
    pub small_sum_gives : (op k n d v : ℕ) (g : Flags) → add_or_subtract op (get_or low n 0) k ≡ Gives v g → Makes (AddSubImmediate op k n d) (works x (set low d v) sp lr (pc + 2) g ram queues)
    pub adds : (m n d : ℕ) → Makes (AddSubRegister 0 m n d) (works x (set low d (add (get_or low n 0) (get_or low m 0))) sp lr (pc + 2) (add_flags (get_or low n 0) (get_or low m 0) 0) ram queues)
    pub subs : (m n d : ℕ) → get_or low m 0 < 2 ^ 32 →
        Makes (AddSubRegister 1 m n d) (works x (set low d (subtract (get_or low n 0) (get_or low m 0))) sp lr (pc + 2) (compare_flags (get_or low n 0) (get_or low m 0)) ram queues)
    pub adds_immediate : (d n : ℕ) → Makes (DataImmediate 2 d n) (works x (set low d (add (get_or low d 0) n)) sp lr (pc + 2) (add_flags (get_or low d 0) n 0) ram queues)
    pub subs_immediate : (d n : ℕ) → n < 2 ^ 32 → Makes (DataImmediate 3 d n) (works x (set low d (subtract (get_or low d 0) n)) sp lr (pc + 2) (compare_flags (get_or low d 0) n) ram queues)
    -- AND EOR LSL LSR ASR ORR MUL BIC and the like; CMP, TST and CMN
    pub operation_gives : (op m d v : ℕ) (g : Flags) → operation op (get_or low d 0) (get_or low m 0) f ≡ Gives v g → Makes (DataRegister op m d) (works x (set low d v) sp lr (pc + 2) g ram queues)
    pub operation_tests : (op m d : ℕ) (g : Flags) → operation op (get_or low d 0) (get_or low m 0) f ≡ Tests g → Makes (DataRegister op m d) (works x low sp lr (pc + 2) g ram queues)
    -- MOVW and MOVT
    pub movw : (d n : ℕ) → d < 8 → Makes (MoveWide d n) (works x (set low d n) sp lr (pc + 4) f ram queues)
    pub movt : (d n : ℕ) → d < 8 → Makes (MoveTop d n) (works x (set low d (get_or low d 0 % 2 ^ 16 + n * 2 ^ 16)) sp lr (pc + 4) f ram queues)
    pub movw_r12 : (n : ℕ) → Makes (MoveWide 12 n) (works (record x { high = set x.high 4 n }) low sp lr (pc + 4) f ram queues)
    pub movt_r12 : (n : ℕ) → Makes (MoveTop 12 n) (works (record x { high = set x.high 4 (get_or x.high 4 0 % 2 ^ 16 + n * 2 ^ 16) }) low sp lr (pc + 4) f ram queues)
    -- both halves of a number
    pub word_into : (d v : ℕ) → d < 8 → d < length low → v < 2 ^ 32 → Stands j i x.protection pc (MoveWide d (v % 2 ^ 16)) → Stands j i x.protection (pc + 4) (MoveTop d (v / 2 ^ 16)) →
        Runs j i 2 (works x low sp lr pc f ram queues) (works x (set low d v) sp lr (pc + 4 + 4) f ram queues) []
    pub word_into_r12 : (v : ℕ) → 4 < length x.high → v < 2 ^ 32 → Stands j i x.protection pc (MoveWide 12 (v % 2 ^ 16)) → Stands j i x.protection (pc + 4) (MoveTop 12 (v / 2 ^ 16)) →
        Runs j i 2 (works x low sp lr pc f ram queues) (works (record x { high = set x.high 4 v }) low sp lr (pc + 4 + 4) f ram queues) []
    -- UDIV and SDIV
    pub udiv : (n d m : ℕ) → n < 8 → d < 8 → m < 8 → Makes (Divide 0 n d m) (works x (set low d (unsigned_quotient (get_or low n 0) (get_or low m 0))) sp lr (pc + 4) f ram queues)
    pub sdiv : (n d m : ℕ) → n < 8 → d < 8 → m < 8 → Makes (Divide 1 n d m) (works x (set low d (signed_quotient (get_or low n 0) (get_or low m 0))) sp lr (pc + 4) f ram queues)
    -- MOV d, m; MOV r12, m; MOV d, r12; MOV lr, m
    pub mov_low : (m d : ℕ) → m < 8 → d < 8 → Makes (HighRegister 2 m d) (works x (set low d (get_or low m 0)) sp lr (pc + 2) f ram queues)
    pub mov_to_r12 : (m : ℕ) → m < 8 → Makes (HighRegister 2 m 12) (works (record x { high = set x.high 4 (get_or low m 0) }) low sp lr (pc + 2) f ram queues)
    pub mov_from_r12 : (d : ℕ) → d < 8 → Makes (HighRegister 2 12 d) (works x (set low d (get_or x.high 4 0)) sp lr (pc + 2) f ram queues)
    pub mov_to_lr : (m : ℕ) → m < 8 → Makes (HighRegister 2 m 14) (works x low sp (get_or low m 0) (pc + 2) f ram queues)
    -- NOP; DSB and ISB; BKPT #n
    pub nop : Makes (BreakpointNop 1 0) (works x low sp lr (pc + 2) f ram queues)
    pub barrier : (op : ℕ) → Makes (Barrier op) (works x low sp lr (pc + 4) f ram queues)
    pub bkpt : (n : ℕ) → Makes (BreakpointNop 0 n) (ended (Halt n) (works x low sp lr pc f ram queues))

  pub record BranchSteps : Type 0 where
    -- B with a condition
    pub b_taken : (cond to : ℕ) (offset : ℤ) → holds cond f ≡ true → moved (pc + 4) offset ≡ to → Makes (BranchConditional cond offset) (works x low sp lr to f ram queues)
    pub b_not_taken : (cond : ℕ) (offset : ℤ) → holds cond f ≡ false → Makes (BranchConditional cond offset) (works x low sp lr (pc + 2) f ram queues)
    -- B of one halfword and of two; BL
    pub b : (to : ℕ) (offset : ℤ) → moved (pc + 4) offset ≡ to → Makes (CallBranch 1 0 offset) (works x low sp lr to f ram queues)
    pub b_wide : (to : ℕ) (offset : ℤ) → moved (pc + 4) offset ≡ to → Makes (BranchWide offset) (works x low sp lr to f ram queues)
    pub bl : (to : ℕ) (offset : ℤ) → moved (pc + 4) offset ≡ to → Makes (BranchLink offset) (works x low sp (pc + 4 + 1) to f ram queues)
    -- BLX r12; BX m and BX lr that are no exception returns
    pub bx_low : (m to : ℕ) → m < 8 → get_or low m 0 ≡ to + 1 → to % 2 ≡ 0 → to < 0xFFFFFFF0 → Makes (BranchExchange 0 m) (works x low sp lr to f ram queues)
    pub blx_r12 : (to : ℕ) → get_or x.high 4 0 ≡ to + 1 → to % 2 ≡ 0 → Makes (BranchExchange 1 12) (works x low sp (pc + 2 + 1) to f ram queues)
    pub bx_lr : (to : ℕ) → lr ≡ to + 1 → to % 2 ≡ 0 → to < 0xFFFFFFF0 → Makes (BranchExchange 0 14) (works x low sp lr to f ram queues)

  pub record StackSteps : Type 0 where
    -- LDR t, [sp, #4 k]; STR t, [sp, #4 k]
    pub ldr_sp : (t k o n : ℕ) → Room j i x.protection sp o n → k < n → Makes (StackRelative 1 t 0 k) (works x (set low t (read 4 (o + 4 * k) ram)) sp lr (pc + 2) f ram queues)
    pub str_sp : (t k o n : ℕ) → Room j i x.protection sp o n → k < n → Makes (StackRelative 0 t 0 k) (works x low sp lr (pc + 2) f (write 4 (o + 4 * k) (get_or low t 0) ram) queues)
    -- ADD d, sp, #4 k; ADD sp, #4 k; SUB sp, #4 k
    pub add_d_sp : (d k : ℕ) → sp + 4 * k < 2 ^ 32 → Makes (StackRelative 2 0 d k) (works x (set low d (sp + 4 * k)) sp lr (pc + 2) f ram queues)
    pub add_sp : (k : ℕ) → sp + 4 * k < 2 ^ 32 → Makes (AdjustStack 0 k) (works x low (sp + 4 * k) lr (pc + 2) f ram queues)
    pub sub_sp : (k to : ℕ) → to + 4 * k ≡ sp → sp < 2 ^ 32 → Makes (AdjustStack 1 k) (works x low to lr (pc + 2) f ram queues)
    -- PUSH {lr}; POP {pc}
    pub push_lr : (to o : ℕ) → to + 4 ≡ sp → Room j i x.protection to o 1 → Makes (PushPop 0 1 0 0) (works x low to lr (pc + 2) f (write 4 o lr ram) queues)
    pub pop_pc : (o to : ℕ) → Room j i x.protection sp o 1 → read 4 o ram ≡ to + 1 → to % 2 ≡ 0 → Makes (PushPop 1 0 1 0) (works x low (sp + 4) lr to f ram queues)

  -- LDR, LDRH, LDRB and STR, STRH, STRB t, [n, #w k], by where the address leads
  pub record TransferSteps : Type 0 where
    -- what they ask for
    pub load_act : (op w k n t : ℕ) → IsLoad op w → act (TransferImmediate op k n t) (pc + 2) (body x low sp lr pc f) ≡ Loads w (word (get_or low n 0 + w * k)) (λ u. body x (set low t u) sp lr (pc + 2) f)
    pub store_act : (op w k n t : ℕ) → IsStore op w → act (TransferImmediate op k n t) (pc + 2) (body x low sp lr pc f) ≡ Stores w (word (get_or low n 0 + w * k)) (get_or low t 0) (body x low sp lr (pc + 2) f)
    pub load_ram : (op w k n t a o : ℕ) → IsLoad op w → word (get_or low n 0 + w * k) ≡ a → a % w ≡ 0 → a < 0xE0000000 → j x.protection Read a ≡ true → location i a ≡ InRam o →
        Makes (TransferImmediate op k n t) (works x (set low t (read w o ram)) sp lr (pc + 2) f ram queues)
    pub load_flash : (op w k n t a o : ℕ) → IsLoad op w → word (get_or low n 0 + w * k) ≡ a → a % w ≡ 0 → a < 0xE0000000 → j x.protection Read a ≡ true → location i a ≡ InFlash o →
        Makes (TransferImmediate op k n t) (works x (set low t (read w o i.flash)) sp lr (pc + 2) f ram queues)
    pub load_window : (op w k n t a q o u : ℕ) (us : List ℕ) → IsLoad op w → word (get_or low n 0 + w * k) ≡ a → a % w ≡ 0 → a < 0xE0000000 → j x.protection Read a ≡ true → location i a ≡ InWindow q o →
        get_or queues q [] ≡ u ∷ us → Tells (TransferImmediate op k n t) (input_event i ram q o w u) (works x (set low t (cut w u)) sp lr (pc + 2) f ram (set queues q us))
    pub load_nothing : (op w k n t a q o : ℕ) → IsLoad op w → word (get_or low n 0 + w * k) ≡ a → a % w ≡ 0 → a < 0xE0000000 → j x.protection Read a ≡ true → location i a ≡ InWindow q o →
        get_or queues q [] ≡ [] → Makes (TransferImmediate op k n t) (ended InputEnd (works x low sp lr pc f ram queues))
    pub store_ram : (op w k n t a o : ℕ) → IsStore op w → word (get_or low n 0 + w * k) ≡ a → a % w ≡ 0 → a < 0xE0000000 → j x.protection Write a ≡ true → location i a ≡ InRam o →
        Makes (TransferImmediate op k n t) (works x low sp lr (pc + 2) f (write w o (get_or low t 0) ram) queues)
    pub store_window : (op w k n t a q o : ℕ) → IsStore op w → word (get_or low n 0 + w * k) ≡ a → a % w ≡ 0 → a < 0xE0000000 → j x.protection Write a ≡ true → location i a ≡ InWindow q o →
        Tells (TransferImmediate op k n t) (output_event i ram q o w (get_or low t 0)) (works x low sp lr (pc + 2) f ram queues)
    -- LDR t, [pc, #4 k]
    pub ldr_literal : (k t a o : ℕ) → word ((pc + 4) / 4 * 4 + 4 * k) ≡ a → a % 4 ≡ 0 → a < 0xE0000000 → j x.protection Read a ≡ true → location i a ≡ InFlash o →
        Makes (LoadLiteral t k) (works x (set low t (read 4 o i.flash)) sp lr (pc + 2) f ram queues)

  pub record SpecialSteps : Type 0 where
    -- MRS d, PSP and MSR PSP, n where MSP is in use; MRS d, CONTROL
    pub mrs_psp : (d : ℕ) → d < 8 → is_unprivileged x.protection ≡ false → x.on_psp ≡ false → Makes (SpecialRegister 1 0 d 9) (works x (set low d x.other_sp) sp lr (pc + 4) f ram queues)
    pub msr_psp : (n : ℕ) → n < 8 → is_unprivileged x.protection ≡ false → x.on_psp ≡ false →
        Makes (SpecialRegister 0 n 0 9) (works (record x { other_sp = get_or low n 0 / 4 * 4 }) low sp lr (pc + 4) f ram queues)
    pub mrs_control : (d : ℕ) → d < 8 → Makes (SpecialRegister 1 0 d 20) (works x (set low d (bit_of x.protection.unprivileged + 2 * bit_of x.on_psp)) sp lr (pc + 4) f ram queues)
    -- MSR CONTROL, n in Handler mode, and in a privileged thread that goes over to PSP
    pub msr_control_in_handler : (n : ℕ) → n < 8 → x.protection.handler ≡ true →
        Makes (SpecialRegister 0 n 0 20) (works (record x { protection = record x.protection { unprivileged = nat_eq (get_or low n 0 % 2) 1 } }) low sp lr (pc + 4) f ram queues)
    pub msr_control_to_psp : (n : ℕ) → n < 8 → x.protection.handler ≡ false → x.protection.unprivileged ≡ false → x.on_psp ≡ false → get_or low n 0 / 2 % 2 ≡ 1 →
        Makes (SpecialRegister 0 n 0 20) (works (record x { other_sp = sp; on_psp = true; protection = record x.protection { unprivileged = nat_eq (get_or low n 0 % 2) 1 } }) low x.other_sp lr (pc + 4) f ram queues)
    -- STR t, [n, #4 k] to a register of the system, and LDR
    pub store_system : (k n t a : ℕ) → word (get_or low n 0 + 4 * k) ≡ a → verdict j x.protection Write 4 a ≡ ToSystem →
        Makes (TransferImmediate 0 k n t)
        (works (record x { protection = record x.protection { mpu = write_register a (get_or low t 0) x.protection.mpu }; status = write_status a (get_or low t 0) x.status }) low sp lr (pc + 2) f ram queues)
    pub load_system : (k n t a : ℕ) → word (get_or low n 0 + 4 * k) ≡ a → verdict j x.protection Read 4 a ≡ ToSystem →
        Makes (TransferImmediate 1 k n t) (works x (set low t (read_system a x.protection x.status)) sp lr (pc + 2) f ram queues)

  -- SVC of a thread, and BX lr of a handler, on either stack
  pub record ThreadSteps : Type 0 where
    pub svc_from_psp : (n o : ℕ) → x.on_psp ≡ true → x.protection.handler ≡ false → ExceptionFrame j i x.protection sp o →
        Makes (CallBranch 0 n (pos 0))
        (works (record x { other_sp = frame_at sp; on_psp = false; protection = record x.protection { handler = true } }) low x.other_sp return_on_psp (vector i supervisor_call) f
        (write_all 4 o (frame_of (body x low sp lr pc f) (pc + 2)) ram) queues)
    pub svc_from_msp : (n o : ℕ) → x.on_psp ≡ false → x.protection.handler ≡ false → ExceptionFrame j i x.protection sp o →
        Makes (CallBranch 0 n (pos 0))
        (works (record x { on_psp = false; protection = record x.protection { handler = true } }) low (frame_at sp) return_on_msp (vector i supervisor_call) f
        (write_all 4 o (frame_of (body x low sp lr pc f) (pc + 2)) ram) queues)
    pub bx_to_psp : (o a b c d e link ret status : ℕ) → lr ≡ return_on_psp → x.protection.handler ≡ true → Words i x.other_sp o 8 → May j (record x.protection { handler = false }) Read x.other_sp 8 →
        words_at 8 o ram ≡ a ∷ b ∷ c ∷ d ∷ e ∷ link ∷ ret ∷ status ∷ [] → is_thread status ≡ true →
        Makes (BranchExchange 0 14)
        (works (record x { high = set x.high 4 e; other_sp = sp; on_psp = true; protection = record x.protection { handler = false } }) (set (set (set (set low 0 a) 1 b) 2 c) 3 d)
        (with_pad (nat_eq (status / 2 ^ 9 % 2) 1) (word (x.other_sp + 32))) link (ret / 2 * 2) (flags_of status) ram queues)
    pub bx_to_msp : (o a b c d e link ret status : ℕ) → lr ≡ return_on_msp → x.protection.handler ≡ true → Words i sp o 8 → May j (record x.protection { handler = false }) Read sp 8 →
        words_at 8 o ram ≡ a ∷ b ∷ c ∷ d ∷ e ∷ link ∷ ret ∷ status ∷ [] → is_thread status ≡ true →
        Makes (BranchExchange 0 14)
        (works (record x { high = set x.high 4 e; on_psp = false; protection = record x.protection { handler = false } }) (set (set (set (set low 0 a) 1 b) 2 c) 3 d)
        (with_pad (nat_eq (status / 2 ^ 9 % 2) 1) (word (sp + 32))) link (ret / 2 * 2) (flags_of status) ram queues)

-- the same in each such state
abbrev pub EachWorks : (PermissionTest → Image → Context → List ℕ → ℕ → ℕ → ℕ → Flags → List ℕ → List (List ℕ) → Type 0) → Type 0
EachWorks P = (j : PermissionTest) (i : Image) (x : Context) (low : List ℕ) (sp lr pc : ℕ) (f : Flags) (ram : List ℕ) (queues : List (List ℕ)) → P j i x low sp lr pc f ram queues
