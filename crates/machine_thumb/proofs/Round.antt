-- An encoded instruction is decoded to itself.
use Rattle.std.proofs.Common.{◌≡◌, ◌≢◌, ℕ, ◌+◌, ◌*◌, ◌/◌, ◌%◌, ◌^◌, ◌<◌, ◌≤◌, refl, if◌then◌else◌, eq-eqb, arith, rules, ℤ, pos, ◌⊎◌, inl, inr, Option, Some, None, nat_eq, nat_lt, true}
use Rattle.std.proofs.lemmas.Bool.Decides.{nat_tests}
use Rattle.std.proofs.lemmas.Bool.{lt-ltb, le-ltb, ne_eqb}
use Rattle.machine_thumb.proofs.Offsets.{extended-8, extended-11, extended-24}
use Rattle.machine_thumb.specs.Table.{InTable, IsOffset, IsGeneral, eor_not, halfwords_of, branch_pair, move_pair, encode}
use Rattle.machine_thumb.specs.Decoded.{decoded, decoded_code, is_general, move_value, arithmetic_of, special_of, transfer_of, stack_of, multiple_of, upper_of, narrow_of, move_of, special_register_of, divide_of, wide_of, extended, branch_bits}
use Rattle.machine_thumb.specs.declared.table.Instr.{Instr}
use Rattle.machine_thumb.specs.declared.table.Instr.TheVariants.{ShiftImmediate, AddSubRegister, AddSubImmediate, DataImmediate, DataRegister, HighRegister, BranchExchange, LoadLiteral, TransferRegister, TransferImmediate, StackRelative, AdjustStack, PushPop, BreakpointNop, TransferMultiple, BranchConditional, CallBranch, BranchLink, BranchWide, MoveWide, MoveTop, Divide, SpecialRegister, Barrier}
use Rattle.machine_thumb.proofs.Codes.{zero_or_one, zero_one_or_two}

-- a test that is known
pub here : (h n : ℕ) (x y z : Option Instr) → h < n → x ≡ z → (if nat_lt h n then x else y) ≡ z
here h n x y z t e = rw (lt-ltb h n t) e

pub past : (h n : ℕ) (x y z : Option Instr) → n ≤ h → y ≡ z → (if nat_lt h n then x else y) ≡ z
past h n x y z t e = rw (le-ltb h n t) e

-- the groups of one halfword
pub in_arithmetic : (h next : ℕ) (x : Option Instr) → h < 0x4000 → arithmetic_of h ≡ x → decoded h next ≡ x
unfolding decoded narrow_of
in_arithmetic h next x below e = here h 0xE800 _ _ x (omega arith) (here h 0x4000 _ _ x below e)

pub in_transfer : (h next : ℕ) (x : Option Instr) → 0x4000 ≤ h → h < 0x9000 → transfer_of h ≡ x → decoded h next ≡ x
unfolding decoded narrow_of
in_transfer h next x above below e =
    here h 0xE800 _ _ x (omega arith) (past h 0x4000 _ _ x above (here h 0x9000 _ _ x below e))

pub in_special : (h next : ℕ) (x : Option Instr) → 0x4400 ≤ h → h < 0x4800 → special_of h ≡ x → decoded h next ≡ x
unfolding transfer_of
in_special h next x above below e =
    in_transfer h next x (omega arith) (omega arith) (past h 0x4400 _ _ x above (here h 0x4800 _ _ x below e))

pub in_upper : (h next : ℕ) (x : Option Instr) → 0x9000 ≤ h → h < 0xE800 → upper_of h ≡ x → decoded h next ≡ x
unfolding decoded narrow_of
in_upper h next x above below e =
    here h 0xE800 _ _ x below (past h 0x4000 _ _ x (omega arith) (past h 0x9000 _ _ x above e))

pub in_stack : (h next : ℕ) (x : Option Instr) → 0xB000 ≤ h → h < 0xC000 → stack_of h ≡ x → decoded h next ≡ x
unfolding upper_of
in_stack h next x above below e =
    in_upper h next x (omega arith) (omega arith)
    (past h 0xA000 _ _ x (omega arith) (past h 0xA800 _ _ x (omega arith) (past h 0xB000 _ _ x above (here h 0xC000 _ _ x below e))))

pub in_multiple : (h next : ℕ) (x : Option Instr) → 0xC000 ≤ h → h < 0xD000 → multiple_of h ≡ x → decoded h next ≡ x
unfolding upper_of
in_multiple h next x above below e =
    in_upper h next x (omega arith) (omega arith)
    (past h 0xA000 _ _ x (omega arith) (past h 0xA800 _ _ x (omega arith) (past h 0xB000 _ _ x (omega arith) (past h 0xC000 _ _ x above (here h 0xD000 _ _ x below e)))))

shift : (op imm5 m d : ℕ) → op < 3 → imm5 < 32 → m < 8 → d < 8 → arithmetic_of (op * 2048 + imm5 * 64 + m * 8 + d) ≡ Some (ShiftImmediate op imm5 m d)
unfolding arithmetic_of
shift op imm5 m d a b c e = search (rules, nat_tests)

sum_register : (op m n d : ℕ) → op < 2 → m < 8 → n < 8 → d < 8 → arithmetic_of (0x1800 + op * 512 + m * 64 + n * 8 + d) ≡ Some (AddSubRegister op m n d)
unfolding arithmetic_of
sum_register op m n d a b c e = search (rules, nat_tests)

sum_immediate : (op m n d : ℕ) → op < 2 → m < 8 → n < 8 → d < 8 → arithmetic_of (0x1C00 + op * 512 + m * 64 + n * 8 + d) ≡ Some (AddSubImmediate op m n d)
unfolding arithmetic_of
sum_immediate op m n d a b c e = search (rules, nat_tests)

data_immediate : (op d imm8 : ℕ) → op < 4 → d < 8 → imm8 < 256 → arithmetic_of (0x2000 + op * 2048 + d * 256 + imm8) ≡ Some (DataImmediate op d imm8)
unfolding arithmetic_of
data_immediate op d imm8 a b c = search (rules, nat_tests)

data_register : (op m d : ℕ) → op < 16 → m < 8 → d < 8 → transfer_of (0x4000 + op * 64 + m * 8 + d) ≡ Some (DataRegister op m d)
unfolding transfer_of
data_register op m d a b c = here (0x4000 + op * 64 + m * 8 + d) 0x4400 _ _ _ (omega arith) (search (rules, nat_tests))

high : (op m d : ℕ) → op < 3 → m < 15 → d < 15 → (op ≡ 1 → (8 ≤ m) ⊎ (8 ≤ d)) → special_of (0x4400 + op * 256 + d / 8 * 128 + m * 8 + d % 8) ≡ Some (HighRegister op m d)
unfolding special_of
high op m d a b c e = search (rules, nat_tests)

exchange : (op m : ℕ) → op < 2 → m < 15 → special_of (0x4700 + op * 128 + m * 8) ≡ Some (BranchExchange op m)
unfolding special_of
exchange op m a b = search (rules, nat_tests)

literal : (t imm8 : ℕ) → t < 8 → imm8 < 256 → transfer_of (0x4800 + t * 256 + imm8) ≡ Some (LoadLiteral t imm8)
unfolding transfer_of
literal t imm8 a b =
    let h : ℕ = 0x4800 + t * 256 + imm8 in
    past h 0x4400 _ _ _ (omega arith) (past h 0x4800 _ _ _ (omega arith) (search (rules, nat_tests)))

transfer_register : (op m n t : ℕ) → op < 8 → m < 8 → n < 8 → t < 8 → transfer_of (0x5000 + op * 512 + m * 64 + n * 8 + t) ≡ Some (TransferRegister op m n t)
unfolding transfer_of
transfer_register op m n t a b c e =
    let h : ℕ = 0x5000 + op * 512 + m * 64 + n * 8 + t in
    past h 0x4400 _ _ _ (omega arith) (past h 0x4800 _ _ _ (omega arith) (search (rules, nat_tests)))

transfer_immediate : (op imm5 n t : ℕ) → op < 6 → imm5 < 32 → n < 8 → t < 8 → transfer_of (0x6000 + op * 2048 + imm5 * 64 + n * 8 + t) ≡ Some (TransferImmediate op imm5 n t)
unfolding transfer_of
transfer_immediate op imm5 n t a b c e =
    let h : ℕ = 0x6000 + op * 2048 + imm5 * 64 + n * 8 + t in
    past h 0x4400 _ _ _ (omega arith) (past h 0x4800 _ _ _ (omega arith) (search (rules, nat_tests)))

adjust : (op imm7 : ℕ) → op < 2 → imm7 < 128 → stack_of (0xB000 + op * 128 + imm7) ≡ Some (AdjustStack op imm7)
unfolding stack_of
adjust op imm7 a b = search (rules, nat_tests)

push : (m list : ℕ) → m < 2 → list < 256 → 0 < m + list → stack_of (0xB400 + m * 256 + list) ≡ Some (PushPop 0 m 0 list)
unfolding stack_of
push m list a b c = search (rules, nat_tests)

pop : (p list : ℕ) → p < 2 → list < 256 → 0 < p + list → stack_of (0xBC00 + p * 256 + list) ≡ Some (PushPop 1 0 p list)
unfolding stack_of
pop p list a b c = search (rules, nat_tests)

breakpoint : (imm8 : ℕ) → imm8 < 256 → stack_of (0xBE00 + imm8) ≡ Some (BreakpointNop 0 imm8)
unfolding stack_of
breakpoint imm8 a = search (rules, nat_tests)

multiple : (op n list : ℕ) → op < 2 → n < 8 → list < 256 → 0 < list → (op ≡ 0 → list / 2 ^ n % 2 ≡ 1 → list % 2 ^ n ≡ 0) → multiple_of (0xC000 + op * 2048 + n * 256 + list) ≡ Some (TransferMultiple op n list)
unfolding multiple_of
multiple op n list a b c e f =
    let h : ℕ = 0xC000 + op * 2048 + n * 256 + list in
    let e1 : h / 256 % 8 ≡ n = omega arith in
    let e2 : h % 256 ≡ list = omega arith in
    let e3 : h / 2048 % 2 ≡ op = omega arith in
    rw (e1, e2, e3) (search (rules, nat_tests))

in_stack_relative : (op t imm8 next : ℕ) → op < 2 → t < 8 → imm8 < 256 → decoded (0x9000 + op * 2048 + t * 256 + imm8) next ≡ Some (StackRelative op t 0 imm8)
unfolding upper_of
in_stack_relative op t imm8 next a b c =
    let h : ℕ = 0x9000 + op * 2048 + t * 256 + imm8 in
    let e1 : h / 2048 % 2 ≡ op = omega arith in
    let e2 : h / 256 % 8 ≡ t = omega arith in
    let e3 : h % 256 ≡ imm8 = omega arith in
    in_upper h next _ (omega arith) (omega arith) (here h 0xA000 _ _ _ (omega arith) (rw (e1, e2, e3)))

in_stack_address : (d imm8 next : ℕ) → d < 8 → imm8 < 256 → decoded (0xA800 + d * 256 + imm8) next ≡ Some (StackRelative 2 0 d imm8)
unfolding upper_of
in_stack_address d imm8 next a b =
    let h : ℕ = 0xA800 + d * 256 + imm8 in
    let e1 : h / 256 % 8 ≡ d = omega arith in
    let e2 : h % 256 ≡ imm8 = omega arith in
    in_upper h next _ (omega arith) (omega arith)
    (past h 0xA000 _ _ _ (omega arith) (past h 0xA800 _ _ _ (omega arith) (here h 0xB000 _ _ _ (omega arith) (rw (e1, e2)))))

-- the groups behind 0xD000
pub in_last : (h next : ℕ) (x : Option Instr) → 0xD000 ≤ h → h < 0xE800 →
    (if nat_lt h 0xDE00 then Some (BranchConditional (h / 256 % 16) (extended 128 (h % 256)))
    else if nat_lt h 0xDF00 then None
    else if nat_lt h 0xE000 then Some (CallBranch 0 (h % 256) (pos 0))
    else Some (CallBranch 1 0 (extended 1024 (h % 2048)))) ≡ x →
    decoded h next ≡ x
unfolding upper_of
in_last h next x above below e =
    in_upper h next x (omega arith) (omega arith)
    (past h 0xA000 _ _ x (omega arith) (past h 0xA800 _ _ x (omega arith) (past h 0xB000 _ _ x (omega arith) (past h 0xC000 _ _ x (omega arith) (past h 0xD000 _ _ x (omega arith) e)))))

in_conditional : (cond next : ℕ) (offset : ℤ) → cond < 14 → IsOffset 256 offset → decoded (0xD000 + cond * 256 + halfwords_of offset % 256) next ≡ Some (BranchConditional cond offset)
in_conditional cond next offset a v =
    let b : ℕ = halfwords_of offset % 256 in
    let h : ℕ = 0xD000 + cond * 256 + b in
    let e1 : h / 256 % 16 ≡ cond = omega arith in
    let e2 : h % 256 ≡ b = omega arith in
    in_last h next _ (omega arith) (omega arith) (here h 0xDE00 _ _ _ (omega arith) (rw (e1, e2, extended-8 offset v)))

in_call : (imm8 next : ℕ) → imm8 < 256 → decoded (0xDF00 + imm8) next ≡ Some (CallBranch 0 imm8 (pos 0))
in_call imm8 next a =
    let h : ℕ = 0xDF00 + imm8 in
    let e : h % 256 ≡ imm8 = omega arith in
    in_last h next _ (omega arith) (omega arith)
    (past h 0xDE00 _ _ _ (omega arith) (past h 0xDF00 _ _ _ (omega arith) (here h 0xE000 _ _ _ (omega arith) (rw e))))

in_plain : (next : ℕ) (offset : ℤ) → IsOffset 2048 offset → decoded (0xE000 + halfwords_of offset % 2048) next ≡ Some (CallBranch 1 0 offset)
in_plain next offset v =
    let b : ℕ = halfwords_of offset % 2048 in
    let h : ℕ = 0xE000 + b in
    let e : h % 2048 ≡ b = omega arith in
    in_last h next _ (omega arith) (omega arith)
    (past h 0xDE00 _ _ _ (omega arith) (past h 0xDF00 _ _ _ (omega arith) (past h 0xE000 _ _ _ (omega arith) (rw (e, extended-11 offset v)))))

-- the groups of two halfwords
general : (r : ℕ) → IsGeneral r → is_general r ≡ true
general r v = search (rules, nat_tests)

pub in_pair : (h k : ℕ) (x : Option Instr) → 0xF000 ≤ h → h < 0xF800 →
    (if nat_lt k 0x8000 then move_of h k
    else if nat_eq (k / 4096 % 2) 1 then
    (if nat_lt k 0xC000 then Some (BranchWide (extended (2 ^ 23) (branch_bits h k)))
    else Some (BranchLink (extended (2 ^ 23) (branch_bits h k))))
    else if nat_lt k 0x9000 then special_register_of h k
    else None) ≡ x →
    decoded h k ≡ x
unfolding decoded wide_of
in_pair h k x above below e =
    past h 0xE800 _ _ x (omega arith) (past h 0xF000 _ _ x above (here h 0xF800 _ _ x below e))

branch_bits-branch_pair : (second bits : ℕ) → bits < 2 ^ 24 → second % 16384 ≡ 4096 →
    let s : ℕ = bits / 2 ^ 23 in
    let h : ℕ = 0xF000 + s * 1024 + bits / 2048 % 1024 in
    let k : ℕ = second + eor_not (bits / 2 ^ 22 % 2) s * 8192 + eor_not (bits / 2 ^ 21 % 2) s * 2048 + bits % 2048 in
    (0xF000 ≤ h) × (h < 0xF800) × (second ≤ k) × (k < second + 0x3000) × (k / 4096 % 2 ≡ 1) × (branch_bits h k ≡ bits)
branch_bits-branch_pair second bits below form = omega arith

pub equal : (a b : ℕ) (x y z : Option Instr) → a ≡ b → x ≡ z → (if nat_eq a b then x else y) ≡ z
equal a b x y z t e = rw (eq-eqb a b t) e

pub other : (a b : ℕ) (x y z : Option Instr) → a ≢ b → y ≡ z → (if nat_eq a b then x else y) ≡ z
other a b x y z t e = rw (ne_eqb a b t) e

in_link : (next : ℕ) (offset : ℤ) → IsOffset (2 ^ 24) offset → decoded_code (branch_pair 0xD000 (halfwords_of offset % 2 ^ 24)) next ≡ Some (BranchLink offset)
in_link next offset v =
    let bits : ℕ = halfwords_of offset % 2 ^ 24 in
    let s : ℕ = bits / 2 ^ 23 in
    let h : ℕ = 0xF000 + s * 1024 + bits / 2048 % 1024 in
    let k : ℕ = 0xD000 + eor_not (bits / 2 ^ 22 % 2) s * 8192 + eor_not (bits / 2 ^ 21 % 2) s * 2048 + bits % 2048 in
    let f = branch_bits-branch_pair 0xD000 bits (omega arith) (omega arith) in
    in_pair h k _ f.0 f.1
    (past k 0x8000 _ _ _ (omega arith) (equal (k / 4096 % 2) 1 _ _ _ f.4 (past k 0xC000 _ _ _ (omega arith)
    (rw (f.5, extended-24 offset v)))))

in_far : (next : ℕ) (offset : ℤ) → IsOffset (2 ^ 24) offset → decoded_code (branch_pair 0x9000 (halfwords_of offset % 2 ^ 24)) next ≡ Some (BranchWide offset)
in_far next offset v =
    let bits : ℕ = halfwords_of offset % 2 ^ 24 in
    let s : ℕ = bits / 2 ^ 23 in
    let h : ℕ = 0xF000 + s * 1024 + bits / 2048 % 1024 in
    let k : ℕ = 0x9000 + eor_not (bits / 2 ^ 22 % 2) s * 8192 + eor_not (bits / 2 ^ 21 % 2) s * 2048 + bits % 2048 in
    let f = branch_bits-branch_pair 0x9000 bits (omega arith) (omega arith) in
    in_pair h k _ f.0 f.1
    (past k 0x8000 _ _ _ (omega arith) (equal (k / 4096 % 2) 1 _ _ _ f.4 (here k 0xC000 _ _ _ (omega arith)
    (rw (f.5, extended-24 offset v)))))

-- MOVW and MOVT
pub move_value-move_pair : (op d value : ℕ) → op < 64 → d < 16 → value < 2 ^ 16 →
    let h : ℕ = 0xF000 + op * 16 + value / 2048 % 2 * 1024 + value / 4096 in
    let k : ℕ = value / 256 % 8 * 4096 + d * 256 + value % 256 in
    (0xF000 ≤ h) × (h < 0xF800) × (k < 0x8000) × (h / 16 % 64 ≡ op) × (k / 256 % 16 ≡ d) × (move_value h k ≡ value)
move_value-move_pair op d value a b c = omega arith

in_move : (d value next : ℕ) → IsGeneral d → value < 2 ^ 16 → decoded_code (move_pair 0xF240 d value) next ≡ Some (MoveWide d value)
unfolding move_of
in_move d value next a b =
    let h : ℕ = 0xF000 + 36 * 16 + value / 2048 % 2 * 1024 + value / 4096 in
    let k : ℕ = value / 256 % 8 * 4096 + d * 256 + value % 256 in
    let f = move_value-move_pair 36 d value (omega arith) (omega arith) b in
    in_pair h k _ f.0 f.1 (here k 0x8000 _ _ _ f.2 (rw (f.4, general d a, f.3, f.5)))

in_move_top : (d value next : ℕ) → IsGeneral d → value < 2 ^ 16 → decoded_code (move_pair 0xF2C0 d value) next ≡ Some (MoveTop d value)
unfolding move_of
in_move_top d value next a b =
    let h : ℕ = 0xF000 + 44 * 16 + value / 2048 % 2 * 1024 + value / 4096 in
    let k : ℕ = value / 256 % 8 * 4096 + d * 256 + value % 256 in
    let f = move_value-move_pair 44 d value (omega arith) (omega arith) b in
    in_pair h k _ f.0 f.1 (here k 0x8000 _ _ _ f.2 (rw (f.4, general d a, f.3, f.5)))

-- the divisions
pub in_divide : (h k : ℕ) (x : Option Instr) → 0xF800 ≤ h → divide_of h k ≡ x → decoded h k ≡ x
unfolding decoded wide_of
in_divide h k x above e =
    past h 0xE800 _ _ x (omega arith) (past h 0xF000 _ _ x (omega arith) (past h 0xF800 _ _ x above e))

divide : (first n d m : ℕ) → first < 0x1000 → IsGeneral n → IsGeneral d → IsGeneral m → divide_of (first * 16 + n) (0xF0F0 + d * 256 + m) ≡
    (if nat_eq first 0xFBB then Some (Divide 0 n d m) else if nat_eq first 0xFB9 then Some (Divide 1 n d m) else None)
unfolding divide_of
divide first n d m room a b c =
    let h : ℕ = first * 16 + n in
    let k : ℕ = 0xF0F0 + d * 256 + m in
    let e1 : k / 4096 ≡ 15 = omega arith in
    let e2 : k / 16 % 16 ≡ 15 = omega arith in
    let e3 : h % 16 ≡ n = omega arith in
    let e4 : k / 256 % 16 ≡ d = omega arith in
    let e5 : k % 16 ≡ m = omega arith in
    let e6 : h / 16 ≡ first = omega arith in
    rw (e1, e2, e3, e4, e5, e6, general n a, general d b, general m c)

-- MSR and MRS
pub in_special_register : (h k : ℕ) (x : Option Instr) → 0xF000 ≤ h → h < 0xF800 → 0x8000 ≤ k → k < 0x9000 → special_register_of h k ≡ x → decoded h k ≡ x
in_special_register h k x a b c d e =
    in_pair h k x a b (past k 0x8000 _ _ x c (other (k / 4096 % 2) 1 _ _ x (omega arith) (here k 0x9000 _ _ x d e)))

special_write : (n s : ℕ) → IsGeneral n → (s ≡ 8) ⊎ (s ≡ 9) ⊎ (s ≡ 20) → special_register_of (0xF380 + n) (0x8800 + s) ≡ Some (SpecialRegister 0 n 0 s)
unfolding special_register_of
special_write n s a b = search (rules, nat_tests)

special_read : (d s : ℕ) → IsGeneral d → (s ≡ 8) ⊎ (s ≡ 9) ⊎ (s ≡ 20) → special_register_of 0xF3EF (0x8000 + d * 256 + s) ≡ Some (SpecialRegister 1 0 d s)
unfolding special_register_of
special_read d s a b = search (rules, nat_tests)

-- an instruction of the table is decoded from its halfwords, whatever follows a single one
pub decoded_code-encode : (i : Instr) (next : ℕ) → InTable i → decoded_code (encode i) next ≡ Some i
unfolding encode stack_of special_register_of
decoded_code-encode (ShiftImmediate op imm5 m d) next v = in_arithmetic _ next _ (omega arith) (shift op imm5 m d v.0 v.1 v.2 v.3)
decoded_code-encode (AddSubRegister op m n d) next v = in_arithmetic _ next _ (omega arith) (sum_register op m n d v.0 v.1 v.2 v.3)
decoded_code-encode (AddSubImmediate op imm3 n d) next v = in_arithmetic _ next _ (omega arith) (sum_immediate op imm3 n d v.0 v.1 v.2 v.3)
decoded_code-encode (DataImmediate op d imm8) next v = in_arithmetic _ next _ (omega arith) (data_immediate op d imm8 v.0 v.1 v.2)
decoded_code-encode (DataRegister op m d) next v = in_transfer _ next _ (omega arith) (omega arith) (data_register op m d v.0 v.1 v.2)
decoded_code-encode (HighRegister op m d) next v = in_special _ next _ (omega arith) (omega arith) (high op m d v.0 v.1 v.2 v.3)
decoded_code-encode (BranchExchange op m) next v = in_special _ next _ (omega arith) (omega arith) (exchange op m v.0 v.1)
decoded_code-encode (LoadLiteral t imm8) next v = in_transfer _ next _ (omega arith) (omega arith) (literal t imm8 v.0 v.1)
decoded_code-encode (TransferRegister op m n t) next v = in_transfer _ next _ (omega arith) (omega arith) (transfer_register op m n t v.0 v.1 v.2 v.3)
decoded_code-encode (TransferImmediate op imm5 n t) next v = in_transfer _ next _ (omega arith) (omega arith) (transfer_immediate op imm5 n t v.0 v.1 v.2 v.3)
decoded_code-encode (StackRelative op t d imm8) next v = elim (zero_one_or_two op v.0) [
  | inl z ↦ rw (lt-ltb op 2 z, v.4 z) (in_stack_relative op t imm8 next z v.1 v.3)
  | inr z ↦ rw (z, v.5 z) (in_stack_address d imm8 next v.2 v.3)
]
decoded_code-encode (AdjustStack op imm7) next v = in_stack _ next _ (omega arith) (omega arith) (adjust op imm7 v.0 v.1)
decoded_code-encode (PushPop op m p list) next v = elim (zero_or_one op v.0) [
  | inl z ↦ let none = v.4 z in rw (z, none) (in_stack _ next _ (omega arith) (omega arith) (push m list v.1 v.3 (omega arith)))
  | inr z ↦ let none = v.5 z in rw (z, none) (in_stack _ next _ (omega arith) (omega arith) (pop p list v.2 v.3 (omega arith)))
]
decoded_code-encode (BreakpointNop op imm8) next v = elim (zero_or_one op v.0) [
  | inl z ↦ rw z (in_stack _ next _ (omega arith) (omega arith) (breakpoint imm8 v.1))
  | inr z ↦ rw (z, v.2 z) (in_stack 0xBF00 next _ (omega arith) (omega arith) refl)
]
decoded_code-encode (TransferMultiple op n list) next v = in_multiple _ next _ (omega arith) (omega arith) (multiple op n list v.0 v.1 v.2 v.3 v.4)
decoded_code-encode (BranchConditional cond offset) next v = in_conditional cond next offset v.0 v.1
decoded_code-encode (CallBranch op imm8 offset) next v = elim (zero_or_one op v.0) [
  | inl z ↦ rw (z, v.3 z) (in_call imm8 next v.1)
  | inr z ↦ rw (z, v.4 z) (in_plain next offset v.2)
]
decoded_code-encode (BranchLink offset) next v = in_link next offset v
decoded_code-encode (BranchWide offset) next v = in_far next offset v
decoded_code-encode (MoveWide d value) next v = in_move d value next v.0 v.1
decoded_code-encode (MoveTop d value) next v = in_move_top d value next v.0 v.1
decoded_code-encode (Divide op n d m) next v = elim (zero_or_one op v.0) [
  | inl z ↦ rw z (in_divide _ _ _ (omega arith) (divide 0xFBB n d m (omega arith) v.1 v.2 v.3))
  | inr z ↦ rw z (in_divide _ _ _ (omega arith) (divide 0xFB9 n d m (omega arith) v.1 v.2 v.3))
]
decoded_code-encode (SpecialRegister op n d s) next v = elim (zero_or_one op v.0) [
  | inl z ↦ rw (z, v.3 z) (in_special_register _ _ _ (omega arith) (omega arith) (omega arith) (omega arith) (special_write n s v.1 v.5))
  | inr z ↦ rw (z, v.4 z) (in_special_register _ _ _ (omega arith) (omega arith) (omega arith) (omega arith) (special_read d s v.2 v.5))
]
decoded_code-encode (Barrier op) next v = elim (zero_or_one op v) [
  | inl z ↦ rw z (in_special_register _ _ _ (omega arith) (omega arith) (omega arith) (omega arith) refl)
  | inr z ↦ rw z (in_special_register _ _ _ (omega arith) (omega arith) (omega arith) (omega arith) refl)
]
