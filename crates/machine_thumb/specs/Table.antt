-- The instruction table: which instructions there are, and their halfwords.
use Rattle.std.specs.Prelude.{◌≡◌, ◌≢◌, ℕ, ℤ, pos, negsuc, ◌+◌, ◌-◌, ◌*◌, ◌/◌, ◌%◌, ◌^◌, ◌<◌, ◌≤◌, ◌<ℤ◌, ◌≤ℤ◌, ◌⊎◌, nat_eq, nat_lt, if◌then◌else◌}
use Rattle.std.specs.Int.{w32, cast_unsigned}
use Rattle.machine_thumb.specs.declared.table.Code.{Code}
use Rattle.machine_thumb.specs.declared.table.Code.TheVariants.{Half, Pair}
use Rattle.machine_thumb.specs.declared.table.Instr.{Instr}
use Rattle.machine_thumb.specs.declared.table.Instr.TheVariants.{ShiftImmediate, AddSubRegister, AddSubImmediate, DataImmediate, DataRegister, HighRegister, BranchExchange, LoadLiteral, TransferRegister, TransferImmediate, StackRelative, AdjustStack, PushPop, BreakpointNop, TransferMultiple, BranchConditional, CallBranch, BranchLink, BranchWide, MoveWide, MoveTop, Divide, SpecialRegister, Barrier}

-- a register that is neither the stack pointer nor the program counter
abbrev pub IsGeneral : ℕ → Type 0
IsGeneral r = (r < 15) × (r ≢ 13)

-- a distance in bytes that a branch can go: even, and not below minus the limit, and below the limit.
-- Its lowest bit in two's complement is that of the distance.
pub record IsOffset (limit : ℕ) (offset : ℤ) : Type 0 where
  pub from : negsuc (limit - 1) ≤ℤ offset
  pub below : offset <ℤ pos limit
  pub even : cast_unsigned w32 offset % 2 ≡ 0

-- the bits of a distance that a branch holds: all but the lowest, in two's complement
abbrev pub halfwords_of : ℤ → ℕ
halfwords_of offset = cast_unsigned w32 offset / 2

-- where a store has its base in the list, the base is the lowest register there
abbrev pub StoresBaseFirst : ℕ → ℕ → Type 0
StoresBaseFirst n list = list / 2 ^ n % 2 ≡ 1 → list % 2 ^ n ≡ 0

-- the instruction stands in the table: each field is in its range, and 0 where the encoding has no bits for
-- it, and the instruction is none of the cases that are left out, as an empty list or the program counter
-- as a high register
abbrev pub InTable : Instr → Type 0
InTable (ShiftImmediate op imm5 m d) = (op < 3) × (imm5 < 32) × (m < 8) × (d < 8)
InTable (AddSubRegister op m n d) = (op < 2) × (m < 8) × (n < 8) × (d < 8)
InTable (AddSubImmediate op imm3 n d) = (op < 2) × (imm3 < 8) × (n < 8) × (d < 8)
InTable (DataImmediate op d imm8) = (op < 4) × (d < 8) × (imm8 < 256)
InTable (DataRegister op m d) = (op < 16) × (m < 8) × (d < 8)
InTable (HighRegister op m d) = (op < 3) × (m < 15) × (d < 15) × (op ≡ 1 → (8 ≤ m) ⊎ (8 ≤ d))
InTable (BranchExchange op m) = (op < 2) × (m < 15)
InTable (LoadLiteral t imm8) = (t < 8) × (imm8 < 256)
InTable (TransferRegister op m n t) = (op < 8) × (m < 8) × (n < 8) × (t < 8)
InTable (TransferImmediate op imm5 n t) = (op < 6) × (imm5 < 32) × (n < 8) × (t < 8)
InTable (StackRelative op t d imm8) =
    (op < 3) × (t < 8) × (d < 8) × (imm8 < 256) × (op < 2 → d ≡ 0) × (op ≡ 2 → t ≡ 0)
InTable (AdjustStack op imm7) = (op < 2) × (imm7 < 128)
InTable (PushPop op m p list) =
    (op < 2) × (m < 2) × (p < 2) × (list < 256) × (op ≡ 0 → p ≡ 0) × (op ≡ 1 → m ≡ 0) × (0 < m + p + list)
InTable (BreakpointNop op imm8) = (op < 2) × (imm8 < 256) × (op ≡ 1 → imm8 ≡ 0)
InTable (TransferMultiple op n list) =
    (op < 2) × (n < 8) × (list < 256) × (0 < list) × (op ≡ 0 → StoresBaseFirst n list)
InTable (BranchConditional cond offset) = (cond < 14) × IsOffset 256 offset
InTable (CallBranch op imm8 offset) =
    (op < 2) × (imm8 < 256) × IsOffset 2048 offset × (op ≡ 0 → offset ≡ pos 0) × (op ≡ 1 → imm8 ≡ 0)
InTable (BranchLink offset) = IsOffset (2 ^ 24) offset
InTable (BranchWide offset) = IsOffset (2 ^ 24) offset
InTable (MoveWide d value) = IsGeneral d × (value < 2 ^ 16)
InTable (MoveTop d value) = IsGeneral d × (value < 2 ^ 16)
InTable (Divide op n d m) = (op < 2) × IsGeneral n × IsGeneral d × IsGeneral m
InTable (SpecialRegister op n d s) =
    (op < 2) × IsGeneral n × IsGeneral d × (op ≡ 0 → d ≡ 0) × (op ≡ 1 → n ≡ 0)
    × ((s ≡ 8) ⊎ (s ≡ 9) ⊎ (s ≡ 20))
InTable (Barrier op) = op < 2

-- NOT(I EOR S), the bit J of a branch; J gives I back in the same way
abbrev pub eor_not : ℕ → ℕ → ℕ
eor_not i s = (i + s + 1) % 2

-- a branch of two halfwords, from the bits S:I1:I2:imm10:imm11 of its distance:
-- 11110 S imm10, then J1, J2 and imm11 upon the fixed bits of the second halfword
abbrev pub branch_pair : ℕ → ℕ → Code
branch_pair second bits =
    let s : ℕ = bits / 2 ^ 23 in
    let i1 : ℕ = bits / 2 ^ 22 % 2 in
    let i2 : ℕ = bits / 2 ^ 21 % 2 in
    Pair (0xF000 + s * 1024 + bits / 2048 % 1024)
    (second + eor_not i1 s * 8192 + eor_not i2 s * 2048 + bits % 2048)

-- a move of imm4:i:imm3:imm8: 11110 i and the operation's bits and imm4, then 0 imm3 d imm8
abbrev pub move_pair : ℕ → ℕ → ℕ → Code
move_pair first d value =
    Pair (first + value / 2048 % 2 * 1024 + value / 4096) (value / 256 % 8 * 4096 + d * 256 + value % 256)

-- the halfwords of an instruction, its fields in the order in which they stand there
unfoldable pub encode : Instr → Code
encode (ShiftImmediate op imm5 m d) = Half (op * 2048 + imm5 * 64 + m * 8 + d)
encode (AddSubRegister op m n d) = Half (0x1800 + op * 512 + m * 64 + n * 8 + d)
encode (AddSubImmediate op imm3 n d) = Half (0x1C00 + op * 512 + imm3 * 64 + n * 8 + d)
encode (DataImmediate op d imm8) = Half (0x2000 + op * 2048 + d * 256 + imm8)
encode (DataRegister op m d) = Half (0x4000 + op * 64 + m * 8 + d)
encode (HighRegister op m d) = Half (0x4400 + op * 256 + d / 8 * 128 + m * 8 + d % 8)
encode (BranchExchange op m) = Half (0x4700 + op * 128 + m * 8)
encode (LoadLiteral t imm8) = Half (0x4800 + t * 256 + imm8)
encode (TransferRegister op m n t) = Half (0x5000 + op * 512 + m * 64 + n * 8 + t)
encode (TransferImmediate op imm5 n t) = Half (0x6000 + op * 2048 + imm5 * 64 + n * 8 + t)
encode (StackRelative op t d imm8) =
    if nat_lt op 2 then Half (0x9000 + op * 2048 + t * 256 + imm8) else Half (0xA800 + d * 256 + imm8)
encode (AdjustStack op imm7) = Half (0xB000 + op * 128 + imm7)
encode (PushPop op m p list) =
    if nat_eq op 0 then Half (0xB400 + m * 256 + list) else Half (0xBC00 + p * 256 + list)
encode (BreakpointNop op imm8) = if nat_eq op 0 then Half (0xBE00 + imm8) else Half 0xBF00
encode (TransferMultiple op n list) = Half (0xC000 + op * 2048 + n * 256 + list)
encode (BranchConditional cond offset) = Half (0xD000 + cond * 256 + halfwords_of offset % 256)
encode (CallBranch op imm8 offset) =
    if nat_eq op 0 then Half (0xDF00 + imm8) else Half (0xE000 + halfwords_of offset % 2048)
encode (BranchLink offset) = branch_pair 0xD000 (halfwords_of offset % 2 ^ 24)
encode (BranchWide offset) = branch_pair 0x9000 (halfwords_of offset % 2 ^ 24)
encode (MoveWide d value) = move_pair 0xF240 d value
encode (MoveTop d value) = move_pair 0xF2C0 d value
encode (Divide op n d m) = Pair ((if nat_eq op 0 then 0xFBB0 else 0xFB90) + n) (0xF0F0 + d * 256 + m)
encode (SpecialRegister op n d s) =
    if nat_eq op 0 then Pair (0xF380 + n) (0x8800 + s) else Pair 0xF3EF (0x8000 + d * 256 + s)
encode (Barrier op) = Pair 0xF3BF (0x8F4F + op * 32)

-- the relation between halfwords and an instruction
pub record Encodes (code : Code) (i : Instr) : Type 0 where
  pub in_table : InTable i
  pub halfwords : encode i ≡ code

-- how many bytes the halfwords are
abbrev pub width_of : Code → ℕ
width_of (Half h) = 2
width_of (Pair h k) = 4

-- the halfwords that are read where these two follow each other: first five bits 11101, 11110 or 11111
-- take the second
abbrev pub read_code : ℕ → ℕ → Code
read_code h1 h2 = if nat_lt h1 0xE800 then Half h1 else Pair h1 h2

-- SVC #n
abbrev pub svc : ℕ → Instr
svc n = CallBranch 0 n (pos 0)
