-- The instruction of two halfwords, by the bits in front.
use Rattle.std.specs.Prelude.{ℕ, ℤ, ◌+◌, ◌-◌, ◌*◌, ◌/◌, ◌%◌, ◌^◌, Bool, ◌&&◌, ◌||◌, Option, Some, None, pos, nat_eq, nat_lt, if◌then◌else◌}
use Rattle.std.specs.Int.{w32, cast_signed}
use Rattle.machine_thumb.specs.Table.{eor_not}
use Rattle.machine_thumb.specs.declared.table.Code.{Code}
use Rattle.machine_thumb.specs.declared.table.Code.TheVariants.{Half, Pair}
use Rattle.machine_thumb.specs.declared.table.Instr.{Instr}
use Rattle.machine_thumb.specs.declared.table.Instr.TheVariants.{ShiftImmediate, AddSubRegister, AddSubImmediate, DataImmediate, DataRegister, HighRegister, BranchExchange, LoadLiteral, TransferRegister, TransferImmediate, StackRelative, AdjustStack, PushPop, BreakpointNop, TransferMultiple, BranchConditional, CallBranch, BranchLink, BranchWide, MoveWide, MoveTop, Divide, SpecialRegister, Barrier}

-- SignExtend(bits:'0', 32), where the highest of the bits has this value
abbrev pub extended : ℕ → ℕ → ℤ
extended half bits = cast_signed w32 (if nat_lt bits half then 2 * bits else 2 ^ 32 - 4 * half + 2 * bits)

-- 000, 001: shifts, sums and numbers
unfoldable pub arithmetic_of : ℕ → Option Instr
arithmetic_of h =
    if nat_lt h 0x1800 then Some (ShiftImmediate (h / 2048) (h / 64 % 32) (h / 8 % 8) (h % 8))
    else if nat_lt h 0x1C00 then Some (AddSubRegister (h / 512 % 2) (h / 64 % 8) (h / 8 % 8) (h % 8))
    else if nat_lt h 0x2000 then Some (AddSubImmediate (h / 512 % 2) (h / 64 % 8) (h / 8 % 8) (h % 8))
    else Some (DataImmediate (h / 2048 % 4) (h / 256 % 8) (h % 256))

-- 010001: high registers, BX and BLX
unfoldable pub special_of : ℕ → Option Instr
special_of h =
    let m : ℕ = h / 8 % 16 in
    let d : ℕ = h / 128 % 2 * 8 + h % 8 in
    if nat_eq m 15 then None
    else if nat_lt h 0x4700 then
    (if nat_eq d 15 then None
    else if nat_eq (h / 256 % 4) 1 && nat_lt m 8 && nat_lt d 8 then None
    else Some (HighRegister (h / 256 % 4) m d))
    else if nat_eq (h % 8) 0 then Some (BranchExchange (h / 128 % 2) m)
    else None

-- 0100 to 1000: registers, literals, loads and stores
unfoldable pub transfer_of : ℕ → Option Instr
transfer_of h =
    if nat_lt h 0x4400 then Some (DataRegister (h / 64 % 16) (h / 8 % 8) (h % 8))
    else if nat_lt h 0x4800 then special_of h
    else if nat_lt h 0x5000 then Some (LoadLiteral (h / 256 % 8) (h % 256))
    else if nat_lt h 0x6000 then Some (TransferRegister (h / 512 % 8) (h / 64 % 8) (h / 8 % 8) (h % 8))
    else Some (TransferImmediate (h / 2048 - 12) (h / 64 % 32) (h / 8 % 8) (h % 8))

-- 1011: the stack pointer, PUSH, POP, BKPT and NOP
unfoldable pub stack_of : ℕ → Option Instr
stack_of h =
    if nat_lt h 0xB100 then Some (AdjustStack (h / 128 % 2) (h % 128))
    else if nat_lt h 0xB401 then None
    else if nat_lt h 0xB600 then Some (PushPop 0 (h / 256 % 2) 0 (h % 256))
    else if nat_lt h 0xBC01 then None
    else if nat_lt h 0xBE00 then Some (PushPop 1 0 (h / 256 % 2) (h % 256))
    else if nat_lt h 0xBF00 then Some (BreakpointNop 0 (h % 256))
    else if nat_eq h 0xBF00 then Some (BreakpointNop 1 0)
    else None

-- 1100: many registers
unfoldable pub multiple_of : ℕ → Option Instr
multiple_of h =
    let n : ℕ = h / 256 % 8 in
    let list : ℕ = h % 256 in
    if nat_eq list 0 then None
    else if nat_lt h 0xC800 && nat_eq (list / 2 ^ n % 2) 1 && nat_lt 0 (list % 2 ^ n) then None
    else Some (TransferMultiple (h / 2048 % 2) n list)

-- 1001 to 11100: what is relative to the stack pointer, and all that follows
unfoldable pub upper_of : ℕ → Option Instr
upper_of h =
    if nat_lt h 0xA000 then Some (StackRelative (h / 2048 % 2) (h / 256 % 8) 0 (h % 256))
    else if nat_lt h 0xA800 then None
    else if nat_lt h 0xB000 then Some (StackRelative 2 0 (h / 256 % 8) (h % 256))
    else if nat_lt h 0xC000 then stack_of h
    else if nat_lt h 0xD000 then multiple_of h
    else if nat_lt h 0xDE00 then Some (BranchConditional (h / 256 % 16) (extended 128 (h % 256)))
    else if nat_lt h 0xDF00 then None
    else if nat_lt h 0xE000 then Some (CallBranch 0 (h % 256) (pos 0))
    else Some (CallBranch 1 0 (extended 1024 (h % 2048)))

-- one halfword, below 0xE800
unfoldable pub narrow_of : ℕ → Option Instr
narrow_of h =
    if nat_lt h 0x4000 then arithmetic_of h
    else if nat_lt h 0x9000 then transfer_of h
    else upper_of h

-- a register that is neither the stack pointer nor the program counter
abbrev pub is_general : ℕ → Bool
is_general r = nat_lt r 13 || nat_eq r 14

-- S:I1:I2:imm10:imm11
abbrev pub branch_bits : ℕ → ℕ → ℕ
branch_bits h k =
    let s : ℕ = h / 1024 % 2 in
    s * 2 ^ 23 + eor_not (k / 8192 % 2) s * 2 ^ 22 + eor_not (k / 2048 % 2) s * 2 ^ 21
    + h % 1024 * 2048 + k % 2048

-- imm4:i:imm3:imm8
abbrev pub move_value : ℕ → ℕ → ℕ
move_value h k = h % 16 * 4096 + h / 1024 % 2 * 2048 + k / 4096 % 8 * 256 + k % 256

-- 11110 .. / 0: MOVW and MOVT
unfoldable pub move_of : ℕ → ℕ → Option Instr
move_of h k =
    let d : ℕ = k / 256 % 16 in
    if is_general d then
    (if nat_eq (h / 16 % 64) 36 then Some (MoveWide d (move_value h k))
    else if nat_eq (h / 16 % 64) 44 then Some (MoveTop d (move_value h k))
    else None)
    else None

-- 111100111 .. / 10.0: MSR, MRS, DSB and ISB
unfoldable pub special_register_of : ℕ → ℕ → Option Instr
special_register_of h k =
    if nat_eq h 0xF3BF then
    (if nat_eq k 0x8F4F then Some (Barrier 0) else if nat_eq k 0x8F6F then Some (Barrier 1) else None)
    else if nat_eq (k % 256) 8 || nat_eq (k % 256) 9 || nat_eq (k % 256) 20 then
    (if nat_eq h 0xF3EF then
    (if is_general (k / 256 % 16) then Some (SpecialRegister 1 0 (k / 256 % 16) (k % 256)) else None)
    else if nat_eq (h / 16) 0xF38 && nat_eq (k / 256) 0x88 && is_general (h % 16) then
    Some (SpecialRegister 0 (h % 16) 0 (k % 256))
    else None)
    else None

-- 11111: the divisions
unfoldable pub divide_of : ℕ → ℕ → Option Instr
divide_of h k =
    if nat_eq (k / 4096) 15 && nat_eq (k / 16 % 16) 15
    && is_general (h % 16) && is_general (k / 256 % 16) && is_general (k % 16) then
    (if nat_eq (h / 16) 0xFBB then Some (Divide 0 (h % 16) (k / 256 % 16) (k % 16))
    else if nat_eq (h / 16) 0xFB9 then Some (Divide 1 (h % 16) (k / 256 % 16) (k % 16))
    else None)
    else None

-- two halfwords, the first from 0xE800
unfoldable pub wide_of : ℕ → ℕ → Option Instr
wide_of h k =
    if nat_lt h 0xF000 then None
    else if nat_lt h 0xF800 then
    (if nat_lt k 0x8000 then move_of h k
    else if nat_eq (k / 4096 % 2) 1 then
    (if nat_lt k 0xC000 then Some (BranchWide (extended (2 ^ 23) (branch_bits h k)))
    else Some (BranchLink (extended (2 ^ 23) (branch_bits h k))))
    else if nat_lt k 0x9000 then special_register_of h k
    else None)
    else divide_of h k

-- the instruction of two halfwords, of which it may take only the first
unfoldable pub decoded : ℕ → ℕ → Option Instr
decoded h1 h2 = if nat_lt h1 0xE800 then narrow_of h1 else wide_of h1 h2

-- the instruction of these halfwords, where this one follows if they are one
abbrev pub decoded_code : Code → ℕ → Option Instr
decoded_code (Half h) next = decoded h next
decoded_code (Pair h k) next = decoded h k
