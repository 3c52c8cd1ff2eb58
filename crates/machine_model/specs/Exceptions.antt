-- Exception entry and return (Armv7-M ARM, B1.5.6 to B1.5.8). The order and the privilege of the tests of the eight
-- stacked words, and the two stops that follow from them, are this profile's own choice.
use Rattle.std.specs.Prelude.{ℕ, zero, suc, ◌+◌, ◌-◌, ◌*◌, ◌/◌, ◌%◌, ◌^◌, List, [], ◌∷◌, Bool, true, false, not, ◌&&◌, None, nat_eq, bit_or}
use Rattle.std.proofs.Math.ListN.{get_or, set}
use Rattle.base_words.specs.Arithmetic.{word}
use Rattle.base_words.specs.Bytes.{read}
use Rattle.base_words.specs.declared.conditions.Flags.{Flags}
use Rattle.machine_protection.specs.declared.region.Access.TheVariants.{Read, Write}
use Rattle.machine_devices.specs.declared.image.Image.{Image}
use Rattle.machine_bus.specs.Locations.{location, choose}
use Rattle.machine_bus.specs.Bus.{word_at, put_at}
use Rattle.machine_model.specs.declared.state.CoreRegisters.{CoreRegisters}
use Rattle.machine_model.specs.declared.state.FaultStatus.{FaultStatus}
use Rattle.machine_model.specs.declared.state.StopReason.TheVariants.{MemDisabled, Stacking, Unstacking, Handler, Usage}
use Rattle.machine_model.specs.State.{State, Touched, Turn, PermissionTest, stops, low_register, bit_of}
use Rattle.machine_model.specs.Tests.{all_open}

-- words one after another
unfoldable pub stacked_words : Image → (address count : ℕ) → (ram : List ℕ) → List ℕ
stacked_words i a zero ram = []
stacked_words i a (suc n) ram = word_at (location i a) i ram ∷ stacked_words i (word (a + 4)) n ram

unfoldable pub push_words : Image → (address : ℕ) → (values ram : List ℕ) → List ℕ
push_words i a [] ram = ram
push_words i a (v ∷ vs) ram = push_words i (word (a + 4)) vs (put_at (location i a) 4 v ram)

unfoldable pub words_from : (address count : ℕ) → List Touched
words_from a zero = []
words_from a (suc n) = record { width = 4; address = a } ∷ words_from (word (a + 4)) n

-- exception numbers (B1.5.2)
abbrev pub mem_manage : ℕ
mem_manage = 4

abbrev pub supervisor_call : ℕ
supervisor_call = 11

-- the stack pointer is moved to a multiple of 8 (STKALIGN)
abbrev pub has_pad : (sp : ℕ) → Bool
has_pad sp = not (nat_eq (sp % 8) 0)

abbrev pub frame_at : (sp : ℕ) → ℕ
frame_at sp = word (sp + 2 ^ 32 - choose (has_pad sp) 36 32)

-- xPSR: N, Z, C and V from bit 31 down, T in bit 24, the pad in bit 9, no exception number
abbrev pub stacked_status : Flags → (pad : Bool) → ℕ
stacked_status f pad =
    2 ^ 31 * bit_of f.negative + 2 ^ 30 * bit_of f.is_zero + 2 ^ 29 * bit_of f.carry + 2 ^ 28 * bit_of f.overflow + 2 ^ 24 + 2 ^ 9 * bit_of pad

-- PushStack: r0 to r3, r12, lr, the return address, xPSR
abbrev pub frame_of : CoreRegisters → (return_address : ℕ) → List ℕ
frame_of c ret =
    low_register c 0 ∷ low_register c 1 ∷ low_register c 2 ∷ low_register c 3 ∷ get_or c.high 4 0 ∷ c.lr ∷ ret ∷ stacked_status c.flags (has_pad c.sp) ∷ []

-- EXC_RETURN: to Thread mode on PSP, or on MSP
abbrev pub return_on_psp : ℕ
return_on_psp = 0xFFFFFFFD

abbrev pub return_on_msp : ℕ
return_on_msp = 0xFFFFFFF9

-- the handler's address, from the vector table at the flash base
abbrev pub vector_offset : (exception : ℕ) → ℕ
vector_offset n = 4 * n

abbrev pub vector : Image → (exception : ℕ) → ℕ
vector i n = read 4 (vector_offset n) i.flash / 2 * 2

-- ExceptionTaken: the handler goes on with MSP
abbrev pub entry_core : Image → (exception : ℕ) → CoreRegisters → CoreRegisters
entry_core i n c =
    record c {
      sp = choose c.on_psp c.other_sp (frame_at c.sp);
      other_sp = choose c.on_psp (frame_at c.sp) c.other_sp;
      on_psp = false;
      lr = choose c.on_psp return_on_psp return_on_msp;
      pc = vector i n;
    }

-- an entry pushes eight words where all may be written; the status is that of the fault
abbrev pub entered : (is_open : Bool) → Image → (exception return_address : ℕ) → FaultStatus → State → Turn
entered false i n ret t s = stops Stacking s
entered true i n ret t s =
    record {
      to = record s {
        core = entry_core i n s.core;
        protection = record s.protection { handler = true };
        status = t;
        ram = push_words i (frame_at s.core.sp) (frame_of s.core ret) s.ram;
      };
      stores = words_from (frame_at s.core.sp) 8;
      loads = record { width = 4; address = i.flash_base + vector_offset n } ∷ [];
      event = None;
    }

abbrev pub is_frame_open : PermissionTest → Image → State → Bool
is_frame_open j i s = all_open j i s.protection Write (frame_at s.core.sp) 8

-- SVC
abbrev pub call : (handler : Bool) → PermissionTest → Image → (next : ℕ) → State → Turn
call true j i next s = stops Handler s
call false j i next s = entered (is_frame_open j i s) i supervisor_call next s.status s

-- SHCSR.MEMFAULTENA
abbrev pub is_fault_enabled : FaultStatus → Bool
is_fault_enabled t = nat_eq (t.shcsr / 2 ^ 16 % 2) 1

-- a MemManage fault, with the status that it leaves
abbrev pub fault_by : (handler enabled : Bool) → PermissionTest → Image → FaultStatus → State → Turn
fault_by true e j i t s = stops Handler s
fault_by false false j i t s = stops MemDisabled s
fault_by false true j i t s = entered (is_frame_open j i s) i mem_manage s.core.pc t s

abbrev pub fault : PermissionTest → Image → FaultStatus → State → Turn
fault j i t s = fault_by s.protection.handler (is_fault_enabled s.status) j i t s

-- the status behind a refused fetch (IACCVIOL), and behind a refused data access (DACCVIOL, MMARVALID, and the address)
abbrev pub fetch_status : FaultStatus → FaultStatus
fetch_status t = record t { cfsr = bit_or t.cfsr 1 }

abbrev pub data_status : (address : ℕ) → FaultStatus → FaultStatus
data_status a t = record t { cfsr = bit_or t.cfsr 0x82; mmfar = a }

abbrev pub fetch_fault : PermissionTest → Image → State → Turn
fetch_fault j i s = fault j i (fetch_status s.status) s

abbrev pub data_fault : PermissionTest → Image → (address : ℕ) → State → Turn
data_fault j i a s = fault j i (data_status a s.status) s

-- PopStack: SP goes up by 32, and bit 2 is set where the stacked xPSR tells of a pad
abbrev pub with_pad : (pad : Bool) → (sp : ℕ) → ℕ
with_pad false sp = sp
with_pad true sp = sp / 8 * 8 + 4 + sp % 4

abbrev pub flags_of : (status : ℕ) → Flags
flags_of x = record {
  negative = nat_eq (x / 2 ^ 31 % 2) 1;
  is_zero = nat_eq (x / 2 ^ 30 % 2) 1;
  carry = nat_eq (x / 2 ^ 29 % 2) 1;
  overflow = nat_eq (x / 2 ^ 28 % 2) 1;
}

-- a stacked xPSR of Thread mode: T set, exception number 0
abbrev pub is_thread : (status : ℕ) → Bool
is_thread x = nat_eq (x / 2 ^ 24 % 2) 1 && nat_eq (x % 2 ^ 9) 0

-- the registers after the words of a frame were taken; psp: from PSP
abbrev pub unstacked : (psp : Bool) → CoreRegisters → (frame : ℕ) → (words : List ℕ) → CoreRegisters
unstacked psp c a ws =
    let status : ℕ = get_or ws 7 0 in
    record c {
      low = set (set (set (set c.low 0 (get_or ws 0 0)) 1 (get_or ws 1 0)) 2 (get_or ws 2 0)) 3 (get_or ws 3 0);
      high = set c.high 4 (get_or ws 4 0);
      sp = with_pad (nat_eq (status / 2 ^ 9 % 2) 1) (word (a + 32));
      other_sp = choose psp c.sp c.other_sp;
      on_psp = psp;
      lr = get_or ws 5 0;
      pc = get_or ws 6 0 / 2 * 2;
      flags = flags_of status;
    }

abbrev pub leaves : (is_open thread : Bool) → (psp : Bool) → (frame : ℕ) → (words : List ℕ) → State → Turn
leaves false t psp a ws s = stops Unstacking s
leaves true false psp a ws s = stops Usage s
leaves true true psp a ws s =
    record {
      to = record s { core = unstacked psp s.core a ws; protection = record s.protection { handler = false } };
      stores = [];
      loads = words_from a 8;
      event = None;
    }

-- an exception return, in Handler mode: the words are tested as Thread mode would read them
abbrev pub returns : PermissionTest → Image → (psp : Bool) → State → Turn
returns j i psp s =
    let a : ℕ = choose psp s.core.other_sp s.core.sp in
    let ws : List ℕ = stacked_words i a 8 s.ram in
    leaves (all_open j i (record s.protection { handler = false }) Read a 8) (is_thread (get_or ws 7 0)) psp a ws s
