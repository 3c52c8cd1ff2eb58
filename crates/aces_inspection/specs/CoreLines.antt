-- The lines of the core: its registers, its mode, and the faults that it tells of.
use Rattle.std.specs.Prelude.{ℕ, ◌+◌, List, [], ◌++◌, Bool, not, flat_map, codes, if◌then◌else◌, nat_eq}
use Rattle.std.specs.Fmt.{decimal}
use Rattle.machine_lines.specs.Lines.{hexadecimal, line_feed}
use Rattle.base_words.specs.declared.conditions.Flags.{Flags}
use Rattle.plan_model.specs.Lists.{numbers_below}
use Rattle.machine_model.specs.declared.state.CoreRegisters.{CoreRegisters}
use Rattle.machine_model.specs.declared.state.FaultStatus.{FaultStatus}
use Rattle.machine_model.specs.State.{State, register, is_unprivileged}

-- a word in eight digits, behind its name
unfoldable pub named_word : (name : List ℕ) → (word : ℕ) → List ℕ
named_word name x = name ++ codes " 0x" ++ hexadecimal 8 x

-- a flag is its letter where it is set
abbrev pub flag_text : (letter : List ℕ) → (is_set : Bool) → List ℕ
flag_text letter b = if b then letter else codes "-"

unfoldable pub flags_text : Flags → List ℕ
flags_text f = flag_text (codes "N") f.negative ++ flag_text (codes "Z") f.is_zero ++ flag_text (codes "C") f.carry ++ flag_text (codes "V") f.overflow

-- the stack pointer in use, and the other one
unfoldable pub core_line : CoreRegisters → List ℕ
core_line c =
    named_word (codes "pc") c.pc ++ named_word (codes " sp") c.sp ++ named_word (codes " other") c.other_sp ++ named_word (codes " lr") c.lr
    ++ codes " flags " ++ flags_text c.flags ++ line_feed

abbrev pub register_text : CoreRegisters → (number : ℕ) → List ℕ
register_text c k = codes "r" ++ decimal k ++ codes " 0x" ++ hexadecimal 8 (register c k)

-- r1 to r12, each behind a space
unfoldable pub registers_behind : CoreRegisters → List ℕ
registers_behind c = flat_map (λ k. codes " " ++ register_text c (1 + k)) (numbers_below 12)

-- r0 to r12
unfoldable pub register_line : CoreRegisters → List ℕ
register_line c = register_text c 0 ++ registers_behind c ++ line_feed

-- the mode, whether its instructions are privileged, and which stack pointer is in use (B1.3.1, B1.4.1)
unfoldable pub mode_line : State → List ℕ
mode_line s =
    (if s.protection.handler then codes "mode handler " else codes "mode thread ")
    ++ (if not (is_unprivileged s.protection) then codes "privileged " else codes "unprivileged ")
    ++ (if s.core.on_psp then codes "process" else codes "main") ++ line_feed

-- CFSR and MMFAR, where a fault is told
unfoldable pub fault_line : FaultStatus → List ℕ
fault_line t = if nat_eq t.cfsr 0 then [] else named_word (codes "fault cfsr") t.cfsr ++ named_word (codes " address") t.mmfar ++ line_feed
