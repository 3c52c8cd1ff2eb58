-- Beyond the program's claim: only laws, proofs and functions inside the tool cite this file.
-- A small stack for the handlers: the firmware's 2,048 bytes, as words. The frame of an exception lies at the stack pointer.
use Rattle.std.specs.Prelude.{ℕ, ◌-◌, ◌/◌, List, [], ◌∷◌, ◌++◌, replicate}
use Rattle.monitor_model.specs.Block.{Loan, Saved, MonitorBlock}
use Rattle.monitor_program.specs.Page.{bytes_of_words}

-- eight words at an offset of the stack, and zeros elsewhere
abbrev pub stack_with : (offset : ℕ) → (frame : List ℕ) → List ℕ
stack_with o frame = bytes_of_words (replicate (o / 4) 0 ++ (frame ++ replicate (512 - 8 - o / 4) 0))

-- r0 to r3, r12, lr, the return address and a thread's xPSR
abbrev pub frame_of : (r0 r1 r12 return_address : ℕ) → List ℕ
frame_of r0 r1 r12 ret = r0 ∷ r1 ∷ 3 ∷ 4 ∷ r12 ∷ 5 ∷ ret ∷ 0x01000000 ∷ []

-- main runs, and nothing is saved or lent
abbrev pub main_runs : MonitorBlock
main_runs = record { current = 0; top = 0x20000800; mark = 0; saved = []; loans = [] }

-- main's word is lent
abbrev pub loan : Loan
loan = record { address = 0x200007E8; end = 0x200007EC; number = 0 }

-- main has called compartment 1, which has called compartment 2
abbrev pub main_saved : Saved
main_saved = record { psp = 0x200007C0; current = 0; top = 0x20000800; mark = 0 }

abbrev pub two_calls : MonitorBlock
two_calls = record {
  current = 2;
  top = 0x20000600;
  mark = 1;
  saved = record { psp = 0x200006D0; current = 1; top = 0x20000700; mark = 1 } ∷ main_saved ∷ [];
  loans = loan ∷ [];
}
