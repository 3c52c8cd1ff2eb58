-- What a handler comes to: the frame that the exception's entry pushed, and how the handler ends.
use Rattle.std.specs.Prelude.{ℕ, ◌+◌, ◌-◌, ◌*◌, List, Bool, ◌&&◌, nat_eq, nat_le}
use Rattle.std.specs.Int.{bit_at}
use Rattle.std.proofs.Math.ListN.{get_or}
use Rattle.base_words.specs.Bytes.{write}
use Rattle.machine_devices.specs.declared.image.Image.{Image}
use Rattle.machine_model.specs.Stack.{words_at}
use Rattle.monitor_model.specs.declared.tables.Tables.{Tables}
use Rattle.monitor_model.specs.Block.{MonitorBlock}
use Rattle.monitor_model.specs.Offsets.{frame_r12, frame_return, frame_xpsr}
use Rattle.monitor_model.specs.Values.{frame_size}

pub data Outcome : Type 0 where
  -- by this number, before anything was changed
  Halts : (number : ℕ) → Outcome
  -- a load from where nothing lies stops the machine, before anything was changed
  StopsAtBus : Outcome
  -- an access whose address is no multiple of its width stops it too. No instruction is refused there, since it would have stopped
  StopsUnaligned : Outcome
  -- the thread goes on: the block, the stack pointer at whose frame it does, and RAM but for the monitor's block
  Resumes : (block : MonitorBlock) → (psp : ℕ) → (memory : List ℕ) → Outcome

-- words of an exception's frame, by their numbers
abbrev pub r12_place : ℕ
r12_place = frame_r12

abbrev pub return_place : ℕ
return_place = frame_return

abbrev pub status_place : ℕ
status_place = frame_xpsr

-- the eight words of the frame at a stack pointer, and one of them
abbrev pub frame_in : Image → (psp : ℕ) → (memory : List ℕ) → List ℕ
frame_in i psp memory = words_at 8 (psp - i.ram_base) memory

abbrev pub stacked : Image → (psp : ℕ) → (memory : List ℕ) → (place : ℕ) → ℕ
stacked i psp memory k = get_or (frame_in i psp memory) k 0

-- RAM with another word in that frame
abbrev pub with_stacked : Image → (psp : ℕ) → (place value : ℕ) → (memory : List ℕ) → List ℕ
with_stacked i psp k v memory = write 4 (psp - i.ram_base + 4 * k) v memory

-- the return address rises by 2
abbrev pub moved_on : Image → (psp : ℕ) → (memory : List ℕ) → List ℕ
moved_on i psp memory = with_stacked i psp return_place (stacked i psp memory return_place + 2) memory

-- what both handlers test first: the frame lies in the open stack, and it has no pad
abbrev pub is_open : Image → Tables → MonitorBlock → (psp : ℕ) → (memory : List ℕ) → Bool
is_open i t m psp memory =
    nat_le t.stack.base psp && (nat_le (psp + frame_size) m.top && nat_eq (bit_at (stacked i psp memory status_place) 9) 0)
