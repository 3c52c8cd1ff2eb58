-- The lines of what stands in memory: the frame of the exception that a handler serves, and the monitor's block.
use Rattle.std.specs.Prelude.{◌≡◌, ℕ, ◌+◌, ◌-◌, ◌*◌, ◌%◌, ◌^◌, ◌≤◌, List, [], ◌++◌, ◌&&◌, flat_map, codes, if◌then◌else◌, nat_eq, min}
use Rattle.std.specs.Fmt.{decimal}
use Rattle.machine_lines.specs.Lines.{line_feed}
use Rattle.base_ranges.specs.Ranges.{is_inside}
use Rattle.plan_model.specs.Lists.{numbers_below}
use Rattle.machine_devices.specs.declared.image.Image.{Image}
use Rattle.machine_bus.specs.Bus.{word_at}
use Rattle.machine_bus.specs.Locations.{location}
use Rattle.machine_model.specs.declared.state.CoreRegisters.{CoreRegisters}
use Rattle.machine_model.specs.State.{State}
use Rattle.monitor_model.specs.Values.{frame_size, most_loans}
use Rattle.monitor_model.specs.BlockWords.{current_offset, top_offset, depth_offset, loan_count_offset, saved_offset, loan_offset}
use Rattle.aces_inspection.specs.CoreLines.{named_word}

-- PSP (B1.4.1)
abbrev pub process_stack : CoreRegisters → ℕ
process_stack c = if c.on_psp then c.sp else c.other_sp

-- the most saved entries that the monitor keeps
abbrev pub most_saved : ℕ
most_saved = 8

-- the monitor's block may lie at this address
pub record IsBlockAt (block : ℕ) : Type 0 where
  pub aligned : block % 4 ≡ 0
  pub low : block + 1024 ≤ 2 ^ 32

module _ (i : Image) (s : State) where
  -- the word of memory at an address
  abbrev pub word : (address : ℕ) → ℕ
  word a = word_at (location i a) i s.ram

  -- ---- the frame

  abbrev pub framed : (name : List ℕ) → (base number : ℕ) → List ℕ
  framed name b k = named_word name (word (b + 4 * k))

  unfoldable pub frame_registers : (base : ℕ) → List ℕ
  frame_registers b =
      framed (codes " r0") b 0 ++ framed (codes " r1") b 1 ++ framed (codes " r2") b 2 ++ framed (codes " r3") b 3 ++ framed (codes " r12") b 4

  unfoldable pub frame_text : (base : ℕ) → List ℕ
  frame_text b =
      named_word (codes "frame") b ++ framed (codes " pc") b 6 ++ framed (codes " lr") b 5 ++ framed (codes " psr") b 7
      ++ frame_registers b ++ line_feed

  -- the line of the frame, which is told in a handler, where all of the frame lies in RAM
  unfoldable pub frame_line : List ℕ
  frame_line =
      if s.protection.handler && is_inside (process_stack s.core) frame_size i.ram_base i.ram_size
      then frame_text (process_stack s.core) else []

  -- ---- the monitor's block at an address

  module _ (block : ℕ) where
    abbrev pub block_word : (offset : ℕ) → ℕ
    block_word o = word (block + o)

    -- how many calls wait, and how many locals are lent
    unfoldable pub counts_text : List ℕ
    counts_text = codes " depth " ++ decimal (block_word depth_offset) ++ codes " loans " ++ decimal (block_word loan_count_offset)

    -- who runs, how far the stack is open, and these counts
    unfoldable pub compartment_line : List ℕ
    compartment_line =
        codes "compartment " ++ decimal (block_word current_offset) ++ named_word (codes " top") (block_word top_offset) ++ counts_text ++ line_feed

    -- the saved entry of this number: stack pointer and open stack of the caller
    unfoldable pub stack_text : (number : ℕ) → List ℕ
    stack_text k = named_word (codes " psp") (block_word (saved_offset k)) ++ named_word (codes " top") (block_word (saved_offset k + 8))

    -- between its compartment and its mark
    unfoldable pub caller_text : (number : ℕ) → List ℕ
    caller_text k =
        codes " compartment " ++ decimal (block_word (saved_offset k + 4)) ++ stack_text k ++ codes " mark " ++ decimal (block_word (saved_offset k + 12))

    unfoldable pub call_line : (number : ℕ) → List ℕ
    call_line k = codes "call " ++ decimal k ++ caller_text k ++ line_feed

    -- the loan of this number: its address, the one behind it, and the lendable local
    unfoldable pub loan_line : (number : ℕ) → List ℕ
    loan_line k =
        codes "loan " ++ decimal k ++ named_word [] (block_word (loan_offset k)) ++ named_word [] (block_word (loan_offset k + 4))
        ++ codes " number " ++ decimal (block_word (loan_offset k + 8)) ++ line_feed

    -- the lines of a count of things, the last first
    abbrev pub last_first : (line : ℕ → List ℕ) → (count : ℕ) → List ℕ
    last_first line n = flat_map (λ k. line (n - 1 - k)) (numbers_below n)

    unfoldable pub call_lines : List ℕ
    call_lines = last_first call_line (min (block_word depth_offset) most_saved)

    unfoldable pub loan_lines : List ℕ
    loan_lines = last_first loan_line (min (block_word loan_count_offset) most_loans)

  -- the block of the image, where it has one
  unfoldable pub block_lines : List ℕ
  block_lines = if nat_eq i.monitor 0 then [] else compartment_line i.monitor ++ call_lines i.monitor ++ loan_lines i.monitor
