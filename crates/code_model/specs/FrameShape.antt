-- The frame of a function of a program, by the shapes of its locals: first the registers, of one word each, then the locals, each
-- rounded up to whole words, and at the end the return address. Sizes and offsets are in bytes, from the stack pointer on.
use Rattle.std.specs.Prelude.{ℕ, ◌+◌, ◌-◌, ◌*◌, ◌/◌, List, [], ◌∷◌, length}
use Rattle.ir_model.specs.Layout.{Shape, rounded_up}
use Rattle.ir_model.specs.Resolved.{NumberedFunc}

abbrev pub local_size : Shape → ℕ
local_size s = rounded_up s.size 4

abbrev pub locals_size : List Shape → ℕ
locals_size [] = 0
locals_size (s ∷ ss) = local_size s + locals_size ss

-- a multiple of 8
abbrev pub frame_size : NumberedFunc → ℕ
frame_size g = rounded_up (4 * length g.regs + locals_size g.locals + 4) 8

-- where locals begin, one behind the other from an offset on
abbrev pub starts_from : ℕ → List Shape → List ℕ
starts_from n [] = []
starts_from n (s ∷ ss) = n ∷ starts_from (n + local_size s) ss

abbrev pub local_starts : NumberedFunc → List ℕ
local_starts g = starts_from (4 * length g.regs) g.locals

-- how many words lie below the return address, how many of them, the first, are registers, and where each local begins
pub record FrameShape : Type 0 where
  pub words : ℕ
  pub registers : ℕ
  pub starts : List ℕ

abbrev pub frame_shape : NumberedFunc → FrameShape
frame_shape g = record { words = (frame_size g - 4) / 4; registers = length g.regs; starts = local_starts g }
