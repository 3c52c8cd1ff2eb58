-- The frame of a function on the stack, in bytes: its registers, its locals, and the return address.
use Rattle.std.specs.Prelude.{ℕ, ◌+◌, ◌*◌, List, [], ◌∷◌, length}
use Rattle.ir_model.specs.Plain.{PlainBinding, PlainFunc, regs_of}
use Rattle.ir_model.specs.Layout.{Known, shape, rounded_up}

-- each local begins at a multiple of 4
abbrev pub local_size : List Known → PlainBinding → ℕ
local_size ks l = rounded_up (shape ks l.ty).size 4

abbrev pub locals_size : List Known → List PlainBinding → ℕ
locals_size ks [] = 0
locals_size ks (l ∷ ls) = local_size ks l + locals_size ks ls

abbrev pub frame_size : List Known → PlainFunc → ℕ
frame_size ks f = rounded_up (4 * length (regs_of f) + locals_size ks f.locals + 4) 8
