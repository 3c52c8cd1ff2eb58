-- Beyond the program's claim: only laws, proofs and functions inside the tool cite this file.
-- Where the parts of a frame stand, in bytes from the stack pointer: the registers, the locals, and the return address,
-- which stands at the end.
use Rattle.std.specs.Prelude.{ℕ, ◌+◌, ◌-◌, ◌*◌, ◌≤◌, List, [], ◌∷◌, map, take, length}
use Rattle.ir_model.specs.Plain.{PlainBinding, PlainFunc, regs_of}
use Rattle.ir_model.specs.Layout.{Known, shape}
use Rattle.ir_model.specs.Frames.{local_size, locals_size, frame_size}

-- register k, parameters first
abbrev pub register_offset : ℕ → ℕ
register_offset k = 4 * k

-- local k, behind all registers and the locals before it
abbrev pub local_offset : List Known → PlainFunc → ℕ → ℕ
local_offset ks f k = 4 * length (regs_of f) + locals_size ks (take k f.locals)

abbrev pub return_offset : List Known → PlainFunc → ℕ
return_offset ks f = frame_size ks f - 4

-- where the locals stand, one behind the other from an offset on
abbrev pub offsets_from : List Known → ℕ → List PlainBinding → List ℕ
offsets_from ks n [] = []
offsets_from ks n (l ∷ ls) = n ∷ offsets_from ks (n + local_size ks l) ls

abbrev pub local_offsets : List Known → PlainFunc → List ℕ
local_offsets ks f = offsets_from ks (4 * length (regs_of f)) f.locals

abbrev pub local_sizes : List Known → PlainFunc → List ℕ
local_sizes ks f = map (λ (l : PlainBinding). (shape ks l.ty).size) f.locals

-- parts that begin there and have these sizes stand one behind the other between two places
abbrev pub Stand : (from to : ℕ) → (starts sizes : List ℕ) → Type 0
Stand from to [] [] = from ≤ to
Stand from to (s ∷ ss) (n ∷ ns) = (from ≤ s) × Stand (s + n) to ss ns
Stand from to _ _ = ⊥
