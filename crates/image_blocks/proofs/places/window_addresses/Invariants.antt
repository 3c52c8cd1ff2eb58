use Rattle.std.proofs.Common.{◌≡◌, ◌++◌, map, drop}
use Rattle.ir_program.specs.Parts.{span_of}
use Rattle.ir_model.specs.Resolved.{NumberedWindow}
use Rattle.image_blocks.proofs.places.window_addresses.Given as goal

-- what was made and what is left are the whole
abbrev pub invariant-loop-span : goal.invariant-loop-span
invariant-loop-span l =
    l.addresses.items ++ map (λ (w : NumberedWindow). w.base) (map span_of (drop l.span-index l.program.periphs)) ≡ map (λ (w : NumberedWindow). w.base) (map span_of l.program.periphs)
