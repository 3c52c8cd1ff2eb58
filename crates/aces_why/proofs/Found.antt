-- What is found of one function or register more.
use Rattle.std.proofs.Common.{◌≡◌, ℕ, length, ap, ◌∙◌}
use Rattle.std.proofs.lemmas.List.{length-map}
use Rattle.ir_model.specs.Resolved.{func_at}
use Rattle.ir_program.specs.declared.program.Program as programs
use Rattle.ir_program.specs.declared.program.Routine.{Routine}
use Rattle.ir_program.specs.Parts.{routine_of}
use Rattle.ir_program.specs.Seen.{known_of, program_of}

-- how many registers a function that was read has
pub register_count : (q : programs.Program) (f : ℕ) (r : Routine) → func_at (program_of q) f ≡ routine_of (known_of q) r → length (func_at (program_of q) f).regs ≡ length r.registers
register_count q f r e = ap (λ g. length g.regs) e ∙ length-map r.registers _
