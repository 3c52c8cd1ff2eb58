-- Functions of a program of the code as the definition's.
use Rattle.std.proofs.Common.{◌≡◌, ℕ, ◌<◌, List, length, get_or, sym, ap, ◌∙◌}
use Rattle.std.proofs.lemmas.List.{get_or-map}
use Rattle.ir_model.specs.Resolved.{no_func, func_at}
use Rattle.ir_program.specs.declared.program.Program as programs
use Rattle.ir_program.specs.declared.program.Routine.{Routine}
use Rattle.ir_program.specs.Parts.{routine_of}
use Rattle.ir_program.specs.Seen.{known_of, program_of}

-- a function that was read
pub func_read : (q : programs.Program) (s : List Routine) (f : ℕ) (r : Routine) → s ≡ q.funcs → r ≡ get_or s f r → f < length q.funcs
    → func_at (program_of q) f ≡ routine_of (known_of q) r
func_read q s f r e i h =
    get_or-map (routine_of (known_of q)) q.funcs f r no_func h ∙ ap (routine_of (known_of q)) (sym (i ∙ ap (λ l. get_or l f r) e))
