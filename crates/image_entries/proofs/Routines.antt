-- The function of a number, as the program has it.
use Rattle.std.proofs.Common.{◌≡◌, ℕ, ◌<◌, length, get_or, ap, sym, ◌∙◌}
use Rattle.std.proofs.lemmas.List.{get_or-map}
use Rattle.ir_model.specs.Resolved.{no_func, func_at}
use Rattle.ir_program.specs.declared.program.Routine.{Routine}
use Rattle.ir_program.specs.declared.program.Program.{Program}
use Rattle.ir_program.specs.Parts.{routine_of}
use Rattle.ir_program.specs.Seen.{known_of, program_of}

pub func_is : (p : Program) (f : ℕ) (r : Routine) → f < length p.funcs → r ≡ get_or p.funcs f r → func_at (program_of p) f ≡ routine_of (known_of p) r
func_is p f r h e = get_or-map (routine_of (known_of p)) p.funcs f r no_func h ∙ ap (routine_of (known_of p)) (sym e)
