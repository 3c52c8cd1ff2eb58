-- Each function of a firmware has its compartment, and its number in the program.
use Rattle.std.proofs.Common.{◌≡◌, length, sym, ap, ◌∙◌}
use Rattle.std.proofs.lemmas.List.{length-map}
use Rattle.ir_model.specs.Plain.{PlainFirmware, funcs_of}
use Rattle.ir_model.specs.Resolve.{resolve}
use Rattle.ir_model.specs.Resolved.{Program}
use Rattle.ir_program.specs.declared.program.Program as programs
use Rattle.ir_program.specs.Parts.{routine_of}
use Rattle.ir_program.specs.Seen.{program_of, known_of}
use Rattle.ir_laws.proofs.Resolved.{as_many}

pub each_resolved : (p : programs.Program) (w : PlainFirmware) → program_of p ≡ resolve w → length p.funcs ≡ length (funcs_of w)
each_resolved p w e =
    sym (length-map p.funcs (routine_of (known_of p))) ∙ (ap (λ (q : Program). length q.funcs) e ∙ as_many w)
