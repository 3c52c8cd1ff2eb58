use Rattle.std.proofs.Common.{◌≡◌, ◌<◌, [], length, sym, ap, ◌∙◌}
use Rattle.std.proofs.lemmas.Option.{IfSome_then}
use Rattle.ir_model.specs.Resolved.{NumberedFunc, func_at}
use Rattle.ir_program.specs.Parts.{routine_of}
use Rattle.ir_program.specs.Seen.{known_of, program_of}
use Rattle.code_model.specs.Sizes.{function_size}
use Rattle.code_offsets.proofs.Bare.{same_function_size}
use Rattle.code_offsets.proofs.sizes.function_size.Goals as goal

pub returns : goal.returns
returns c =
    let p = c.args.program.now in
    let f = c.args.func in
    let r = c.in_ok-routine.routine.now in
    let ss = c.args.sites.now in
    let m = c.args.lent in
    let is = c.in_ok-routine.ensures.there in
    let same = sym (ap (λ (g : NumberedFunc). function_size g ss m) is.1 ∙ same_function_size (known_of p) r ss m) in
    IfSome_then c.routine_size.result {P = λ n. n ≡ function_size (routine_of [] r) ss m} {Q = λ n. (f < length p.funcs) × (n ≡ function_size (func_at (program_of p) f) ss m)} c.routine_size.ensures
    (λ n h. (is.0, h ∙ same))
