use Rattle.std.proofs.Common.{ap, subst, ◌≡◌, None, List, ℕ, map, Err}
use Rattle.ir_model.specs.Plain.{struct_of}
use Rattle.ir_model.specs.Typing.{first_failing, struct_checks}
use Rattle.ir_check_scopes.specs.Found.{Refused}
use Rattle.ir_check_declarations.specs.StructParts.{fields_part}
use Rattle.ir_check_scopes.proofs.Order.{first_told}
use Rattle.ir_check_declarations.proofs.StructSteps.{step_refused, step_passes, step_large}
use Rattle.ir_check_declarations.proofs.structs.structure.Goals as goal

pub returns-in_err-named_fields-clause-finds : goal.returns-in_err-named_fields-clause-finds
returns-in_err-named_fields-clause-finds c =
    first_told (struct_checks c.args.declared.now (map struct_of c.args.layouts.now) (struct_of c.args.of.now)) c.from_residual.result c.in_err-named_fields.field-0.0 c.from_residual.ensures.1
    (step_refused c.args.declared.now c.args.layouts.now (struct_of c.args.of.now) c.in_err-named_fields.field-0.0
    (subst (λ (ns : List (List ℕ)). Refused (fields_part c.args.declared.now ns (struct_of c.args.of.now)) c.in_err-named_fields.field-0.0) c.names.ensures c.in_err-named_fields.ensures))

pub returns-in-Ok-clause-finds : goal.returns-in-Ok-clause-finds
returns-in-Ok-clause-finds c =
    step_passes c.args.declared.now c.args.layouts.now (struct_of c.args.of.now)
    (subst (λ (ns : List (List ℕ)). first_failing (fields_part c.args.declared.now ns (struct_of c.args.of.now)) ≡ None) c.names.ensures c.in_ok-named_fields.ensures) c.in-Ok.ensures.fits

pub returns-in-Err-TooLarge-clause-finds : goal.returns-in-Err-TooLarge-clause-finds
returns-in-Err-TooLarge-clause-finds c =
    step_large c.args.declared.now c.args.layouts.now (struct_of c.args.of.now) c.fault.result
    (subst (λ (ns : List (List ℕ)). first_failing (fields_part c.args.declared.now ns (struct_of c.args.of.now)) ≡ None) c.names.ensures c.in_ok-named_fields.ensures)
    (c.in-Err-TooLarge.ensures.too_large (ap Err c.in-Err-TooLarge.field-0-is)) c.fault.ensures
