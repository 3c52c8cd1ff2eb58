use Rattle.std.proofs.Common.{◌≡◌, ◌+◌, subst, sym, drop, ◌++◌, ◌∷◌, [], map, refl, arith, List}
use Rattle.ir_model.specs.declared.firmware.Binding.{Binding}
use Rattle.ir_model.specs.Plain.{binding_of}
use Rattle.ir_model.specs.Typing.{field_checks, first_failing}
use Rattle.ir_check_scopes.specs.Spots.{place_of}
use Rattle.ir_check_declarations.specs.StructParts.{field_check}
use Rattle.ir_check_scopes.proofs.Order.{first_told, stop_at, go_on}
use Rattle.ir_check_declarations.proofs.structs.fields.Goals as goal

pub returns-in_err-field : goal.returns-in_err-field
returns-in_err-field c =
    first_told (field_checks c.args.declared.now c.args.earlier.now (place_of c.args.spot) [] (map binding_of c.args.bindings.now)) c.from_residual.result c.in_err-field.field-0.0 c.from_residual.ensures.1
    (stop_at (λ (ss : List Binding). field_checks c.args.declared.now c.args.earlier.now (place_of c.args.spot) c.loop-binding.seen (map binding_of ss))
    (λ (ss : List Binding). field_checks c.args.declared.now c.args.earlier.now (place_of c.args.spot) (c.loop-binding.seen ++ c.binding-item.result.name ∷ []) (map binding_of ss))
    (field_checks c.args.declared.now c.args.earlier.now (place_of c.args.spot) [] (map binding_of c.args.bindings.now)) (c.args.bindings.now) c.loop-binding.binding-index c.binding-item.result (field_check c.args.declared.now c.args.earlier.now (place_of c.args.spot) c.loop-binding.seen (binding_of c.binding-item.result)) c.in_err-field.field-0.0
    (omega arith) c.binding-item.is (λ r. refl) c.loop-binding.invariant c.in_err-field.ensures.finds)

pub loop-binding-preserved : goal.loop-binding-preserved
loop-binding-preserved c =
    subst (λ n. first_failing (field_checks c.args.declared.now c.args.earlier.now (place_of c.args.spot) [] (map binding_of c.args.bindings.now)) ≡ first_failing (field_checks c.args.declared.now c.args.earlier.now (place_of c.args.spot) n (map binding_of (drop (c.loop-binding.binding-index + 1) c.args.bindings.now)))) (sym c.in_ok-field.ensures.grows)
    (go_on (λ (ss : List Binding). field_checks c.args.declared.now c.args.earlier.now (place_of c.args.spot) c.loop-binding.seen (map binding_of ss))
    (λ (ss : List Binding). field_checks c.args.declared.now c.args.earlier.now (place_of c.args.spot) (c.loop-binding.seen ++ c.binding-item.result.name ∷ []) (map binding_of ss))
    (field_checks c.args.declared.now c.args.earlier.now (place_of c.args.spot) [] (map binding_of c.args.bindings.now)) (c.args.bindings.now) c.loop-binding.binding-index c.binding-item.result (field_check c.args.declared.now c.args.earlier.now (place_of c.args.spot) c.loop-binding.seen (binding_of c.binding-item.result))
    (omega arith) c.binding-item.is (λ r. refl) c.loop-binding.invariant c.in_ok-field.ensures.finds)
