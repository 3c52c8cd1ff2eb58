use Rattle.std.proofs.Common.{◌≡◌, ◌+◌, subst, sym, drop, ◌++◌, ◌∷◌, [], map, refl, arith, List}
use Rattle.ir_model.specs.declared.firmware.Binding.{Binding}
use Rattle.ir_model.specs.Plain.{binding_of}
use Rattle.ir_model.specs.Typing.{register_checks, first_failing}
use Rattle.ir_check_scopes.specs.Spots.{place_of}
use Rattle.ir_check_functions.specs.BindingParts.{register_check}
use Rattle.ir_check_scopes.proofs.Order.{first_told, stop_at, go_on}
use Rattle.ir_check_functions.proofs.BindingNames.{more_names}
use Rattle.ir_check_functions.proofs.registers.registers.Goals as goal

pub returns-in_err-register-clause-finds : goal.returns-in_err-register-clause-finds
returns-in_err-register-clause-finds c =
    first_told (register_checks c.args.declared.now (place_of c.args.spot) c.args.seen.now (map binding_of c.args.bindings.now)) c.from_residual.result c.in_err-register.field-0.0 c.from_residual.ensures.1
    (stop_at (λ (ss : List Binding). register_checks c.args.declared.now (place_of c.args.spot) c.loop-binding.seen (map binding_of ss))
    (λ (ss : List Binding). register_checks c.args.declared.now (place_of c.args.spot) (c.loop-binding.seen ++ c.binding-item.result.name ∷ []) (map binding_of ss))
    (register_checks c.args.declared.now (place_of c.args.spot) c.args.seen.now (map binding_of c.args.bindings.now)) (c.args.bindings.now) c.loop-binding.binding-index c.binding-item.result (register_check c.args.declared.now (place_of c.args.spot) c.loop-binding.seen (binding_of c.binding-item.result)) c.in_err-register.field-0.0
    (omega arith) c.binding-item.is (λ r. refl) c.loop-binding.invariant.left c.in_err-register.ensures.finds)

pub loop-binding-preserved : goal.loop-binding-preserved
loop-binding-preserved c =
    record {
      left = subst (λ n. first_failing (register_checks c.args.declared.now (place_of c.args.spot) c.args.seen.now (map binding_of c.args.bindings.now)) ≡ first_failing (register_checks c.args.declared.now (place_of c.args.spot) n (map binding_of (drop (c.loop-binding.binding-index + 1) c.args.bindings.now)))) (sym c.in_ok-register.ensures.grows)
          (go_on (λ (ss : List Binding). register_checks c.args.declared.now (place_of c.args.spot) c.loop-binding.seen (map binding_of ss))
          (λ (ss : List Binding). register_checks c.args.declared.now (place_of c.args.spot) (c.loop-binding.seen ++ c.binding-item.result.name ∷ []) (map binding_of ss))
          (register_checks c.args.declared.now (place_of c.args.spot) c.args.seen.now (map binding_of c.args.bindings.now)) (c.args.bindings.now) c.loop-binding.binding-index c.binding-item.result (register_check c.args.declared.now (place_of c.args.spot) c.loop-binding.seen (binding_of c.binding-item.result))
          (omega arith) c.binding-item.is (λ r. refl) c.loop-binding.invariant.left c.in_ok-register.ensures.finds);
      names = more_names c.args.seen.now c.loop-binding.seen c.register.new.seen c.args.bindings.now c.loop-binding.binding-index c.binding-item.result (omega arith) c.binding-item.is c.loop-binding.invariant.names c.in_ok-register.ensures.grows;
    }
