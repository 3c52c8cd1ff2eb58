use Rattle.std.proofs.Common.{◌≡◌, ◌+◌, ◌<◌, length, ap, subst, sym, drop, ◌++◌, ◌∷◌, [], map, arith, List}
use Rattle.ir_model.specs.declared.firmware.Global.{Global}
use Rattle.ir_model.specs.declared.firmware.Peripheral.{Peripheral}
use Rattle.ir_model.specs.Plain.{global_of, firmware_of}
use Rattle.ir_model.specs.Typing.{globals_checks, first_failing}
use Rattle.ir_check_globals.specs.Parts.{global_part}
use Rattle.ir_check_scopes.proofs.Order.{first_told, stop_at, go_on}
use Rattle.ir_check_globals.proofs.GlobalParts.{global_parts}
use Rattle.ir_check_globals.proofs.globals.globals.Goals as goal

pub returns-in_err-global : goal.returns-in_err-global
returns-in_err-global c =
    first_told (globals_checks (firmware_of c.args.scope.now.firmware.now) (map (λ (q : Peripheral). q.name) c.args.scope.now.firmware.now.periphs) (map global_of c.args.scope.now.firmware.now.globals)) c.from_residual-in_err-global.result c.in_err-global.field-0.0 c.from_residual-in_err-global.ensures.1
    (stop_at (λ (gs : List Global). globals_checks (firmware_of c.args.scope.now.firmware.now) c.loop-declaration.seen (map global_of gs))
    (λ (gs : List Global). globals_checks (firmware_of c.args.scope.now.firmware.now) (c.loop-declaration.seen ++ c.declaration-item.result.name ∷ []) (map global_of gs))
    (globals_checks (firmware_of c.args.scope.now.firmware.now) (map (λ (q : Peripheral). q.name) c.args.scope.now.firmware.now.periphs) (map global_of c.args.scope.now.firmware.now.globals)) (c.args.scope.now.firmware.now.globals) c.loop-declaration.declaration-index c.declaration-item.result (global_part c.args.scope.now.structs (firmware_of c.args.scope.now.firmware.now) c.loop-declaration.seen (global_of c.declaration-item.result)) c.in_err-global.field-0.0
    (let l : c.loop-declaration.declaration-index < length c.as_slice-declaration-items.result.now = omega arith in rw c.as_slice-declaration-items.ensures at l) (rw c.as_slice-declaration-items.ensures at c.declaration-item.is) (λ r. ap (λ cs. cs ++ globals_checks (firmware_of c.args.scope.now.firmware.now) (c.loop-declaration.seen ++ c.declaration-item.result.name ∷ []) (map global_of r)) (global_parts (firmware_of c.args.scope.now.firmware.now) c.loop-declaration.seen (global_of c.declaration-item.result) c.args.scope.now.structs c.args.scope.now.all_structs)) c.loop-declaration.invariant c.in_err-global.ensures.finds)

pub loop-declaration-preserved : goal.loop-declaration-preserved
loop-declaration-preserved c =
    subst (λ n. first_failing (globals_checks (firmware_of c.args.scope.now.firmware.now) (map (λ (q : Peripheral). q.name) c.args.scope.now.firmware.now.periphs) (map global_of c.args.scope.now.firmware.now.globals)) ≡ first_failing (globals_checks (firmware_of c.args.scope.now.firmware.now) n (map global_of (drop (c.loop-declaration.declaration-index + 1) c.args.scope.now.firmware.now.globals)))) (sym c.in_ok-global.ensures.grows)
    (go_on (λ (gs : List Global). globals_checks (firmware_of c.args.scope.now.firmware.now) c.loop-declaration.seen (map global_of gs))
    (λ (gs : List Global). globals_checks (firmware_of c.args.scope.now.firmware.now) (c.loop-declaration.seen ++ c.declaration-item.result.name ∷ []) (map global_of gs))
    (globals_checks (firmware_of c.args.scope.now.firmware.now) (map (λ (q : Peripheral). q.name) c.args.scope.now.firmware.now.periphs) (map global_of c.args.scope.now.firmware.now.globals)) (c.args.scope.now.firmware.now.globals) c.loop-declaration.declaration-index c.declaration-item.result (global_part c.args.scope.now.structs (firmware_of c.args.scope.now.firmware.now) c.loop-declaration.seen (global_of c.declaration-item.result))
    (let l : c.loop-declaration.declaration-index < length c.as_slice-declaration-items.result.now = omega arith in rw c.as_slice-declaration-items.ensures at l) (rw c.as_slice-declaration-items.ensures at c.declaration-item.is) (λ r. ap (λ cs. cs ++ globals_checks (firmware_of c.args.scope.now.firmware.now) (c.loop-declaration.seen ++ c.declaration-item.result.name ∷ []) (map global_of r)) (global_parts (firmware_of c.args.scope.now.firmware.now) c.loop-declaration.seen (global_of c.declaration-item.result) c.args.scope.now.structs c.args.scope.now.all_structs)) c.loop-declaration.invariant c.in_ok-global.ensures.finds)
