use Rattle.std.proofs.Common.{◌≡◌, ◌∙◌, ap, subst, map, [], None}
use Rattle.ir_model.specs.Plain.{PlainStruct, struct_of, firmware_of}
use Rattle.ir_model.specs.Typing.{structs_checks, periph_checks, first_failing, declared_checks}
use Rattle.ir_check_scopes.specs.Found.{Refused}
use Rattle.ir_check_scopes.proofs.Order.{first_told, first_append, refused_left, refused_right}
use Rattle.ir_check_declarations.proofs.declared.checked_scope.Goals as goal

pub returns-in_err-layouts-clause-finds : goal.returns-in_err-layouts-clause-finds
returns-in_err-layouts-clause-finds c =
    let names : c.in_ok-names.names ≡ (map (λ (s : PlainStruct). s.name) (map struct_of c.args.firmware.now.structs)) = c.in_ok-names.ensures ∙ ap (λ ss. map (λ (s : PlainStruct). s.name) (map struct_of ss)) c.as_slice.ensures in
    first_told (declared_checks (firmware_of c.args.firmware.now)) c.from_residual-in_err-layouts.result c.in_err-layouts.field-0.0 c.from_residual-in_err-layouts.ensures.1
    (refused_left (structs_checks (map (λ (s : PlainStruct). s.name) (map struct_of c.args.firmware.now.structs)) [] (map struct_of c.args.firmware.now.structs)) (periph_checks [] c.args.firmware.now.periphs) c.in_err-layouts.field-0.0
    (subst (λ ns. Refused (structs_checks ns [] (map struct_of c.args.firmware.now.structs)) c.in_err-layouts.field-0.0) names
    (subst (λ ss. Refused (structs_checks c.in_ok-names.names [] (map struct_of ss)) c.in_err-layouts.field-0.0) c.as_slice-2.ensures c.in_err-layouts.ensures.finds)))

pub returns-in_err-windows-clause-finds : goal.returns-in_err-windows-clause-finds
returns-in_err-windows-clause-finds c =
    let names : c.in_ok-names.names ≡ (map (λ (s : PlainStruct). s.name) (map struct_of c.args.firmware.now.structs)) = c.in_ok-names.ensures ∙ ap (λ ss. map (λ (s : PlainStruct). s.name) (map struct_of ss)) c.as_slice.ensures in
    first_told (declared_checks (firmware_of c.args.firmware.now)) c.from_residual-in_err-windows.result c.in_err-windows.field-0.0 c.from_residual-in_err-windows.ensures.1
    (refused_right (structs_checks (map (λ (s : PlainStruct). s.name) (map struct_of c.args.firmware.now.structs)) [] (map struct_of c.args.firmware.now.structs)) (periph_checks [] c.args.firmware.now.periphs) c.in_err-windows.field-0.0
    (subst (λ ns. first_failing (structs_checks ns [] (map struct_of c.args.firmware.now.structs)) ≡ None) names
    (subst (λ ss. first_failing (structs_checks c.in_ok-names.names [] (map struct_of ss)) ≡ None) c.as_slice-2.ensures c.in_ok-layouts.ensures.finds))
    (subst (λ qs. Refused (periph_checks [] qs) c.in_err-windows.field-0.0) c.as_slice-3.ensures c.in_err-windows.ensures.finds))

pub returns-clause-finds : goal.returns-clause-finds
returns-clause-finds c =
    let names : c.in_ok-names.names ≡ (map (λ (s : PlainStruct). s.name) (map struct_of c.args.firmware.now.structs)) = c.in_ok-names.ensures ∙ ap (λ ss. map (λ (s : PlainStruct). s.name) (map struct_of ss)) c.as_slice.ensures in
    first_append (structs_checks (map (λ (s : PlainStruct). s.name) (map struct_of c.args.firmware.now.structs)) [] (map struct_of c.args.firmware.now.structs)) (periph_checks [] c.args.firmware.now.periphs)
    (subst (λ ns. first_failing (structs_checks ns [] (map struct_of c.args.firmware.now.structs)) ≡ None) names
    (subst (λ ss. first_failing (structs_checks c.in_ok-names.names [] (map struct_of ss)) ≡ None) c.as_slice-2.ensures c.in_ok-layouts.ensures.finds))
    ∙ subst (λ qs. first_failing (periph_checks [] qs) ≡ None) c.as_slice-3.ensures c.in_ok-windows.ensures.finds
