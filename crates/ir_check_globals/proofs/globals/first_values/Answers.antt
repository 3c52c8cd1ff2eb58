use Rattle.std.proofs.Common.{◌≡◌, ◌∙◌, ◌++◌, ap, sym, subst, map, take, length, List, None}
use Rattle.ir_model.specs.Types.{type_of}
use Rattle.ir_model.specs.declared.firmware.StructDecl.{StructDecl}
use Rattle.ir_model.specs.Plain.{struct_of, firmware_of}
use Rattle.ir_model.specs.Layout.{known, shape}
use Rattle.ir_model.specs.Typing.{first_failing}
use Rattle.ir_cells.specs.Cells.{lent_types, types_of}
use Rattle.ir_check_scopes.specs.Found.{Refused}
use Rattle.ir_check_globals.specs.Parts.{cells_part, values_part}
use Rattle.ir_check_scopes.specs.Spots.{place_of}
use Rattle.ir_check_scopes.proofs.Order.{first_told}
use Rattle.ir_check_globals.proofs.GlobalParts.{cells_parts}
use Rattle.ir_check_globals.proofs.globals.first_values.Goals as goal

pub returns-in_err-typed_values : goal.returns-in_err-typed_values
returns-in_err-typed_values c =
    let listed : lent_types c.as_slice.result.now ≡ take (length c.args.global.now.init) (types_of (shape (known (firmware_of c.args.scope.now.firmware.now).structs) (type_of c.args.global.now.ty)).cells) =
    ap lent_types c.as_slice.ensures.value ∙ (c.in_ok-put_cell_types.ensures
    ∙ (ap (λ ts. take (length c.as_slice-init.result.now) (lent_types ts ++ types_of (shape (known (map struct_of c.args.scope.now.layouts)) (type_of c.args.global.now.ty)).cells)) c.new-types.ensures.items
    ∙ (ap (λ n. take n (types_of (shape (known (map struct_of c.args.scope.now.layouts)) (type_of c.args.global.now.ty)).cells)) (ap length c.as_slice-init.ensures)
    ∙ ap (λ (ss : List StructDecl). take (length c.args.global.now.init) (types_of (shape (known (map struct_of ss)) (type_of c.args.global.now.ty)).cells)) c.args.scope.now.all_layouts))) in
    let same : cells_part (firmware_of c.args.scope.now.firmware.now) (place_of c.args.spot) c.args.global.now.init (type_of c.args.global.now.ty) ≡ values_part (firmware_of c.args.scope.now.firmware.now) (place_of c.args.spot) c.args.global.now.init (lent_types c.as_slice.result.now) = cells_parts (firmware_of c.args.scope.now.firmware.now) (place_of c.args.spot) c.args.global.now.init (type_of c.args.global.now.ty) (lent_types c.as_slice.result.now) listed in
    first_told (cells_part (firmware_of c.args.scope.now.firmware.now) (place_of c.args.spot) c.args.global.now.init (type_of c.args.global.now.ty)) c.from_residual-in_err-typed_values.result c.in_err-typed_values.field-0.0 c.from_residual-in_err-typed_values.ensures.1
    (subst (λ cs. Refused cs c.in_err-typed_values.field-0.0) (sym same)
    (subst (λ is. Refused (values_part (firmware_of c.args.scope.now.firmware.now) (place_of c.args.spot) is (lent_types c.as_slice.result.now)) c.in_err-typed_values.field-0.0) c.as_slice-init.ensures c.in_err-typed_values.ensures))

pub returns : goal.returns
returns c =
    let listed : lent_types c.as_slice.result.now ≡ take (length c.args.global.now.init) (types_of (shape (known (firmware_of c.args.scope.now.firmware.now).structs) (type_of c.args.global.now.ty)).cells) =
    ap lent_types c.as_slice.ensures.value ∙ (c.in_ok-put_cell_types.ensures
    ∙ (ap (λ ts. take (length c.as_slice-init.result.now) (lent_types ts ++ types_of (shape (known (map struct_of c.args.scope.now.layouts)) (type_of c.args.global.now.ty)).cells)) c.new-types.ensures.items
    ∙ (ap (λ n. take n (types_of (shape (known (map struct_of c.args.scope.now.layouts)) (type_of c.args.global.now.ty)).cells)) (ap length c.as_slice-init.ensures)
    ∙ ap (λ (ss : List StructDecl). take (length c.args.global.now.init) (types_of (shape (known (map struct_of ss)) (type_of c.args.global.now.ty)).cells)) c.args.scope.now.all_layouts))) in
    let same : cells_part (firmware_of c.args.scope.now.firmware.now) (place_of c.args.spot) c.args.global.now.init (type_of c.args.global.now.ty) ≡ values_part (firmware_of c.args.scope.now.firmware.now) (place_of c.args.spot) c.args.global.now.init (lent_types c.as_slice.result.now) = cells_parts (firmware_of c.args.scope.now.firmware.now) (place_of c.args.spot) c.args.global.now.init (type_of c.args.global.now.ty) (lent_types c.as_slice.result.now) listed in
    ap first_failing same
    ∙ subst (λ is. first_failing (values_part (firmware_of c.args.scope.now.firmware.now) (place_of c.args.spot) is (lent_types c.as_slice.result.now)) ≡ None) c.as_slice-init.ensures c.in_ok-typed_values.ensures
