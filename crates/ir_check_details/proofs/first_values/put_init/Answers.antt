use Rattle.std.proofs.Common.{◌≡◌, ◌∙◌, ◌++◌, ℕ, ap, map, take, length, List}
use Rattle.std.proofs.lemmas.Result.{on_ok_weaker}
use Rattle.ir_model.specs.Types.{PlainType, type_of}
use Rattle.ir_model.specs.declared.firmware.StructDecl.{StructDecl}
use Rattle.ir_model.specs.Plain.{struct_of, global_of, firmware_of}
use Rattle.ir_model.specs.Layout.{known, shape}
use Rattle.ir_cells.specs.Cells.{lent_types, types_of}
use Rattle.ir_check_details.specs.FirstValues.{init_lines, cell_types}
use Rattle.ir_check_details.proofs.Misfits.{init_taken}
use Rattle.ir_check_details.proofs.first_values.put_init.Goals as goal

pub returns : goal.returns
returns c =
    let listed : lent_types c.as_slice.result.now ≡ take (length c.args.global.now.init) (cell_types (firmware_of c.args.scope.now.firmware.now) (type_of c.args.global.now.ty)) =
    ap lent_types c.as_slice.ensures.value ∙ (c.in_ok-put_cell_types.ensures
    ∙ (ap (λ ts. take c.len.result (lent_types ts ++ types_of (shape (known (map struct_of c.args.scope.now.layouts)) (type_of c.args.global.now.ty)).cells)) c.new-types.ensures.items
    ∙ (ap (λ n. take n (types_of (shape (known (map struct_of c.args.scope.now.layouts)) (type_of c.args.global.now.ty)).cells)) c.len.ensures
    ∙ ap (λ (ss : List StructDecl). take (length c.args.global.now.init) (types_of (shape (known (map struct_of ss)) (type_of c.args.global.now.ty)).cells)) c.args.scope.now.all_layouts))) in
    on_ok_weaker c.put_typed.result (λ h. h ∙ ap (λ (ls : List ℕ). c.args.out.now.items ++ ls)
    (ap (λ (ts : List PlainType). init_lines (firmware_of c.args.scope.now.firmware.now) (global_of c.args.global.now) ts) listed
    ∙ init_taken (firmware_of c.args.scope.now.firmware.now) (global_of c.args.global.now) (cell_types (firmware_of c.args.scope.now.firmware.now) (type_of c.args.global.now.ty))))
    c.put_typed.ensures
