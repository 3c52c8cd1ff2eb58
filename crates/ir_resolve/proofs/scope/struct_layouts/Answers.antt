use Rattle.std.proofs.Common.{Err, [], ap, map, subst, ◌∙◌}
use Rattle.ir_model.specs.Plain.{firmware_of, struct_of}
use Rattle.ir_layouts.specs.Tables.{HasTooLarge}
use Rattle.ir_layouts.proofs.SmallStructs.{none_too_large}
use Rattle.ir_resolve.proofs.scope.struct_layouts.Goals as goal

pub unreachable-requires : goal.unreachable-requires
unreachable-requires c =
    none_too_large (firmware_of c.args.firmware.now) c.requires
    (subst (λ structs. HasTooLarge [] (map struct_of structs)) c.as_slice.ensures
    (c.of.ensures.too_large (c.in-Err-TooLarge.is ∙ ap Err c.in-Err-TooLarge.field-0-is)))
