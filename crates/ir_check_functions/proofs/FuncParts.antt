-- A function's checks in parts.
use Rattle.std.proofs.Common.{◌≡◌, ℕ, List, [], map, sym, ap, ◌∙◌}
use Rattle.ir_model.specs.declared.check.CheckKind.TheVariants.{FrameTooLarge}
use Rattle.ir_model.specs.declared.check.CheckPlace.TheVariants as place
use Rattle.std.specs.Prelude.{nat_le}
use Rattle.ir_model.specs.Plain.{PlainStruct, PlainFunc, PlainFirmware}
use Rattle.ir_model.specs.Layout.{known}
use Rattle.ir_model.specs.Frames.{frame_size}
use Rattle.ir_model.specs.Typing.{check, func_checks, label_checks, blocks_checks, frame_limit}
use Rattle.ir_check_functions.specs.BindingParts.{bindings_part}
use Rattle.ir_check_functions.specs.FunctionParts.{func_part}
use Rattle.ir_check_scopes.proofs.Regrouped.{regroup}

pub func_parts : (w : PlainFirmware) (f : PlainFunc) (ds : List (List ℕ)) → ds ≡ map (λ (s : PlainStruct). s.name) w.structs → func_checks w f ≡ func_part ds w f
func_parts w f ds e =
    regroup (bindings_part (map (λ (s : PlainStruct). s.name) w.structs) w f) (label_checks (place.Func f.name) [] f.blocks) (blocks_checks w f f.blocks)
    (check (nat_le (frame_size (known w.structs) f) frame_limit) (FrameTooLarge (frame_size (known w.structs) f)) (place.Func f.name))
    ∙ ap (λ d. func_part d w f) (sym e)
