use Rattle.std.proofs.Common.{◌∙◌, ap, map}
use Rattle.ir_model.specs.Layout.{known}
use Rattle.ir_model.specs.declared.firmware.Peripheral.{Peripheral}
use Rattle.ir_model.specs.Plain.{PlainFunc, PlainGlobal, global_of, struct_of}
use Rattle.ir_resolve.proofs.SameScope.{func_names, same_scope}
use Rattle.ir_resolve.proofs.scope.named_scope.Goals as goal

pub returns : goal.returns
returns c =
    same_scope _ _ _ _ _ _ _ _
    (ap (λ structs. known (map struct_of structs)) c.in_ok-layouts.ensures)
    (c.in_ok-globals.ensures ∙ ap (λ globals. map (λ (g : PlainGlobal). g.name) (map global_of globals)) c.as_slice.ensures)
    (c.in_ok-periphs.ensures ∙ ap (map (λ (q : Peripheral). q.name)) c.as_slice-2.ensures)
    (c.in_ok-funcs.ensures ∙ (func_names c.args.funcs.now ∙ ap (map (λ (f : PlainFunc). f.name)) c.requires.funcs))
