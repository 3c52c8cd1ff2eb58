use Rattle.std.proofs.Common.{◌≡◌, ◌∙◌, ◌++◌, ap, map}
use Rattle.ir_model.specs.declared.firmware.Peripheral.{Peripheral}
use Rattle.ir_model.specs.Plain.{PlainGlobal, global_of}
use Rattle.ir_check_declarations.proofs.files.taken_names.Goals as goal

pub returns : goal.returns
returns c =
    let windows : c.in_ok-seen.seen ≡ map (λ (q : Peripheral). q.name) c.args.firmware.now.periphs = c.in_ok-seen.ensures ∙ ap (map (λ (q : Peripheral). q.name)) c.as_slice.ensures in
    c.in_ok-add_globals.ensures
    ∙ (ap (λ ns. ns ++ map (λ (g : PlainGlobal). g.name) (map global_of c.as_slice-2.result.now)) windows
    ∙ ap (λ gs. map (λ (q : Peripheral). q.name) c.args.firmware.now.periphs ++ map (λ (g : PlainGlobal). g.name) (map global_of gs)) c.as_slice-2.ensures)
