use Rattle.std.proofs.Common.{◌≡◌, ◌∙◌, ◌++◌, ℕ, List, ap, sym, subst, map, option_map, Some, Bor}
use Rattle.std.proofs.lemmas.Result.{on_ok_weaker}
use Rattle.ir_model.specs.Types.{type_of}
use Rattle.ir_model.specs.declared.firmware.Firmware.{Firmware}
use Rattle.ir_model.specs.declared.firmware.Global.{Global}
use Rattle.ir_model.specs.Plain.{PlainGlobal, global_of, firmware_of}
use Rattle.ir_check_details.specs.FirstValues.{global_named, init_lines, cell_types}
use Rattle.ir_check_details.proofs.Misfits.{of_global}
use Rattle.ir_check_details.proofs.first_values.put_bad_init.Goals as goal

abbrev seen : Bor Global → PlainGlobal
seen g = global_of g.now

pub returns-in-Ok : goal.returns-in-Ok
returns-in-Ok c =
    let e : global_named (map global_of c.args.firmware.now.globals) c.args.name.now ≡ Some (global_of c.in-Some.global.now) =
    subst (λ gs. global_named (map global_of gs) c.args.name.now ≡ Some (global_of c.in-Some.global.now)) c.as_slice.ensures
    (subst (λ n. global_named (map global_of c.as_slice.result.now) n ≡ Some (global_of c.in-Some.global.now)) c.as_slice-2.ensures.same
    (sym c.global_declared.ensures ∙ ap (option_map seen) c.in-Some.is)) in
    on_ok_weaker c.put_init.result (λ h. h ∙ ap (λ (ls : List ℕ). c.args.out.now.items ++ ls)
    (ap (λ (fw : Firmware). init_lines (firmware_of fw) (global_of c.in-Some.global.now) (cell_types (firmware_of fw) (type_of c.in-Some.global.now.ty))) c.in-Ok.ensures.firmware
    ∙ of_global (firmware_of c.args.firmware.now) (global_of c.in-Some.global.now) (global_named (map global_of c.args.firmware.now.globals) c.args.name.now) c.in-Ok.ensures.finds e))
    c.put_init.ensures
