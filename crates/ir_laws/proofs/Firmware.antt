-- A firmware that is typed and within the limits is typed over numbers.
use Rattle.std.proofs.Common.{map, arith}
use Rattle.std.proofs.lemmas.List.{length-map}
use Rattle.ir_model.specs.declared.firmware.Peripheral.{Peripheral}
use Rattle.ir_model.specs.Types.{Callee, none, nothing}
use Rattle.ir_model.specs.Plain.{PlainFirmware, funcs_of}
use Rattle.ir_model.specs.Layout.{known}
use Rattle.ir_model.specs.Resolve.{scope_of, resolved_func, main_name, resolve}
use Rattle.ir_model.specs.Canonical.{IsWithinLimits}
use Rattle.ir_model.specs.Rules.{func_type}
use Rattle.ir_model.specs.Typing.{IsTyped}
use Rattle.ir_model.proofs.Limits.{limited}
use Rattle.ir_model.proofs.Typed.{PartsPass, parts_pass}
use Rattle.ir_laws.specs.Typed.{Typed}
use Rattle.ir_laws.proofs.Names.{func_found}
use Rattle.ir_laws.proofs.Tests.{is_type_sound}
use Rattle.ir_laws.proofs.Structs.{all_good, good_named}
use Rattle.ir_laws.proofs.Places.{sizes, AreSmall}
use Rattle.ir_laws.proofs.Functions.{funcs_typed, some_blocks}
use Rattle.ir_laws.proofs.Globals.{small_globals, globals_fit, globals_filled}

module _ (w : PlainFirmware) where
  whole : AreSmall w → PartsPass w → IsWithinLimits w → Typed (resolve w) (sizes w)
  unfolding resolve
  whole small q l =
      let m = is_type_sound (func_type (funcs_of w) main_name) (Callee none nothing) q.main in
      let a = func_found (scope_of w) (funcs_of w) main_name (Callee none nothing) m in
      let n = length-map (funcs_of w) (resolved_func (scope_of w)) in
      let b = a.0 in
      record {
        funcs = funcs_typed w small (funcs_of w) (limited w l) q.funcs;
        blocks = some_blocks w (funcs_of w) l.functions;
        cells = globals_fit w small.globals (map (λ (q : Peripheral). q.name) w.periphs) w.globals q.globals;
        counts = globals_filled w w.globals;
        main = omega arith;
        takes_nothing = a.1;
      }

  all_small : PartsPass w → AreSmall w
  all_small q =
      let a = all_good w.structs q.structs in
      record {
        globals = small_globals w (map (λ (q : Peripheral). q.name) w.periphs) w.globals q.globals;
        parts = λ s f u e h. (let g = good_named (known w.structs) (known w.structs) s a in let l = g.parts f u e in omega arith);
        offsets = λ s f. (let g = good_named (known w.structs) (known w.structs) s a in let l = g.offsets f in let m = g.small in omega arith);
      }

  pub typed_over_numbers : IsTyped w → IsWithinLimits w → Typed (resolve w) (sizes w)
  typed_over_numbers h l = let q = parts_pass w h in whole (all_small q) q l
