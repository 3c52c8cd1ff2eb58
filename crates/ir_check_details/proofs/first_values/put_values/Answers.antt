use Rattle.std.proofs.Common.{◌+◌, ◌++◌, ◌∙◌, List, ℕ, ap, sym, arith}
use Rattle.std.proofs.lemmas.Result.{on_ok_weaker}
use Rattle.ir_model.specs.declared.check.CheckPlace.TheVariants as place
use Rattle.ir_model.specs.Types.{type_of}
use Rattle.ir_model.specs.Plain.{firmware_of}
use Rattle.ir_check_details.specs.FirstValues.{value_lines}
use Rattle.ir_check_details.proofs.Misfits.{one_misfits, all_fit}
use Rattle.ir_check_details.proofs.first_values.put_values.Goals as goal

pub returns-then-not-fits : goal.returns-then-not-fits
returns-then-not-fits c =
    on_ok_weaker c.put_value.result (λ h. h ∙ (ap (λ (o : List ℕ). o ++ value_lines (c.loop-i.i + 1) c.index-cells-i.result (type_of c.index-types-i.result.now)) c.loop-i.invariant.0
    ∙ ap (λ (ls : List ℕ). c.args.out.now.items ++ ls) (sym (one_misfits (firmware_of c.args.scope.now.firmware.now) (place.Global c.args.global.now) c.args.cells.now c.args.types.now c.loop-i.i c.index-cells-i.result c.index-types-i.result
    (omega arith) (omega arith) c.index-cells-i.is c.index-types-i.is c.loop-i.invariant.1 (sym c.if-not-fits.true ∙ c.fits.ensures)))))
    c.put_value.ensures

pub returns : goal.returns
returns c =
    all_fit (firmware_of c.args.scope.now.firmware.now) (place.Global c.args.global.now) c.args.cells.now c.args.types.now c.loop-i.i c.loop-i.out.items c.args.out.now.items (omega arith) c.loop-i.invariant.0 c.loop-i.invariant.1
