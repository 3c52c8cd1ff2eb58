use Rattle.ir_model.specs.declared.check.CheckPlace.TheVariants as place
use Rattle.ir_model.specs.Types.{type_of}
use Rattle.ir_model.specs.Plain.{firmware_of}
use Rattle.ir_check_details.proofs.Misfits.{of_function, of_address}
use Rattle.ir_check_details.proofs.first_values.fits.Goals as goal

pub returns-in-Function : goal.returns-in-Function
returns-in-Function c =
    of_function (firmware_of c.args.scope.now.firmware.now) (place.Global c.args.global.now) c.args.cell.now c.in-Function.name (type_of c.args.ty.now) c.function_fits.result c.function_fits.ensures c.in-Function.is

pub returns-in-Address : goal.returns-in-Address
returns-in-Address c =
    of_address (firmware_of c.args.scope.now.firmware.now) (place.Global c.args.global.now) c.args.cell.now c.in-Address.name (type_of c.args.ty.now) c.address_fits.result c.address_fits.ensures c.in-Address.is
