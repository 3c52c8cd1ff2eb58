use Rattle.std.proofs.Common.{◌<◌, length, arith}
use Rattle.ir_model.specs.Types.{result_of}
use Rattle.ir_check_functions.proofs.main_function.is_main.Goals as goal
use Rattle.ir_model.proofs.Rows.{more_params}

pub returns-in-len1-up : goal.returns-in-len1-up
returns-in-len1-up c =
    let l : 0 < length c.as_slice.result.now = omega arith in
    more_params c.args.func.now.params (result_of c.args.func.now.«result») (rw c.as_slice.ensures at l)
