use Rattle.std.proofs.Common.{◌≡◌, ◌<◌, length, arith}
use Rattle.std.proofs.lemmas.Bool.Decides.{nat_tests}
use Rattle.std.proofs.lemmas.Grind.{common_steps}
use Rattle.ir_printer.proofs.Separated.{init_some, init_none}
use Rattle.ir_printer.proofs.declarations.put_init.Goals as goal

pub returns-then-is_empty : goal.returns-then-is_empty
returns-then-is_empty c =
    let none : length c.args.cells.now ≡ 0 = grind (arith, nat_tests) in
    let e = init_none c.args.cells.now none in
    grind (arith, common_steps, e)

pub returns : goal.returns
returns c =
    let some : 0 < length c.args.cells.now = grind (arith, nat_tests) in
    let e = init_some c.args.cells.now some in
    grind (arith, common_steps, e)
