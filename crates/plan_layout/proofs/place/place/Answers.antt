use Rattle.std.proofs.lemmas.Result.{err_from_is_err_and}
use Rattle.ir_program.specs.Seen.{program_of}
use Rattle.plan_layout.proofs.Whole.{placed_is, flash_refused, ram_refused}
use Rattle.plan_layout.proofs.place.place.Goals as goal

pub returns-in_err-flash-clause-refused : goal.returns-in_err-flash-clause-refused
returns-in_err-flash-clause-refused c =
    let p = program_of c.args.program.now in
    let e = err_from_is_err_and c.from_residual.result c.from_residual.ensures.1 in
    rw (e.1, e.2) (flash_refused p c.args.fin.now c.args.sizes.now c.args.board.now c.in_err-flash.field-0.0 c.in_err-flash.ensures.refused)

pub returns-in_err-ram-clause-refused : goal.returns-in_err-ram-clause-refused
returns-in_err-ram-clause-refused c =
    let p = program_of c.args.program.now in
    let e = err_from_is_err_and c.from_residual-in_err-ram.result c.from_residual-in_err-ram.ensures.1 in
    rw (e.1, e.2) (ram_refused p c.args.fin.now c.args.sizes.now c.args.board.now c.in_err-ram.field-0.0 c.in_ok-flash.ensures.ok.fits c.in_err-ram.ensures.refused)

pub returns-clause-ok : goal.returns-clause-ok
returns-clause-ok c =
    placed_is (program_of c.args.program.now) c.args.fin.now c.args.sizes.now c.args.board.now c.in_ok-flash.flash c.in_ok-ram.ram c.in_ok-flash.ensures.ok c.in_ok-ram.ensures.ok
