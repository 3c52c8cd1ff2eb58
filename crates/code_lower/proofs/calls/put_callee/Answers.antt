use Rattle.std.proofs.Common.{List, [], ◌∷◌, refl}
use Rattle.machine_thumb.specs.declared.table.Instr.TheVariants.{HighRegister}
use Rattle.machine_thumb_asm.specs.declared.item.Item.{Item}
use Rattle.code_model.specs.Words.{plain, load_home}
use Rattle.code_model.specs.Calls.{args_code, callee_code}
use Rattle.code_lower.proofs.Putting.{rest_fits}
use Rattle.code_lower.proofs.calls.put_callee.Goals as goal

pub put_args-requires-clause-room : goal.put_args-requires-clause-room
put_args-requires-clause-room c =
    let as_ = c.args.args.now in
    let h = c.args.callee in
    let xs : List Item = plain (load_home 0 h ∷ HighRegister 2 0 12 ∷ []) in
    rest_fits c.args.asm.now (plain (callee_code h as_)) xs (plain (args_code 0 as_)) refl _ (rw c.load_home.ensures.code at c.in_ok-put.ensures) c.requires.room
