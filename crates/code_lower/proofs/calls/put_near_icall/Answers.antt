use Rattle.std.proofs.Common.{List, [], ◌∷◌, ◌++◌, refl}
use Rattle.machine_thumb.specs.declared.table.Instr.TheVariants.{BranchExchange}
use Rattle.machine_thumb_asm.specs.declared.item.Item.{Item}
use Rattle.code_model.specs.Words.{plain, save_code}
use Rattle.code_model.specs.Calls.{callee_code, icall_code}
use Rattle.code_lower.proofs.Putting.{first_fits, rest_fits}
use Rattle.code_lower.proofs.Calling.{near_icall_parts}
use Rattle.code_lower.proofs.calls.put_near_icall.Goals as goal

pub put_callee-requires-clause-room : goal.put_callee-requires-clause-room
put_callee-requires-clause-room c =
    let as_ = c.args.args.now in
    let h = c.args.callee in
    let ys : List Item = plain (BranchExchange 1 12 ∷ []) ++ plain (save_code c.args.to) in
    first_fits c.args.asm.now (plain (icall_code h as_) ++ plain (save_code c.args.to)) (plain (callee_code h as_)) ys (near_icall_parts h as_ c.args.to) c.requires.room

pub put-requires-clause-room : goal.put-requires-clause-room
put-requires-clause-room c =
    let as_ = c.args.args.now in
    let h = c.args.callee in
    let x : List Item = plain (BranchExchange 1 12 ∷ []) in
    let s : List Item = plain (save_code c.args.to) in
    let r = rest_fits c.args.asm.now (plain (icall_code h as_) ++ s) (plain (callee_code h as_)) (x ++ s) (near_icall_parts h as_ c.args.to) _ c.in_ok-put_callee.ensures c.requires.room in
    first_fits c.put_callee.new.asm (x ++ s) x s refl r

pub put_result-requires-clause-room : goal.put_result-requires-clause-room
put_result-requires-clause-room c =
    let as_ = c.args.args.now in
    let h = c.args.callee in
    let x : List Item = plain (BranchExchange 1 12 ∷ []) in
    let s : List Item = plain (save_code c.args.to) in
    let r = rest_fits c.args.asm.now (plain (icall_code h as_) ++ s) (plain (callee_code h as_)) (x ++ s) (near_icall_parts h as_ c.args.to) _ c.in_ok-put_callee.ensures c.requires.room in
    rest_fits c.put_callee.new.asm (x ++ s) x s refl _ c.in_ok-put.ensures r
