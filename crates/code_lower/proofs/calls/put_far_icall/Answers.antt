use Rattle.std.proofs.Common.{List, [], ◌∷◌, ◌++◌, refl}
use Rattle.machine_thumb.specs.Table.{svc}
use Rattle.machine_thumb_asm.specs.declared.item.Item.{Item}
use Rattle.machine_thumb_asm.specs.declared.item.Item.TheVariants.{Half}
use Rattle.code_model.specs.Words.{plain, save_code}
use Rattle.code_model.specs.Calls.{callee_code, icross_code}
use Rattle.code_lower.proofs.Putting.{first_fits, rest_fits}
use Rattle.code_lower.proofs.Calling.{far_icall_parts, crossing}
use Rattle.code_lower.proofs.calls.put_far_icall.Goals as goal

pub put_callee-requires-clause-room : goal.put_callee-requires-clause-room
put_callee-requires-clause-room c =
    let as_ = c.args.args.now in
    let h = c.args.callee in
    let zs : List Item = plain (icross_code h as_) ++ Half c.args.site ∷ plain (save_code c.args.to) in
    first_fits c.args.asm.now zs (plain (callee_code h as_)) (crossing c.args.site c.args.to) (far_icall_parts h c.args.site as_ c.args.to) c.requires.room

pub put_crossing-requires-clause-room : goal.put_crossing-requires-clause-room
put_crossing-requires-clause-room c =
    let as_ = c.args.args.now in
    let h = c.args.callee in
    let zs : List Item = plain (icross_code h as_) ++ Half c.args.site ∷ plain (save_code c.args.to) in
    let x : List Item = plain (svc 0 ∷ []) ++ Half c.args.site ∷ [] in
    let s : List Item = plain (save_code c.args.to) in
    let r = rest_fits c.args.asm.now zs (plain (callee_code h as_)) (x ++ s) (far_icall_parts h c.args.site as_ c.args.to) _ c.in_ok-put_callee.ensures c.requires.room in
    first_fits c.put_callee.new.asm (x ++ s) x s refl r

pub put_result-requires-clause-room : goal.put_result-requires-clause-room
put_result-requires-clause-room c =
    let as_ = c.args.args.now in
    let h = c.args.callee in
    let zs : List Item = plain (icross_code h as_) ++ Half c.args.site ∷ plain (save_code c.args.to) in
    let x : List Item = plain (svc 0 ∷ []) ++ Half c.args.site ∷ [] in
    let s : List Item = plain (save_code c.args.to) in
    let r = rest_fits c.args.asm.now zs (plain (callee_code h as_)) (x ++ s) (far_icall_parts h c.args.site as_ c.args.to) _ c.in_ok-put_callee.ensures c.requires.room in
    rest_fits c.put_callee.new.asm (x ++ s) x s refl _ c.in_ok-put_crossing.ensures r
