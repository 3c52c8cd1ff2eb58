use Rattle.std.proofs.Common.{◌+◌, List, [], ◌∷◌, ◌++◌, refl}
use Rattle.machine_thumb.specs.Table.{svc}
use Rattle.machine_thumb_asm.specs.declared.item.Item.{Item}
use Rattle.machine_thumb_asm.specs.declared.item.Item.TheVariants.{Half}
use Rattle.code_model.specs.Words.{plain, save_code, word_into}
use Rattle.code_model.specs.Calls.{args_code, cross_code}
use Rattle.code_lower.proofs.Putting.{first_fits, rest_fits}
use Rattle.code_lower.proofs.Calling.{far_call_parts, crossing}
use Rattle.code_lower.proofs.calls.put_far_call.Goals as goal

pub put_args-requires-clause-room : goal.put_args-requires-clause-room
put_args-requires-clause-room c =
    let as_ = c.args.args.now in
    let k = c.args.site in
    let zs : List Item = plain (cross_code c.args.entry as_) ++ Half k ∷ plain (save_code c.args.to) in
    let ys : List Item = plain (args_code 0 as_) ++ crossing k c.args.to in
    let r = rest_fits c.args.asm.now zs (plain (word_into 12 (c.args.entry + 1))) ys (far_call_parts c.args.entry k as_ c.args.to) _ (rw c.word_into.ensures.code at c.in_ok-put.ensures) c.requires.room in
    first_fits c.put.new.asm ys (plain (args_code 0 as_)) (crossing k c.args.to) refl r

pub put_crossing-requires-clause-room : goal.put_crossing-requires-clause-room
put_crossing-requires-clause-room c =
    let as_ = c.args.args.now in
    let k = c.args.site in
    let zs : List Item = plain (cross_code c.args.entry as_) ++ Half k ∷ plain (save_code c.args.to) in
    let ys : List Item = plain (args_code 0 as_) ++ crossing k c.args.to in
    let x : List Item = plain (svc 0 ∷ []) ++ Half k ∷ [] in
    let s : List Item = plain (save_code c.args.to) in
    let r = rest_fits c.args.asm.now zs (plain (word_into 12 (c.args.entry + 1))) ys (far_call_parts c.args.entry k as_ c.args.to) _ (rw c.word_into.ensures.code at c.in_ok-put.ensures) c.requires.room in
    let q = rest_fits c.put.new.asm ys (plain (args_code 0 as_)) (x ++ s) refl _ c.in_ok-put_args.ensures r in
    first_fits c.put_args.new.asm (x ++ s) x s refl q

pub put_result-requires-clause-room : goal.put_result-requires-clause-room
put_result-requires-clause-room c =
    let as_ = c.args.args.now in
    let k = c.args.site in
    let zs : List Item = plain (cross_code c.args.entry as_) ++ Half k ∷ plain (save_code c.args.to) in
    let ys : List Item = plain (args_code 0 as_) ++ crossing k c.args.to in
    let x : List Item = plain (svc 0 ∷ []) ++ Half k ∷ [] in
    let s : List Item = plain (save_code c.args.to) in
    let r = rest_fits c.args.asm.now zs (plain (word_into 12 (c.args.entry + 1))) ys (far_call_parts c.args.entry k as_ c.args.to) _ (rw c.word_into.ensures.code at c.in_ok-put.ensures) c.requires.room in
    let q = rest_fits c.put.new.asm ys (plain (args_code 0 as_)) (x ++ s) refl _ c.in_ok-put_args.ensures r in
    rest_fits c.put_args.new.asm (x ++ s) x s refl _ c.in_ok-put_crossing.ensures q
