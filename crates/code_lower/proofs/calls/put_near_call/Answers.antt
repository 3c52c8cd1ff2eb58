use Rattle.std.proofs.Common.{◌≡◌, ℕ, ℤ, ◌+◌, List, [], ◌∷◌, ◌++◌, refl, ap, ◌∙◌, None, arith}
use Rattle.machine_thumb.specs.declared.table.Instr.TheVariants.{BranchLink}
use Rattle.machine_thumb_asm.specs.declared.item.Item.{Item}
use Rattle.machine_thumb_asm.specs.Assembly.{here, total}
use Rattle.machine_thumb_asm.specs.Finished.{distance}
use Rattle.code_model.specs.Words.{plain, save_code}
use Rattle.code_model.specs.Calls.{args_code, call_items}
use Rattle.std.proofs.lemmas.Result.{on_ok_weaker}
use Rattle.code_lower.proofs.Putting.{first_fits, rest_fits, both_put, here_more}
use Rattle.code_lower.proofs.Calling.{near_call_parts, link_reaches}
use Rattle.code_lower.proofs.calls.put_near_call.Goals as goal

pub put_args-requires-clause-room : goal.put_args-requires-clause-room
put_args-requires-clause-room c =
    let as_ = c.args.args.now in
    let a = c.args.asm.now in
    let d : ℤ = distance (here a + total (plain (args_code 0 as_))) c.args.entry in
    first_fits a (call_items (here a) c.args.entry None c.args.to as_) (plain (args_code 0 as_)) (plain (BranchLink d ∷ []) ++ plain (save_code c.args.to)) (near_call_parts as_ d c.args.to) c.requires.room

pub branch_with_link-requires-clause-low : goal.branch_with_link-requires-clause-low
branch_with_link-requires-clause-low c =
    let e = ap here c.in_ok-put_args.ensures ∙ here_more c.args.asm.now (plain (args_code 0 c.args.args.now)) in
    let r = link_reaches c.args.asm.now c.args.entry c.args.to c.args.args.now c.requires.even c.requires.entry c.requires.room in
    omega (arith, r.low, c.here-from.ensures)

pub branch_with_link-requires-clause-back : goal.branch_with_link-requires-clause-back
branch_with_link-requires-clause-back c =
    let e = ap here c.in_ok-put_args.ensures ∙ here_more c.args.asm.now (plain (args_code 0 c.args.args.now)) in
    let r = link_reaches c.args.asm.now c.args.entry c.args.to c.args.args.now c.requires.even c.requires.entry c.requires.room in
    omega (arith, r.back, c.here-from.ensures)

pub branch_with_link-requires-clause-forward : goal.branch_with_link-requires-clause-forward
branch_with_link-requires-clause-forward c =
    let e = ap here c.in_ok-put_args.ensures ∙ here_more c.args.asm.now (plain (args_code 0 c.args.args.now)) in
    let r = link_reaches c.args.asm.now c.args.entry c.args.to c.args.args.now c.requires.even c.requires.entry c.requires.room in
    omega (arith, r.forward, c.here-from.ensures)

pub branch_with_link-requires-clause-from_even : goal.branch_with_link-requires-clause-from_even
branch_with_link-requires-clause-from_even c =
    let e = ap here c.in_ok-put_args.ensures ∙ here_more c.args.asm.now (plain (args_code 0 c.args.args.now)) in
    let r = link_reaches c.args.asm.now c.args.entry c.args.to c.args.args.now c.requires.even c.requires.entry c.requires.room in
    omega (arith, r.even, c.here-from.ensures)

pub put-requires-clause-room : goal.put-requires-clause-room
put-requires-clause-room c =
    let as_ = c.args.args.now in
    let a = c.args.asm.now in
    let from : ℕ = here a + total (plain (args_code 0 as_)) in
    let d : ℤ = distance from c.args.entry in
    let x : List Item = plain (BranchLink d ∷ []) in
    let s : List Item = plain (save_code c.args.to) in
    let f : c.here-from.result ≡ from = c.here-from.ensures ∙ (ap here c.in_ok-put_args.ensures ∙ here_more a (plain (args_code 0 as_))) in
    let is : c.branch_with_link.result ≡ BranchLink d = c.branch_with_link.ensures.code ∙ ap (λ n. BranchLink (distance n c.args.entry)) f in
    let r = rest_fits a (call_items (here a) c.args.entry None c.args.to as_) (plain (args_code 0 as_)) (x ++ s) (near_call_parts as_ d c.args.to) _ c.in_ok-put_args.ensures c.requires.room in
    rw is (first_fits c.put_args.new.asm (x ++ s) x s refl r)

pub put_result-requires-clause-room : goal.put_result-requires-clause-room
put_result-requires-clause-room c =
    let as_ = c.args.args.now in
    let a = c.args.asm.now in
    let from : ℕ = here a + total (plain (args_code 0 as_)) in
    let d : ℤ = distance from c.args.entry in
    let x : List Item = plain (BranchLink d ∷ []) in
    let s : List Item = plain (save_code c.args.to) in
    let f : c.here-from.result ≡ from = c.here-from.ensures ∙ (ap here c.in_ok-put_args.ensures ∙ here_more a (plain (args_code 0 as_))) in
    let is : c.branch_with_link.result ≡ BranchLink d = c.branch_with_link.ensures.code ∙ ap (λ n. BranchLink (distance n c.args.entry)) f in
    let r = rest_fits a (call_items (here a) c.args.entry None c.args.to as_) (plain (args_code 0 as_)) (x ++ s) (near_call_parts as_ d c.args.to) _ c.in_ok-put_args.ensures c.requires.room in
    rest_fits c.put_args.new.asm (x ++ s) x s refl _ (rw is at c.in_ok-put.ensures) r

pub returns : goal.returns
returns c =
    let as_ = c.args.args.now in
    let a = c.args.asm.now in
    let from : ℕ = here a + total (plain (args_code 0 as_)) in
    let d : ℤ = distance from c.args.entry in
    let x : List Item = plain (BranchLink d ∷ []) in
    let s : List Item = plain (save_code c.args.to) in
    let zs : List Item = call_items (here a) c.args.entry None c.args.to as_ in
    let f : c.here-from.result ≡ from = c.here-from.ensures ∙ (ap here c.in_ok-put_args.ensures ∙ here_more a (plain (args_code 0 as_))) in
    let is : c.branch_with_link.result ≡ BranchLink d = c.branch_with_link.ensures.code ∙ ap (λ n. BranchLink (distance n c.args.entry)) f in
    on_ok_weaker _
    (λ h. both_put a zs (plain (args_code 0 as_)) (x ++ s) (near_call_parts as_ d c.args.to) c.put_args.new.asm c.put_result.new.asm c.in_ok-put_args.ensures
    (both_put c.put_args.new.asm (x ++ s) x s refl c.put.new.asm c.put_result.new.asm (rw is at c.in_ok-put.ensures) h))
    c.put_result.ensures
