use Rattle.std.proofs.Common.{◌-◌, List, [], ◌∷◌, ◌++◌}
use Rattle.std.proofs.lemmas.Result.{on_ok_weaker}
use Rattle.machine_thumb.specs.declared.table.Instr.TheVariants.{PushPop}
use Rattle.machine_thumb_asm.specs.declared.item.Item.{Item}
use Rattle.code_model.specs.Words.{plain, byte_into}
use Rattle.code_model.specs.Entry.{sub_code, stores_code}
use Rattle.code_model.specs.Emitted.{HasRoom}
use Rattle.code_lower.proofs.Putting.{room_first, left_fits, joined}
use Rattle.code_lower.proofs.Entering.{frame_parts}
use Rattle.code_lower.proofs.entry.put_frame.Goals as goal

pub put-requires-clause-room : goal.put-requires-clause-room
put-requires-clause-room c =
    let a = c.args.asm.now in
    let x : List Item = plain (PushPop 0 1 0 0 ∷ []) in
    let s : List Item = plain (sub_code c.args.words) in
    let p : List Item = plain (stores_code (λ k. k) c.args.params 0) in
    let z : List Item = plain (byte_into 0 0 ∷ []) in
    let q : List Item = plain (stores_code (λ k. 0) (c.args.words - c.args.params) c.args.params) in
    let r0 : HasRoom a (x ++ (s ++ (p ++ (z ++ q)))) = rw (frame_parts c.args.params c.args.words) at c.requires.room in
    room_first a x (s ++ (p ++ (z ++ q))) r0

pub put_sub-requires-clause-room : goal.put_sub-requires-clause-room
put_sub-requires-clause-room c =
    let a = c.args.asm.now in
    let x : List Item = plain (PushPop 0 1 0 0 ∷ []) in
    let s : List Item = plain (sub_code c.args.words) in
    let p : List Item = plain (stores_code (λ k. k) c.args.params 0) in
    let z : List Item = plain (byte_into 0 0 ∷ []) in
    let q : List Item = plain (stores_code (λ k. 0) (c.args.words - c.args.params) c.args.params) in
    let r0 : HasRoom a (x ++ (s ++ (p ++ (z ++ q)))) = rw (frame_parts c.args.params c.args.words) at c.requires.room in
    let r1 = left_fits a c.put.new.asm x (s ++ (p ++ (z ++ q))) c.in_ok-put.ensures r0 in
    room_first c.put.new.asm s (p ++ (z ++ q)) r1

pub put_params-requires-clause-room : goal.put_params-requires-clause-room
put_params-requires-clause-room c =
    let a = c.args.asm.now in
    let x : List Item = plain (PushPop 0 1 0 0 ∷ []) in
    let s : List Item = plain (sub_code c.args.words) in
    let p : List Item = plain (stores_code (λ k. k) c.args.params 0) in
    let z : List Item = plain (byte_into 0 0 ∷ []) in
    let q : List Item = plain (stores_code (λ k. 0) (c.args.words - c.args.params) c.args.params) in
    let r0 : HasRoom a (x ++ (s ++ (p ++ (z ++ q)))) = rw (frame_parts c.args.params c.args.words) at c.requires.room in
    let r1 = left_fits a c.put.new.asm x (s ++ (p ++ (z ++ q))) c.in_ok-put.ensures r0 in
    let r2 = left_fits c.put.new.asm c.put_sub.new.asm s (p ++ (z ++ q)) c.in_ok-put_sub.ensures r1 in
    room_first c.put_sub.new.asm p (z ++ q) r2

pub put-requires-2-clause-room : goal.put-requires-2-clause-room
put-requires-2-clause-room c =
    let a = c.args.asm.now in
    let x : List Item = plain (PushPop 0 1 0 0 ∷ []) in
    let s : List Item = plain (sub_code c.args.words) in
    let p : List Item = plain (stores_code (λ k. k) c.args.params 0) in
    let z : List Item = plain (byte_into 0 0 ∷ []) in
    let q : List Item = plain (stores_code (λ k. 0) (c.args.words - c.args.params) c.args.params) in
    let r0 : HasRoom a (x ++ (s ++ (p ++ (z ++ q)))) = rw (frame_parts c.args.params c.args.words) at c.requires.room in
    let r1 = left_fits a c.put.new.asm x (s ++ (p ++ (z ++ q))) c.in_ok-put.ensures r0 in
    let r2 = left_fits c.put.new.asm c.put_sub.new.asm s (p ++ (z ++ q)) c.in_ok-put_sub.ensures r1 in
    let r3 = left_fits c.put_sub.new.asm c.put_params.new.asm p (z ++ q) c.in_ok-put_params.ensures r2 in
    rw c.byte_into.ensures.code (room_first c.put_params.new.asm z q r3)

pub put_clears-requires-clause-room : goal.put_clears-requires-clause-room
put_clears-requires-clause-room c =
    let a = c.args.asm.now in
    let x : List Item = plain (PushPop 0 1 0 0 ∷ []) in
    let s : List Item = plain (sub_code c.args.words) in
    let p : List Item = plain (stores_code (λ k. k) c.args.params 0) in
    let z : List Item = plain (byte_into 0 0 ∷ []) in
    let q : List Item = plain (stores_code (λ k. 0) (c.args.words - c.args.params) c.args.params) in
    let r0 : HasRoom a (x ++ (s ++ (p ++ (z ++ q)))) = rw (frame_parts c.args.params c.args.words) at c.requires.room in
    let r1 = left_fits a c.put.new.asm x (s ++ (p ++ (z ++ q))) c.in_ok-put.ensures r0 in
    let r2 = left_fits c.put.new.asm c.put_sub.new.asm s (p ++ (z ++ q)) c.in_ok-put_sub.ensures r1 in
    let r3 = left_fits c.put_sub.new.asm c.put_params.new.asm p (z ++ q) c.in_ok-put_params.ensures r2 in
    left_fits c.put_params.new.asm c.put-2.new.asm z q (rw c.byte_into.ensures.code at c.in_ok-put-2.ensures) r3

pub returns : goal.returns
returns c =
    let a = c.args.asm.now in
    let x : List Item = plain (PushPop 0 1 0 0 ∷ []) in
    let s : List Item = plain (sub_code c.args.words) in
    let p : List Item = plain (stores_code (λ k. k) c.args.params 0) in
    let z : List Item = plain (byte_into 0 0 ∷ []) in
    let q : List Item = plain (stores_code (λ k. 0) (c.args.words - c.args.params) c.args.params) in
    let cleared = rw c.byte_into.ensures.code at c.in_ok-put-2.ensures in
    rw (frame_parts c.args.params c.args.words)
    (on_ok_weaker _
    (λ h. joined a c.put.new.asm c.put_clears.new.asm x (s ++ (p ++ (z ++ q))) c.in_ok-put.ensures
    (joined c.put.new.asm c.put_sub.new.asm c.put_clears.new.asm s (p ++ (z ++ q)) c.in_ok-put_sub.ensures
    (joined c.put_sub.new.asm c.put_params.new.asm c.put_clears.new.asm p (z ++ q) c.in_ok-put_params.ensures
    (joined c.put_params.new.asm c.put-2.new.asm c.put_clears.new.asm z q cleared h))))
    c.put_clears.ensures)
