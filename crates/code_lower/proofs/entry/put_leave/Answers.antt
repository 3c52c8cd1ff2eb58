use Rattle.std.proofs.Common.{List, [], ◌∷◌, ◌++◌, map}
use Rattle.std.proofs.lemmas.Result.{on_ok_weaker}
use Rattle.machine_thumb.specs.declared.table.Instr.TheVariants.{PushPop}
use Rattle.machine_thumb_asm.specs.declared.item.Item.{Item}
use Rattle.code_model.specs.Places.{Lend}
use Rattle.code_model.specs.Words.{plain}
use Rattle.code_model.specs.Entry.{unlend_code, result_code, add_code}
use Rattle.code_lower.specs.Subjects.{lend_of}
use Rattle.code_model.specs.Emitted.{HasRoom}
use Rattle.code_lower.proofs.Putting.{room_first, left_fits, joined}
use Rattle.code_lower.proofs.Entering.{leave_parts}
use Rattle.code_lower.proofs.entry.put_leave.Goals as goal

pub put_unlends-requires : goal.put_unlends-requires
put_unlends-requires c =
    let a = c.args.asm.now in
    let ds : List Lend = map lend_of c.args.lent.now in
    let u : List Item = plain (unlend_code ds) in
    let o : List Item = plain (result_code c.args.outcome) in
    let d : List Item = plain (add_code c.args.words) in
    let p : List Item = plain (PushPop 1 0 1 0 ∷ []) in
    let r0 : HasRoom a (u ++ (o ++ (d ++ p))) = rw (leave_parts c.args.words ds c.args.outcome) at c.requires.room in
    room_first a u (o ++ (d ++ p)) r0

pub put_outcome-requires-clause-room : goal.put_outcome-requires-clause-room
put_outcome-requires-clause-room c =
    let a = c.args.asm.now in
    let ds : List Lend = map lend_of c.args.lent.now in
    let u : List Item = plain (unlend_code ds) in
    let o : List Item = plain (result_code c.args.outcome) in
    let d : List Item = plain (add_code c.args.words) in
    let p : List Item = plain (PushPop 1 0 1 0 ∷ []) in
    let r0 : HasRoom a (u ++ (o ++ (d ++ p))) = rw (leave_parts c.args.words ds c.args.outcome) at c.requires.room in
    let r1 = left_fits a c.put_unlends.new.asm u (o ++ (d ++ p)) c.in_ok-put_unlends.ensures r0 in
    room_first c.put_unlends.new.asm o (d ++ p) r1

pub put_add-requires-clause-room : goal.put_add-requires-clause-room
put_add-requires-clause-room c =
    let a = c.args.asm.now in
    let ds : List Lend = map lend_of c.args.lent.now in
    let u : List Item = plain (unlend_code ds) in
    let o : List Item = plain (result_code c.args.outcome) in
    let d : List Item = plain (add_code c.args.words) in
    let p : List Item = plain (PushPop 1 0 1 0 ∷ []) in
    let r0 : HasRoom a (u ++ (o ++ (d ++ p))) = rw (leave_parts c.args.words ds c.args.outcome) at c.requires.room in
    let r1 = left_fits a c.put_unlends.new.asm u (o ++ (d ++ p)) c.in_ok-put_unlends.ensures r0 in
    let r2 = left_fits c.put_unlends.new.asm c.put_outcome.new.asm o (d ++ p) c.in_ok-put_outcome.ensures r1 in
    room_first c.put_outcome.new.asm d p r2

pub put-requires-clause-room : goal.put-requires-clause-room
put-requires-clause-room c =
    let a = c.args.asm.now in
    let ds : List Lend = map lend_of c.args.lent.now in
    let u : List Item = plain (unlend_code ds) in
    let o : List Item = plain (result_code c.args.outcome) in
    let d : List Item = plain (add_code c.args.words) in
    let p : List Item = plain (PushPop 1 0 1 0 ∷ []) in
    let r0 : HasRoom a (u ++ (o ++ (d ++ p))) = rw (leave_parts c.args.words ds c.args.outcome) at c.requires.room in
    let r1 = left_fits a c.put_unlends.new.asm u (o ++ (d ++ p)) c.in_ok-put_unlends.ensures r0 in
    let r2 = left_fits c.put_unlends.new.asm c.put_outcome.new.asm o (d ++ p) c.in_ok-put_outcome.ensures r1 in
    left_fits c.put_outcome.new.asm c.put_add.new.asm d p c.in_ok-put_add.ensures r2

pub returns : goal.returns
returns c =
    let a = c.args.asm.now in
    let ds : List Lend = map lend_of c.args.lent.now in
    let u : List Item = plain (unlend_code ds) in
    let o : List Item = plain (result_code c.args.outcome) in
    let d : List Item = plain (add_code c.args.words) in
    let p : List Item = plain (PushPop 1 0 1 0 ∷ []) in
    rw (leave_parts c.args.words ds c.args.outcome)
    (on_ok_weaker _
    (λ h. joined a c.put_unlends.new.asm c.put.new.asm u (o ++ (d ++ p)) c.in_ok-put_unlends.ensures
    (joined c.put_unlends.new.asm c.put_outcome.new.asm c.put.new.asm o (d ++ p) c.in_ok-put_outcome.ensures
    (joined c.put_outcome.new.asm c.put_add.new.asm c.put.new.asm d p c.in_ok-put_add.ensures h)))
    c.put.ensures)
