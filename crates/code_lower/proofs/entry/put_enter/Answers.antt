use Rattle.std.proofs.Common.{List, map}
use Rattle.std.proofs.lemmas.Result.{on_ok_weaker}
use Rattle.machine_thumb.specs.declared.table.Instr.{Instr}
use Rattle.code_model.specs.Words.{plain}
use Rattle.code_model.specs.Entry.{frame_code, lend_code, enter_code}
use Rattle.code_lower.specs.Subjects.{lend_of}
use Rattle.code_lower.proofs.Putting.{first_fits, rest_fits, both_put, plain-append}
use Rattle.code_lower.proofs.entry.put_enter.Goals as goal

pub put_frame-requires-clause-room : goal.put_frame-requires-clause-room
put_frame-requires-clause-room c =
    let f : List Instr = frame_code c.args.params c.args.words in
    let l : List Instr = lend_code (map lend_of c.args.lent.now) in
    first_fits c.args.asm.now (plain (enter_code c.args.params c.args.words (map lend_of c.args.lent.now))) (plain f) (plain l) (plain-append f l) c.requires.room

pub put_lends-requires-clause-room : goal.put_lends-requires-clause-room
put_lends-requires-clause-room c =
    let f : List Instr = frame_code c.args.params c.args.words in
    let l : List Instr = lend_code (map lend_of c.args.lent.now) in
    rest_fits c.args.asm.now (plain (enter_code c.args.params c.args.words (map lend_of c.args.lent.now))) (plain f) (plain l) (plain-append f l) _ c.in_ok-put_frame.ensures c.requires.room

pub returns : goal.returns
returns c =
    let f : List Instr = frame_code c.args.params c.args.words in
    let l : List Instr = lend_code (map lend_of c.args.lent.now) in
    on_ok_weaker _
    (λ h. both_put c.args.asm.now (plain (enter_code c.args.params c.args.words (map lend_of c.args.lent.now))) (plain f) (plain l) (plain-append f l) c.put_frame.new.asm c.put_lends.new.asm c.in_ok-put_frame.ensures h)
    c.put_lends.ensures
