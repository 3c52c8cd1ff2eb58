use Rattle.std.proofs.Common.{refl, ◌∙◌, List, length, get_or, ap, arith}
use Rattle.ir_program.specs.declared.program.Operation.{Operation}
use Rattle.machine_thumb_asm.specs.declared.item.Item.{Item}
use Rattle.machine_thumb_asm.specs.Assembly.{here}
use Rattle.code_model.specs.Places.{site_in}
use Rattle.code_lower.specs.Subjects.{func_of, first_label, block_in, inst_of, items_of}
use Rattle.code_lower.proofs.Blocks.{code_is, count_is, inst_fits, piece_room, piece_near, rest_room, rest_near, rest_whole, rest_even}
use Rattle.code_lower.proofs.function.put_block.Goals as goal

pub put_inst-requires-clause-fits : goal.put_inst-requires-clause-fits
put_inst-requires-clause-fits c =
    let s = c.args.subject.now in
    inst_fits s c.args.block c.sequence-sequence.result.now c.sequence-sequence.ensures c.loop-place.place c.operation-item.result (let l = ap length c.as_slice-operation-items.ensures in omega arith) (c.operation-item.is ∙ ap (λ (xs : List Operation). get_or xs c.loop-place.place c.operation-item.result) c.as_slice-operation-items.ensures) c.requires.subject c.requires.there

pub put_inst-requires-clause-near : goal.put_inst-requires-clause-near
put_inst-requires-clause-near c =
    let s = c.args.subject.now in
    let b = c.args.block in
    let k = c.loop-place.place in
    let a = c.loop-place.asm in
    let o = c.operation-item.result in
    let x = c.sequence-sequence.result.now in
    let code = code_is s b x c.sequence-sequence.ensures k o (let l = ap length c.as_slice-operation-items.ensures in omega arith) (c.operation-item.is ∙ ap (λ (xs : List Operation). get_or xs c.loop-place.place c.operation-item.result) c.as_slice-operation-items.ensures) (here a) (site_in s.places.now.sites b k) refl in
    let more = count_is s b x c.sequence-sequence.ensures k o (let l = ap length c.as_slice-operation-items.ensures in omega arith) (c.operation-item.is ∙ ap (λ (xs : List Operation). get_or xs c.loop-place.place c.operation-item.result) c.as_slice-operation-items.ensures) in
    piece_near (func_of s) s.places.now (first_label s.labels.items) a b k (block_in s b).insts (block_in s b).term more (items_of s (here a) (site_in s.places.now.sites b k) (inst_of s o)) code s.places.now.entries c.loop-place.invariant.near

pub put_inst-requires-clause-room : goal.put_inst-requires-clause-room
put_inst-requires-clause-room c =
    let s = c.args.subject.now in
    let b = c.args.block in
    let k = c.loop-place.place in
    let a = c.loop-place.asm in
    let o = c.operation-item.result in
    let x = c.sequence-sequence.result.now in
    let code = code_is s b x c.sequence-sequence.ensures k o (let l = ap length c.as_slice-operation-items.ensures in omega arith) (c.operation-item.is ∙ ap (λ (xs : List Operation). get_or xs c.loop-place.place c.operation-item.result) c.as_slice-operation-items.ensures) (here a) (site_in s.places.now.sites b k) refl in
    let more = count_is s b x c.sequence-sequence.ensures k o (let l = ap length c.as_slice-operation-items.ensures in omega arith) (c.operation-item.is ∙ ap (λ (xs : List Operation). get_or xs c.loop-place.place c.operation-item.result) c.as_slice-operation-items.ensures) in
    piece_room (func_of s) s.places.now (first_label s.labels.items) a b k (block_in s b).insts (block_in s b).term more (items_of s (here a) (site_in s.places.now.sites b k) (inst_of s o)) code c.loop-place.invariant.room

pub loop-place-preserved : goal.loop-place-preserved
loop-place-preserved c =
    let s = c.args.subject.now in
    let q = s.places.now in
    let g = func_of s in
    let n = first_label s.labels.items in
    let b = c.args.block in
    let k = c.loop-place.place in
    let a = c.loop-place.asm in
    let o = c.operation-item.result in
    let x = c.sequence-sequence.result.now in
    let code = code_is s b x c.sequence-sequence.ensures k o (let l = ap length c.as_slice-operation-items.ensures in omega arith) (c.operation-item.is ∙ ap (λ (xs : List Operation). get_or xs c.loop-place.place c.operation-item.result) c.as_slice-operation-items.ensures) (here a) (site_in s.places.now.sites b k) refl in
    let more = count_is s b x c.sequence-sequence.ensures k o (let l = ap length c.as_slice-operation-items.ensures in omega arith) (c.operation-item.is ∙ ap (λ (xs : List Operation). get_or xs c.loop-place.place c.operation-item.result) c.as_slice-operation-items.ensures) in
    let piece : List Item = items_of s (here a) (site_in s.places.now.sites b k) (inst_of s o) in
    let is = (block_in s b).insts in
    let t = (block_in s b).term in
    let put = c.in_ok-put_inst.ensures in
    let before = c.loop-place.invariant in
    record {
      whole = rest_whole g q n a b k is t more piece code c.put_inst.new.asm put ∙ before.whole;
      room = rest_room g q n a b k is t more piece code c.put_inst.new.asm put before.room;
      near = rest_near g q n a b k is t more piece code c.put_inst.new.asm put q.entries before.near;
      even = rest_even g q n a b k is t more piece code c.put_inst.new.asm put before.even;
    }
