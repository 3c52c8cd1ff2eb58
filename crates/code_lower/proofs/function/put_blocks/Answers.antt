use Rattle.std.proofs.Common.{◌≡◌, ℕ, ◌+◌, ◌-◌, ◌<◌, ◌++◌, List, length, take, drop, replicate, Option, Some, None, ap, ◌∙◌, arith}
use Rattle.std.proofs.lemmas.List.{length-map}
use Rattle.machine_thumb_asm.specs.Assembly.{Assembly, here}
use Rattle.ir_program.specs.Parts.{sequence_of}
use Rattle.ir_program.specs.Seen.{known_of}
use Rattle.code_lower.specs.Subjects.{func_of, first_label, rest_labels}
use Rattle.code_lower.proofs.Blocks.{this_room, this_near, more_room, more_near, more_items, more_even, more_labels, free_length, free_here, free_next}
use Rattle.code_lower.proofs.function.put_blocks.Goals as goal

pub put_block-requires-clause-labels : goal.put_block-requires-clause-labels
put_block-requires-clause-labels c =
    let s = c.args.subject.now in
    let e = length-map s.routine.now.blocks (sequence_of (known_of s.program.now)) in
    let h : c.loop-block.block < length (func_of s).blocks = omega arith in
    let f = free_length c.loop-block.asm.places (first_label s.labels.items + c.loop-block.block) (length (func_of s).blocks - c.loop-block.block) c.loop-block.invariant.free (omega arith) in
    omega arith

pub put_block-requires-clause-free : goal.put_block-requires-clause-free
put_block-requires-clause-free c =
    let s = c.args.subject.now in
    let e = length-map s.routine.now.blocks (sequence_of (known_of s.program.now)) in
    let h : c.loop-block.block < length (func_of s).blocks = omega arith in
    free_here c.loop-block.asm.places (first_label s.labels.items + c.loop-block.block) (length (func_of s).blocks - c.loop-block.block) c.loop-block.invariant.free (omega arith)

pub put_block-requires-clause-near : goal.put_block-requires-clause-near
put_block-requires-clause-near c =
    let s = c.args.subject.now in
    let e = length-map s.routine.now.blocks (sequence_of (known_of s.program.now)) in
    let h : c.loop-block.block < length (func_of s).blocks = omega arith in
    this_near (func_of s) s.places.now (first_label s.labels.items) c.loop-block.asm c.loop-block.block (func_of s).blocks h s.places.now.entries c.loop-block.invariant.near

pub put_block-requires-clause-room : goal.put_block-requires-clause-room
put_block-requires-clause-room c =
    let s = c.args.subject.now in
    let e = length-map s.routine.now.blocks (sequence_of (known_of s.program.now)) in
    let h : c.loop-block.block < length (func_of s).blocks = omega arith in
    this_room (func_of s) s.places.now (first_label s.labels.items) c.loop-block.asm c.loop-block.block (func_of s).blocks h c.loop-block.invariant.room

pub loop-block-preserved : goal.loop-block-preserved
loop-block-preserved c =
    let s = c.args.subject.now in
    let g = func_of s in
    let q = s.places.now in
    let n = first_label s.labels.items in
    let b = c.loop-block.block in
    let a = c.loop-block.asm in
    let m = c.put_block.new.asm in
    let before = c.loop-block.invariant in
    let l = length-map s.routine.now.blocks (sequence_of (known_of s.program.now)) in
    let h : b < length g.blocks = omega arith in
    let e = c.in_ok-put_block.ensures in
    let base = ap (λ (x : Assembly). x.base) e in
    let items = ap (λ (x : Assembly). x.items) e in
    let places = ap (λ (x : Assembly). x.places) e in
    let there = free_length a.places (n + b) (length g.blocks - b) before.free (omega arith) in
    let z : n + (b + 1) ≡ n + b + 1 = omega arith in
    let w : length g.blocks - b - 1 ≡ length g.blocks - (b + 1) = omega arith in
    record {
      base = base ∙ before.base;
      items = more_items g q n a b g.blocks h m base items ∙ before.items;
      labels = ap (λ k. take k m.places ++ rest_labels s (here m) (b + 1)) z
          ∙ (ap (λ (ps : List (Option ℕ)). take (n + b + 1) ps ++ rest_labels s (here m) (b + 1)) places
          ∙ (more_labels g q n a b g.blocks h m base items a.places (n + b) (omega arith) ∙ before.labels));
      free = ap (λ k. drop k m.places) z
          ∙ (ap (λ (ps : List (Option ℕ)). drop (n + b + 1) ps) places ∙ (free_next a.places (n + b) (length g.blocks - b) (Some (here a)) before.free ∙ ap (λ k. replicate k None) w));
      room = more_room g q n a b g.blocks h m base items before.room;
      near = more_near g q n a b g.blocks h m base items q.entries before.near;
      even = more_even g q n a b g.blocks h m base items before.even;
    }
