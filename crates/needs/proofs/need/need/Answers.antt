use Rattle.std.proofs.Common.{◌↔◌, ◌^◌, length, map, sym, ap, subst, ◌∙◌, arith}
use Rattle.std.specs.Prelude.{◌⊎◌, Contains}
use Rattle.std.specs.List.{All}
use Rattle.std.specs.Ordering.{nat_cmp}
use Rattle.ir_model.specs.Objects.{object_by, compare_objects}
use Rattle.ir_model.specs.Resolved.{func_at}
use Rattle.ir_model.specs.State.{PeriphObject}
use Rattle.ir_program.specs.Parts.{sequence_of}
use Rattle.ir_program.specs.Seen.{program_of, known_of}
use Rattle.ir_laws.specs.Sets.{IsRead, IsWritten}
use Rattle.need_sets.specs.Sets.{sets_of}
use Rattle.plan_model.specs.Lists.{ListsExactly}
use Rattle.plan_model.specs.Calls.{IsCallee}
use Rattle.plan_model.specs.Needs.{IsData, IsWritable}
use Rattle.needs.specs.Uses.{uses_in}
use Rattle.needs.specs.Bounds.{IsBelow, HasSmallRegister}
use Rattle.needs.proofs.Funcs.{func_read}
use Rattle.needs.proofs.Matched.{same_uses, all_below, written_exactly, read_exactly, callees_exactly, periphs_exactly}
use Rattle.needs.proofs.need.need.Goals as goal

pub objects-requires : goal.objects-requires
objects-requires c =
    let q = c.args.program.now in
    let f = c.args.func in
    let us = c.in_ok-uses.uses.items in
    let e = func_read q c.as_slice.result.now f c.index-as_slice-func.result c.as_slice.ensures c.index-as_slice-func.is c.requires.func in
    let b = ap (map (sequence_of (known_of q))) c.as_slice-2.ensures ∙ sym (ap (λ g. g.blocks) e) in
    let l = c.requires.numbers.registers f in
    subst (All HasSmallRegister) (sym c.as_slice-3.ensures.value)
    (all_below (program_of q) f (2 ^ 32) us c.requires.registers (same_uses (program_of q) f us (map (sequence_of (known_of q)) c.as_slice-2.result.now) b (c.in_ok-uses.ensures (known_of q))) (omega arith))

pub objects-requires-2 : goal.objects-requires-2
objects-requires-2 c =
    let q = c.args.program.now in
    let f = c.args.func in
    let us = c.in_ok-uses.uses.items in
    let e = func_read q c.as_slice.result.now f c.index-as_slice-func.result c.as_slice.ensures c.index-as_slice-func.is c.requires.func in
    let b = ap (map (sequence_of (known_of q))) c.as_slice-2.ensures ∙ sym (ap (λ g. g.blocks) e) in
    let l = c.requires.numbers.registers f in
    subst (All HasSmallRegister) (sym c.as_slice-4.ensures.value)
    (all_below (program_of q) f (2 ^ 32) us c.requires.registers (same_uses (program_of q) f us (map (sequence_of (known_of q)) c.as_slice-2.result.now) b (c.in_ok-uses.ensures (known_of q))) (omega arith))

pub callees-requires : goal.callees-requires
callees-requires c =
    let q = c.args.program.now in
    let f = c.args.func in
    let us = c.in_ok-uses.uses.items in
    let e = func_read q c.as_slice.result.now f c.index-as_slice-func.result c.as_slice.ensures c.index-as_slice-func.is c.requires.func in
    let b = ap (map (sequence_of (known_of q))) c.as_slice-2.ensures ∙ sym (ap (λ g. g.blocks) e) in
    let l = c.requires.count in
    subst (All (IsBelow (length c.args.targets.now))) (sym c.as_slice-7.ensures.value)
    (all_below (program_of q) f (length c.args.targets.now) us c.requires.registers (same_uses (program_of q) f us (map (sequence_of (known_of q)) c.as_slice-2.result.now) b (c.in_ok-uses.ensures (known_of q))) (omega arith))

pub returns : goal.returns
returns c =
    let q = c.args.program.now in
    let p = program_of q in
    let S = sets_of c.args.pts.now in
    let f = c.args.func in
    let us = c.in_ok-uses.uses.items in
    let e = func_read q c.as_slice.result.now f c.index-as_slice-func.result c.as_slice.ensures c.index-as_slice-func.is c.requires.func in
    let b = ap (map (sequence_of (known_of q))) c.as_slice-2.ensures ∙ sym (ap (λ g. g.blocks) e) in
    let same = same_uses p f us (map (sequence_of (known_of q)) c.as_slice-2.result.now) b (c.in_ok-uses.ensures (known_of q)) in
    let w =
    written_exactly p S f c.as_slice-3.result.now (λ u. subst (λ l. Contains l u ↔ Contains (uses_in (func_at p f).blocks) u) (sym c.as_slice-3.ensures.value) (same u)) c.in_ok-written.written.items
    c.in_ok-written.ensures
    in
    let r =
    read_exactly p S f c.as_slice-4.result.now (λ u. subst (λ l. Contains l u ↔ Contains (uses_in (func_at p f).blocks) u) (sym c.as_slice-4.ensures.value) (same u)) c.in_ok-read.read.items
    c.in_ok-read.ensures
    in
    let k =
    callees_exactly p S f c.as_slice-7.result.now (λ u. subst (λ l. Contains l u ↔ Contains (uses_in (func_at p f).blocks) u) (sym c.as_slice-7.ensures.value) (same u)) c.in_ok-callees.callees.items
    (c.in_ok-callees.ensures p S f c.requires.targets)
    in
    let x =
    periphs_exactly p S f c.as_slice-5.result.now c.as_slice-6.result.now c.in_ok-periphs.periphs.items
    (subst (ListsExactly compare_objects (λ o. IsWritable p (object_by o) × IsWritten p S f (object_by o))) (sym c.as_slice-5.ensures.value) w)
    (subst (ListsExactly compare_objects (λ o. IsData (object_by o) × IsRead p S f (object_by o))) (sym c.as_slice-6.ensures.value) r) c.in_ok-periphs.ensures
    in
    record {
      written = subst (ListsExactly compare_objects (λ o. IsWritable p (object_by o) × IsWritten p S f (object_by o))) (sym c.new.ensures) w;
      read = subst (ListsExactly compare_objects (λ o. IsData (object_by o) × IsRead p S f (object_by o))) (sym c.new-2.ensures) r;
      periphs = subst (ListsExactly nat_cmp (λ q. IsWritten p S f (PeriphObject q) ⊎ IsRead p S f (PeriphObject q))) (sym c.new-3.ensures) x;
      callees = subst (ListsExactly nat_cmp (IsCallee p S f)) (sym c.new-4.ensures) k;
    }
