use Rattle.std.proofs.Common.{◌+◌, [], length, get_or, sym, ap, subst, ◌∙◌, arith}
use Rattle.std.proofs.lemmas.List.{length_push, length-map}
use Rattle.ir_program.specs.Parts.{routine_of}
use Rattle.ir_program.specs.Seen.{known_of}
use Rattle.need_sets.specs.Sets.{sets_of}
use Rattle.need_lists.proofs.Exact.{each_pushed}
use Rattle.needs.proofs.Funcs.{func_read}
use Rattle.aces_why.specs.Findings.{AreObjectsOf}
use Rattle.aces_why.proofs.Found.{register_count}
use Rattle.aces_why.proofs.finding.func_objects.Goals as goal

pub objects-requires-clause-func : goal.objects-requires-clause-func
objects-requires-clause-func c =
    let q = c.args.program.now in
    let n = c.requires.numbers.funcs in
    let m = length-map q.funcs (routine_of (known_of q)) in
    let f = c.requires.func in
    omega arith

pub objects-requires-clause-register : goal.objects-requires-clause-register
objects-requires-clause-register c =
    let q = c.args.program.now in
    let e = func_read q c.as_slice.result.now c.args.func c.index-as_slice-func.result c.as_slice.ensures c.index-as_slice-func.is c.requires.func ∙ ap (routine_of (known_of q)) c.index-as_slice-func.is in
    let n = register_count q c.args.func (get_or c.as_slice.result.now c.args.func c.index-as_slice-func.result) e in
    let m = c.requires.numbers.registers c.args.func in
    omega arith

pub loop-register-preserved : goal.loop-register-preserved
loop-register-preserved c =
    let v = c.loop-register.invariant in
    let e = c.in_ok-push.ensures.items in
    record {
      count = ap length e ∙ (length_push c.loop-register.rows.items _ ∙ ap (λ n. n + 1) v.count);
      each = each_pushed (λ r os. AreObjectsOf (sets_of c.args.sets.now) c.args.func r os) [] c.loop-register.rows.items c.push.new.self.items c.new.result c.loop-register.register e v.count v.each
          (subst (AreObjectsOf (sets_of c.args.sets.now) c.args.func c.loop-register.register) (sym c.new.ensures) c.in_ok-objects.ensures);
    }

pub returns : goal.returns
returns c =
    let q = c.args.program.now in
    let e = func_read q c.as_slice.result.now c.args.func c.index-as_slice-func.result c.as_slice.ensures c.index-as_slice-func.is c.requires.func ∙ ap (routine_of (known_of q)) c.index-as_slice-func.is in
    let n = register_count q c.args.func (get_or c.as_slice.result.now c.args.func c.index-as_slice-func.result) e in
    let v = c.loop-register.invariant in
    let k = v.count in
    record { count = omega arith; each = λ r l. v.each r (omega arith) }
