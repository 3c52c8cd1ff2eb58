use Rattle.std.proofs.Common.{◌+◌, [], length, sym, ap, subst, ◌∙◌, arith}
use Rattle.std.proofs.lemmas.List.{length_push, length-map}
use Rattle.ir_program.specs.Parts.{routine_of}
use Rattle.ir_program.specs.Seen.{program_of, known_of}
use Rattle.need_sets.specs.Sets.{sets_of}
use Rattle.need_lists.proofs.Exact.{each_pushed}
use Rattle.aces_why.specs.Findings.{AreObjectsIn}
use Rattle.aces_why.proofs.finding.all_objects.Goals as goal

pub loop-func-preserved : goal.loop-func-preserved
loop-func-preserved c =
    let p = program_of c.args.program.now in
    let S = sets_of c.args.sets.now in
    let v = c.loop-func.invariant in
    let e = c.in_ok-push.ensures.items in
    record {
      count = ap length e ∙ (length_push c.loop-func.all.items _ ∙ ap (λ n. n + 1) v.count);
      each = each_pushed (λ f rows. AreObjectsIn p S f rows) [] c.loop-func.all.items c.push.new.self.items c.new.result c.loop-func.func e v.count v.each
          (subst (AreObjectsIn p S c.loop-func.func) (sym c.new.ensures) c.in_ok-func_objects.ensures);
    }

pub returns-clause-count : goal.returns-clause-count
returns-clause-count c =
    let q = c.args.program.now in
    let m = length-map q.funcs (routine_of (known_of q)) in
    let k = c.loop-func.invariant.count in
    omega arith

pub returns-clause-each : goal.returns-clause-each
returns-clause-each c = λ f l.
    let q = c.args.program.now in
    let m = length-map q.funcs (routine_of (known_of q)) in
    c.loop-func.invariant.each f (omega arith)
