use Rattle.std.proofs.Common.{◌+◌, ◌<◌, [], length, sym, ap, subst, ◌∙◌, arith}
use Rattle.std.proofs.lemmas.List.{length_push, length-map}
use Rattle.ir_model.specs.Resolved.{func_at}
use Rattle.ir_program.specs.Parts.{routine_of}
use Rattle.ir_program.specs.Seen.{program_of, known_of}
use Rattle.need_lists.proofs.Exact.{each_pushed}
use Rattle.needs.proofs.Funcs.{func_read}
use Rattle.aces_why.specs.Reached.{AreReached}
use Rattle.aces_why.specs.Findings.{exits_of}
use Rattle.aces_why.proofs.finding.all_entered.Goals as goal

pub loop-func-preserved : goal.loop-func-preserved
loop-func-preserved c =
    let q = c.args.program.now in
    let p = program_of q in
    let ks = known_of q in
    let v = c.loop-func.invariant in
    let f = c.loop-func.func in
    let e = c.in_ok-push.ensures.items in
    let below : f < length q.funcs = omega (arith, ap length c.as_slice-funcs.ensures, c.loop-func-test.true) in
    let r = func_read q c.as_slice-funcs.result.now f c.index-funcs-func.result c.as_slice-funcs.ensures c.index-funcs-func.is below in
    let b = ap (λ g. exits_of g.blocks) r in
    record {
      count = ap length e ∙ (length_push c.loop-func.all.items _ ∙ ap (λ n. n + 1) v.count);
      each = each_pushed (λ g flags. AreReached (exits_of (func_at p g).blocks) 0 flags) [] c.loop-func.all.items c.push.new.self.items c.new.result f e v.count v.each
          (subst (λ xs. AreReached xs 0 c.new.result) (sym b) (subst (AreReached (exits_of (routine_of ks c.index-funcs-func.result).blocks) 0) (sym c.new.ensures) (rw (c.as_slice-blocks.ensures, sym c.index-funcs-func.is) at (c.in_ok-entered_flags.ensures ks))));
    }

pub returns-clause-count : goal.returns-clause-count
returns-clause-count c =
    let q = c.args.program.now in
    let m = length-map q.funcs (routine_of (known_of q)) in
    let k = c.loop-func.invariant.count in
    let s = ap length c.as_slice-funcs.ensures in
    omega arith

pub returns-clause-each : goal.returns-clause-each
returns-clause-each c = λ f l.
    let q = c.args.program.now in
    let m = length-map q.funcs (routine_of (known_of q)) in
    let s = ap length c.as_slice-funcs.ensures in
    c.loop-func.invariant.each f (omega arith)
