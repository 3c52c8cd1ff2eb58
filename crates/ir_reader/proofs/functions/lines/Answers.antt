use Rattle.std.proofs.Common.{◌≡◌, ◌+◌, ℕ, [], ◌∷◌, length, Ok, Err, arith, subst}
use Rattle.std.proofs.lemmas.Grind.{common_steps}
use Rattle.ir_reader.specs.Machine as expected
use Rattle.ir_reader.specs.Reading.{Fails}
use Rattle.ir_reader.specs.Scan.{placed}
use Rattle.ir_reader.proofs.Values.{fails_after}
use Rattle.ir_reader.specs.declared.instructions.BlockItem.{BlockItem}
use Rattle.ir_reader.specs.declared.instructions.BlockItem.TheVariants as item
use Rattle.ir_reader.specs.Lines.{ReadsLine}
use Rattle.ir_reader.proofs.functions.lines.Goals as goal

pub returns-in_err-item-clause-read : goal.returns-in_err-item-clause-read
returns-in_err-item-clause-read c =
    let same : c.from_residual.result ≡ Err c.in_err-item.field-0.0 = grind (arith, common_steps) in
    let n : c.len.result ≡ length c.loop-insts.insts.items = grind (arith, common_steps) in
    rw same (λ k. fails_after (expected.Insts k c.args.before ∷ []) (expected.Insts k (c.args.before + length c.loop-insts.insts.items) ∷ []) (placed c.args.text.now) (placed c.loop-insts.rest.now) c.in_err-item.field-0.0
    (c.loop-insts.invariant.passed k) (subst (λ (m : ℕ). Fails (expected.Insts k (c.args.before + m) ∷ []) (placed c.loop-insts.rest.now) c.in_err-item.field-0.0) n (c.in_err-item.ensures.read k)))

pub loop-insts-preserved : goal.loop-insts-preserved
loop-insts-preserved c =
    let P : BlockItem → Type 0 = λ s. ReadsLine (c.args.before + c.len.result) (placed c.loop-insts.rest.now) placed (Ok (s, c.in_ok-item.behind)) in
    let r : P (item.Inst c.in-Inst.inst) = subst P c.in-Inst.is c.in_ok-item.ensures.read in
    record {
      spelled = let s = (r 0).spelled in grind (arith, common_steps);
      passed = λ k st. let p = (r k).passed st in let q = c.loop-insts.invariant.passed k st in grind (arith, common_steps);
      limit = grind (arith, common_steps);
    }

pub returns-in-Term-clause-read : goal.returns-in-Term-clause-read
returns-in-Term-clause-read c =
    let P : BlockItem → Type 0 = λ s. ReadsLine (c.args.before + c.len.result) (placed c.loop-insts.rest.now) placed (Ok (s, c.in_ok-item.behind)) in
    let r : P (item.Term c.in-Term.term) = subst P c.in-Term.is c.in_ok-item.ensures.read in
    λ k. record {
      spelled = let s = (r k).spelled in grind (arith, common_steps);
      passed = λ st. let p = (r k).passed st in let q = c.loop-insts.invariant.passed k st in grind (arith, common_steps);
    }
