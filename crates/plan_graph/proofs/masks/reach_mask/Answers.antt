use Rattle.std.proofs.Common.{rules, ◌≡◌, ◌≤◌, ◌-◌, ◌||◌, ℕ, Bool, cond, min, length, subst, sym, ap, ◌∙◌, arith}
use Rattle.std.proofs.lemmas.Bool.{cond_both}
use Rattle.std.proofs.lemmas.Nat.{pow_pos}
use Rattle.ir_model.specs.declared.object.ObjId.TheVariants.{Local}
use Rattle.plan_model.specs.Groups.{writes, reads}
use Rattle.plan_graph.proofs.MaskBits.{bits_more, no_bits, bits_small}
use Rattle.plan_graph.proofs.masks.reach_mask.Goals as goal

pub loop-left-init : goal.loop-left-init
loop-left-init c =
    let does : ℕ × ℕ → Bool = λ x. writes c.args.needs.now c.args.groups.now c.args.compartment (Local x.0 x.1) || reads c.args.needs.now c.args.groups.now c.args.compartment (Local x.0 x.1) in
    let first : c.min-left.result ≡ min (length c.as_slice-locals.result.now) 32 = omega arith in
    record {
      inside = omega arith;
      few = omega arith;
      small = pow_pos (32 - c.min-left.result);
      bits = no_bits does c.as_slice-locals.result.now 32 c.min-left.result first;
    }

pub loop-left-preserved : goal.loop-left-preserved
loop-left-preserved c =
    let does : ℕ × ℕ → Bool = λ x. writes c.args.needs.now c.args.groups.now c.args.compartment (Local x.0 x.1) || reads c.args.needs.now c.args.groups.now c.args.compartment (Local x.0 x.1) in
    let bit : c.from.result ≡ cond c.reaches.result 1 0 = search rules in
    let least : c.from.result ≤ 1 = subst (λ n. n ≤ 1) (sym bit) (cond_both c.reaches.result 1 0 (λ n. n ≤ 1) (λ _. omega arith) (λ _. omega arith)) in
    record {
      inside = omega arith;
      few = omega arith;
      small = bits_small 32 c.loop-left.left c.loop-left.mask c.from.result (omega arith) c.loop-left.invariant.few c.loop-left.invariant.small least;
      bits = bits_more does c.as_slice-locals.result.now 32 c.loop-left.left c.loop-left.mask c.from.result (0, 0) (omega arith) c.loop-left.invariant.inside c.loop-left.invariant.few c.loop-left.invariant.bits (bit ∙ ap (λ b. cond b 1 0) c.reaches.ensures);
    }
