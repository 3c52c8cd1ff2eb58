use Rattle.std.proofs.Common.{◌≡◌, ◌<◌, ℕ, true, false, length, get_or, ◌∙◌, arith}
use Rattle.std.proofs.lemmas.List.{get_or_default}
use Rattle.need_lists.proofs.Any.{any_step}
use Rattle.needs.proofs.reaching.Row.with.Goals as goal

pub loop-i-preserved : goal.loop-i-preserved
loop-i-preserved c =
    let v = c.loop-i.invariant in
    let fs = c.args.funcs.now in
    let i = c.loop-i.i in
    let below : i < length fs = omega arith in
    let n = v.len in
    record {
      len = c.mark.ensures.len ∙ v.len;
      flags = λ g l.
          (let there : g < length c.loop-i.flags.items = omega arith in
          any_step (λ (f : ℕ). f ≡ g) (get_or c.loop-i.flags.items g false ≡ true) (get_or c.mark.new.flags.items g false ≡ true) fs i (get_or fs i 0) below
          (get_or_default fs i 0 (get_or fs i 0) below) (v.flags g l) (c.mark.ensures.flags g there));
    }
