use Rattle.std.proofs.Common.{◌≡◌, ℕ, ◌+◌, ◌<◌, [], length, get_or, sym, ap, subst, ◌∙◌, arith}
use Rattle.std.specs.List.{AllZip, flat_map}
use Rattle.std.proofs.lemmas.List.{length_push}
use Rattle.ir_program.specs.Parts.{routine_of}
use Rattle.ir_program.specs.Seen.{program_of, known_of}
use Rattle.need_sets.specs.Sets.{sets_of}
use Rattle.plan_model.specs.Lists.{numbers_below}
use Rattle.plan_model.specs.Calls.{calls_of, IsSiteOf}
use Rattle.plan_model.specs.Needs.{no_need, IsNeedOf}
use Rattle.std.proofs.lemmas.List.{length-map}
use Rattle.needs.specs.Accesses.{HasTargets}
use Rattle.need_lists.proofs.Exact.{each_pushed}
use Rattle.needs.proofs.Gathered.{gathered}
use Rattle.needs.proofs.all_needs.Goals as goal
use Rattle.plan_model.proofs.Numbers.{flat_numbers}

pub loop-func-init : goal.loop-func-init
loop-func-init c =
    record {
      count = ap length c.new-funcs.ensures.items;
      funcs = λ f h. absurd (omega arith);
      sites = subst (λ l. AllZip (IsSiteOf (program_of c.args.program.now) (sets_of c.args.pts.now)) [] l) (sym c.new-sites.ensures.items) tt;
    }

pub loop-func-preserved : goal.loop-func-preserved
loop-func-preserved c =
    let p = program_of c.args.program.now in
    let S = sets_of c.args.pts.now in
    let v = c.loop-func.invariant in
    let e = c.in_ok-push.ensures.items in
    record {
      count = ap length e ∙ (length_push c.loop-func.funcs.items _ ∙ ap (λ n. n + 1) v.count);
      funcs = each_pushed (λ f n. IsNeedOf p S f n) no_need c.loop-func.funcs.items c.push.new.self.items c.in_ok-need.field-0 c.loop-func.func e v.count v.funcs c.in_ok-need.ensures;
      sites =
          subst (λ l. AllZip (IsSiteOf p S) l c.push_sites.new.sites.items) (flat_numbers (calls_of p) c.loop-func.func)
          (c.in_ok-push_sites.ensures S (subst (HasTargets p S c.loop-func.func) (sym c.as_slice.ensures.value) c.in_ok-targets.ensures.each) (flat_map (calls_of p) (numbers_below c.loop-func.func)) v.sites);
    }

pub returns : goal.returns
returns c =
    let q = c.args.program.now in
    let p = program_of q in
    let S = sets_of c.args.pts.now in
    let v = c.loop-func.invariant in
    let n = v.count in
    let m = length-map q.funcs (routine_of (known_of q)) in
    let e = c.len-func-end.ensures in
    let count : length c.loop-func.funcs.items ≡ length p.funcs = omega arith in
    let each : (f : ℕ) → f < length p.funcs → IsNeedOf p S f (get_or c.loop-func.funcs.items f no_need) = λ f h. v.funcs f (omega arith) in
    let all : c.loop-func.func ≡ length p.funcs = omega arith in
    gathered p S c.args.closed c.loop-func.funcs.items c.as_slice-2.result.now c.new.result c.loop-func.sites.items c.new-2.result c.in_ok-lendable.lendable.items c.new-3.result count each
    (subst (λ k. AllZip (IsSiteOf p S) (flat_map (calls_of p) (numbers_below k)) c.loop-func.sites.items) all v.sites) c.as_slice-2.ensures.value c.in_ok-lendable.ensures c.new.ensures c.new-2.ensures
    c.new-3.ensures
