use Rattle.std.proofs.Common.{◌≡◌, ◌+◌, ◌≤◌, length, arith, sym, ◌∙◌}
use Rattle.need_solving.specs.Searching.{cost}
use Rattle.need_solving.proofs.Running.{run_begin, run_next, run_all}
use Rattle.need_sets.specs.Rules.{no_pair}
use Rattle.need_solving.proofs.Lists.{taken}
use Rattle.need_solving.proofs.Copying.{none_left}
use Rattle.need_solving.proofs.Passing.{there}
use Rattle.need_solving.proofs.Paying.{bounded}
use Rattle.need_solving.proofs.search.least_pairs.Goals as goal

pub loop-pair-init : goal.loop-pair-init
loop-pair-init g c =
    let p : c.put_copies.new.steps + cost c.put_facts.new.state ≤ c.put_facts.new.steps + cost c.put_copies.new.state = c.in_ok-put_copies.ensures.paid.paid in
    let f : c.put_facts.new.steps + cost c.in_ok-state.state ≤ c.args.steps.now + length c.args.system.now.rules.facts.items + cost c.put_facts.new.state = c.in_ok-put_facts.ensures.counted in
    let n : length c.put_copies.new.state.pairs.rows ≡ length c.put_facts.new.state.pairs.rows = c.in_ok-put_copies.ensures.grown.count in
    let m : length c.put_facts.new.state.pairs.rows ≡ length c.in_ok-state.state.pairs.rows = c.in_ok-put_facts.ensures.grown.count in
    let o : c.put_copies.new.state.pairs.objects ≡ c.put_facts.new.state.pairs.objects = c.in_ok-put_copies.ensures.grown.objects in
    let q : c.put_facts.new.state.pairs.objects ≡ c.in_ok-state.state.pairs.objects = c.in_ok-put_facts.ensures.grown.objects in
    let k : length c.in_ok-state.state.pairs.rows ≡ c.args.nodes = c.in_ok-state.ensures.count in
    let l : c.in_ok-state.state.pairs.objects ≡ c.args.objects = c.in_ok-state.ensures.objects in
    record {
      running = run_begin c.args.system.now c.in_ok-state.state c.put_facts.new.state c.put_copies.new.state c.in_ok-put_copies.ensures.holds c.in_ok-put_copies.ensures.grown c.in_ok-put_facts.ensures.there c.in_ok-put_copies.ensures.found c.in_ok-state.ensures.next c.in_ok-put_facts.ensures.next c.in_ok-put_copies.ensures.next;
      steps = omega arith;
      count = omega arith;
      objects = omega arith;
    }

pub loop-pair-preserved : goal.loop-pair-preserved
loop-pair-preserved g c =
    let h = taken c.loop-pair.state.log c.loop-pair.state.next c.in-Some.pair (sym c.get.ensures ∙ c.in-Some.is) in
    let p : c.pass_on.new.steps + cost c.loop-pair.state ≤ c.loop-pair.steps + cost c.pass_on.new.state = c.in_ok-pass_on.ensures.paid.paid in
    let q : c.fire.new.steps + cost c.pass_on.new.state ≤ c.pass_on.new.steps + cost c.fire.new.state = c.in_ok-fire.ensures.paid.paid in
    let n : length c.pass_on.new.state.pairs.rows ≡ length c.loop-pair.state.pairs.rows = c.in_ok-pass_on.ensures.grown.count in
    let m : length c.fire.new.state.pairs.rows ≡ length c.pass_on.new.state.pairs.rows = c.in_ok-fire.ensures.grown.count in
    let o : c.pass_on.new.state.pairs.objects ≡ c.loop-pair.state.pairs.objects = c.in_ok-pass_on.ensures.grown.objects in
    let r : c.fire.new.state.pairs.objects ≡ c.pass_on.new.state.pairs.objects = c.in_ok-fire.ensures.grown.objects in
    record {
      running = run_next c.args.system.now c.loop-pair.state c.pass_on.new.state c.fire.new.state c.in-Some.pair c.loop-pair.invariant.running (sym (h.1 no_pair)) h.0 c.in_ok-pass_on.ensures.grown c.in_ok-pass_on.ensures.next c.in_ok-fire.ensures.holds c.in_ok-fire.ensures.grown c.in_ok-fire.ensures.next c.in_ok-fire.ensures.fired;
      steps = omega arith;
      count = omega arith;
      objects = omega arith;
    }

pub returns : goal.returns
returns g c =
    let all = none_left c.loop-pair.state.log c.loop-pair.state.next (sym c.get.ensures ∙ c.in_default.is) in
    record {
      closed = run_all c.args.system.now c.loop-pair.state c.loop-pair.invariant.running all;
      bounded = bounded c.args.system.now c.loop-pair.state _ _ c.loop-pair.invariant.running.holds all c.loop-pair.invariant.steps;
      count = c.loop-pair.invariant.count;
      objects = c.loop-pair.invariant.objects;
      least = c.loop-pair.invariant.running.holds.below;
    }

pub put_facts-requires-clause-holds : goal.put_facts-requires-clause-holds
put_facts-requires-clause-holds g c = c.in_ok-state.ensures.holds c.args.system.now

pub pass_on-requires-clause-next : goal.pass_on-requires-clause-next
pass_on-requires-clause-next g c = (taken c.loop-pair.state.log c.loop-pair.state.next c.in-Some.pair (sym c.get.ensures ∙ c.in-Some.is)).0

pub pass_on-requires-clause-pair : goal.pass_on-requires-clause-pair
pass_on-requires-clause-pair g c = sym ((taken c.loop-pair.state.log c.loop-pair.state.next c.in-Some.pair (sym c.get.ensures ∙ c.in-Some.is)).1 no_pair)

pub fire-requires-clause-there : goal.fire-requires-clause-there
fire-requires-clause-there g c =
    let h = taken c.loop-pair.state.log c.loop-pair.state.next c.in-Some.pair (sym c.get.ensures ∙ c.in-Some.is) in
    there c.args.system.now c.loop-pair.state c.pass_on.new.state c.in-Some.pair (record { holds = c.loop-pair.invariant.running.holds; next_in = h.0; is = sym (h.1 no_pair) }) c.in_ok-pass_on.ensures.grown

pub loop-pair-smaller : goal.loop-pair-smaller
loop-pair-smaller g c = let a = c.in_ok-pass_on.ensures.next in let b = c.in_ok-fire.ensures.next in let f = c.in_ok-pass_on.ensures.fits in omega arith
