use Rattle.std.proofs.Common.{◌≡◌, ◌<◌, length, get_or, map, take, ap, arith}
use Rattle.std.specs.List.{flat_map}
use Rattle.std.proofs.lemmas.List.{get_or_default}
use Rattle.ir_program.specs.declared.value.Value.TheVariants as value
use Rattle.ir_program.specs.Values.{value_of}
use Rattle.need_sets.specs.Demands.{value_demands}
use Rattle.need_constraints.proofs.Gathering.{gathers_none, gathers_same, items_more}
use Rattle.need_constraints.proofs.generator.Generator.put_values.Goals as goal

pub loop-i-init : goal.loop-i-init
loop-i-init c = gathers_none c.args.self.now.numbering c.args.rules.now

pub loop-i-preserved : goal.loop-i-preserved
loop-i-preserved c =
    let vs = c.args.values.now in
    let i = c.loop-i.i in
    let below : i < length vs = omega arith in
    items_more c.args.self.now.numbering c.args.rules.now c.loop-i.rules c.put_value.new.rules value_of (value_demands c.args.global) vs i (get_or vs i (value.Number 0)) below
    (get_or_default vs i (value.Number 0) (get_or vs i (value.Number 0)) below) c.loop-i.invariant c.in_ok-put_value.ensures

pub returns : goal.returns
returns c =
    let e : c.loop-i.i ≡ c.args.count = omega arith in
    gathers_same c.args.self.now.numbering c.args.rules.now c.loop-i.rules _ _ (ap (λ k. flat_map (value_demands c.args.global) (map value_of (take k c.args.values.now))) e) c.loop-i.invariant
