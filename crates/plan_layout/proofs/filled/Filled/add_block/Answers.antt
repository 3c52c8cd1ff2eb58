use Rattle.std.proofs.Common.{◌≡◌, ◌∙◌, List, Some, None, map, ap}
use Rattle.std.proofs.lemmas.Result.{IfOk-weaker}
use Rattle.plan_model.specs.RamPlacement.{with_block, with_block_by, tail_for}
use Rattle.plan_layout.specs.declared.ram.Tail.{Tail}
use Rattle.plan_layout.specs.Filling.{tail_seen, block_seen, ram_seen}
use Rattle.plan_layout.proofs.Steps.{tail_found}
use Rattle.plan_layout.proofs.filled.Filled.add_block.Goals as goal

pub add_in-requires-clause-fits : goal.add_in-requires-clause-fits
add_in-requires-clause-fits c =
    let b = block_seen c.args.block in
    let found : Some c.in-Some.number ≡ tail_for (map tail_seen c.args.self.now.tails.items) b = c.in-Some.ensures ∙ ap (λ (ts : List Tail). tail_for (map tail_seen ts) b) c.deref.ensures.value in
    (tail_found (map tail_seen c.args.self.now.tails.items) b c.in-Some.number found).1

pub returns-in-None : goal.returns-in-None
unfolding with_block
returns-in-None c =
    let b = block_seen c.args.block in
    let m = ram_seen c.args.self.now in
    let found : None ≡ tail_for (map tail_seen c.args.self.now.tails.items) b = c.in-None.ensures ∙ ap (λ (ts : List Tail). tail_for (map tail_seen ts) b) c.deref.ensures.value in
    IfOk-weaker c.add_behind.result _ _ (λ x h. h ∙ ap (with_block_by c.args.ram m b) found) c.add_behind.ensures

pub returns-in-Some : goal.returns-in-Some
unfolding with_block
returns-in-Some c =
    let b = block_seen c.args.block in
    let m = ram_seen c.args.self.now in
    let found : Some c.in-Some.number ≡ tail_for (map tail_seen c.args.self.now.tails.items) b = c.in-Some.ensures ∙ ap (λ (ts : List Tail). tail_for (map tail_seen ts) b) c.deref.ensures.value in
    IfOk-weaker c.add_in.result _ _ (λ x h. h ∙ ap (with_block_by c.args.ram m b) found) c.add_in.ensures
