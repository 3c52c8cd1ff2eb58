use Rattle.std.proofs.Common.{◌≡◌, ◌≢◌, false, refl, ap, ◌∙◌, arith, rules}
use Rattle.need_numbers.specs.Rows.{Lists}
use Rattle.need_sets.specs.Solutions.{is_in}
use Rattle.need_solving.proofs.Putting.{still_asked}
use Rattle.need_solving.proofs.Copying.{holds_edge}
use Rattle.need_solving.proofs.Paying.{paid_edge}
use Rattle.need_solving.proofs.search.put_edge.Goals as goal

pub returns-clause-holds : goal.returns-clause-holds
returns-clause-holds g c =
    let n = c.in_ok-copy.ensures.copied.grown.count in
    let m = c.requires.holds.count in
    let d : c.args.edge.from ≢ c.args.edge.to = search rules in
    holds_edge c.args.system.now c.copy.new.state c.add.new.self c.args.edge c.in_ok-copy.ensures.holds c.in_ok-add.ensures.added (omega arith) (omega arith) d
    (still_asked c.args.system.now c.args.state.now.pairs.rows c.copy.new.state.pairs.rows c.args.edge c.in_ok-copy.ensures.copied.grown.rows c.requires.asked) c.in_ok-copy.ensures.copied.copied

pub returns-clause-paid : goal.returns-clause-paid
returns-clause-paid g c =
    let m = c.requires.holds.count in
    let old : is_in c.args.state.now.edges c.args.edge.from c.args.edge.to ≡ false = search rules in
    let new : is_in c.copy.new.state.edges c.args.edge.from c.args.edge.to ≡ false = ap (λ (y : Lists). is_in y c.args.edge.from c.args.edge.to) c.in_ok-copy.ensures.copied.edges ∙ old in
    paid_edge c.args.system.now c.args.state.now c.copy.new.state _ c.args.edge _ _ c.requires.holds c.in_ok-copy.ensures.copied refl refl c.in_ok-add.ensures.added refl new (omega arith) (omega (arith, c.in_ok-copy.ensures.counted))
