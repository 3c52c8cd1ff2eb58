use Rattle.std.proofs.Common.{◌≡◌, true, map, sym, ◌∙◌, rules, arith}
use Rattle.plan_model.specs.RamBlocks.{holds_globals}
use Rattle.plan_model.specs.RamPlacement.{fits}
use Rattle.plan_layout.specs.declared.ram.Tail.{Tail}
use Rattle.plan_layout.specs.Filling.{block_seen, use_seen, tail_seen}
use Rattle.plan_layout.proofs.Searches.{position_mapped_here, position_mapped_none}
use Rattle.plan_layout.proofs.Steps.{tail_for_is}
use Rattle.plan_layout.proofs.ram.UsedBlock.tail_in.Goals as goal

abbrev nowhere : Tail
nowhere = record { from = 0; to = 0 }

pub returns-then-fits : goal.returns-then-fits
returns-then-fits c =
    let b = block_seen c.args.self in
    let h : holds_globals (use_seen c.args.self.purpose) ≡ true = first_of (cc, search rules, grind arith) in
    tail_for_is (map tail_seen c.args.tails.now) b _ h
    (position_mapped_here tail_seen (fits b.size) c.args.tails.now c.loop-number.number nowhere c.loop-number-test.true (λ k l. c.loop-number.invariant k nowhere l) (sym c.fits.ensures ∙ c.if-fits.true))

pub returns : goal.returns
returns c =
    let b = block_seen c.args.self in
    let h : holds_globals (use_seen c.args.self.purpose) ≡ true = first_of (cc, search rules, grind arith) in
    tail_for_is (map tail_seen c.args.tails.now) b _ h
    (position_mapped_none tail_seen (fits b.size) c.args.tails.now nowhere (λ k l. c.loop-number.invariant k nowhere (omega arith)))
