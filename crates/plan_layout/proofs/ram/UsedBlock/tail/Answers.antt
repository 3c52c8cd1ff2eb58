use Rattle.std.proofs.Common.{◌≡◌, ◌+◌, ◌-◌, ◌/◌, true, rules, arith}
use Rattle.plan_model.specs.RamBlocks.{holds_globals}
use Rattle.plan_layout.specs.Filling.{block_seen, use_seen}
use Rattle.plan_layout.proofs.Steps.{tail_there, tail_not_there, open_is}
use Rattle.plan_layout.proofs.ram.UsedBlock.tail.Goals as goal

pub returns-then-open-lt8 : goal.returns-then-open-lt8
returns-then-open-lt8 c =
    let b = block_seen c.args.self in
    let eighth = c.from-eighth.result in
    let h : holds_globals (use_seen c.args.self.purpose) ≡ true = first_of (cc, search rules, grind arith) in
    tail_there c.args.base ((c.from.result + (eighth - 1)) / eighth) b h c.if-self-lt256.false (open_is b.size b.bytes eighth c.from.result c.from-eighth.ensures c.from.ensures) c.if-open-lt8.true

pub returns-else-open-lt8 : goal.returns-else-open-lt8
returns-else-open-lt8 c =
    let b = block_seen c.args.self in
    let eighth = c.from-eighth.result in
    let h : holds_globals (use_seen c.args.self.purpose) ≡ true = first_of (cc, search rules, grind arith) in
    tail_not_there c.args.base ((c.from.result + (eighth - 1)) / eighth) b h c.if-self-lt256.false (open_is b.size b.bytes eighth c.from.result c.from-eighth.ensures c.from.ensures) c.if-open-lt8.false
