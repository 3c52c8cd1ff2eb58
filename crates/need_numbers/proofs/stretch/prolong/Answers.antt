use Rattle.std.proofs.Common.{◌-◌, arith}
use Rattle.need_numbers.proofs.Cuts.{gone_on}
use Rattle.need_numbers.proofs.stretch.prolong.Goals as goal

pub returns-clause-longer : goal.returns-clause-longer
returns-clause-longer c =
    let l = c.len-count.ensures in
    let f = c.if-count-eq0.false in
    gone_on c.args.runs.now.items (c.len-count.result - 1) c.args.number c.index_mut.result.now c.push.new.self c.push.result (omega arith) c.index_mut.ensures.value c.push.ensures.longer
