use Rattle.plan_graph.proofs.Exposures.{counted, summed}
use Rattle.plan_graph.proofs.known.exposure.Goals as goal

pub returns : goal.returns
returns c =
    let x = c.args.one.now in
    let y = c.args.other.now in
    summed x y c.in_ok-all.all c.in_ok-to_writers.to_writers c.in_ok-to_users.to_users c.in_ok-writers.writers c.in_ok-more_writers.more_writers c.in_ok-users.users c.in_ok-more_users.more_users
    c.in_ok-all.ensures.1 c.in_ok-to_writers.ensures.1 c.in_ok-to_users.ensures.1
    (counted c.as_slice.result.now y.writers c.as_slice-2.result.now x.writes c.count_unflagged.result x.size c.in_ok-writers.writers c.in_ok-writers.ensures c.count_unflagged.ensures c.as_slice.ensures c.as_slice-2.ensures)
    (counted c.as_slice-3.result.now x.writers c.as_slice-4.result.now y.writes c.count_unflagged-2.result y.size c.in_ok-more_writers.more_writers c.in_ok-more_writers.ensures c.count_unflagged-2.ensures c.as_slice-3.ensures c.as_slice-4.ensures)
    (counted c.as_slice-5.result.now y.users c.as_slice-6.result.now x.uses c.count_unflagged-3.result x.size c.in_ok-users.users c.in_ok-users.ensures c.count_unflagged-3.ensures c.as_slice-5.ensures c.as_slice-6.ensures)
    (counted c.as_slice-7.result.now x.users c.as_slice-8.result.now y.uses c.count_unflagged-4.result y.size c.in_ok-more_users.more_users c.in_ok-more_users.ensures c.count_unflagged-4.ensures c.as_slice-7.ensures c.as_slice-8.ensures)
