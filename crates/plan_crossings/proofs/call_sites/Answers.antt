use Rattle.std.proofs.Common.{length}
use Rattle.plan_crossings.proofs.Sites.{found_more, small_more}
use Rattle.plan_crossings.proofs.call_sites.Goals as goal

pub loop-number-preserved : goal.loop-number-preserved
loop-number-preserved c =
    let k = c.loop-number.number in
    let f = c.args.func in
    let ss = c.args.sites.now in
    let site = c.index-sites-number.result in
    let before = c.loop-number.calls.items in
    let after = c.add_call.new.calls.items in
    record {
      exact = found_more k ss f before after _ site c.loop-number-test.true c.index-sites-number.is c.in_ok-add_call.ensures c.loop-number.invariant.exact;
      small = small_more k (length ss) c.loop-number-test.true site.now f before after c.in_ok-add_call.ensures c.loop-number.invariant.small;
    }
