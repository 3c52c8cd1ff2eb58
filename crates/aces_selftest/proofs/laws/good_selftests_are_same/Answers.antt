use Rattle.aces_selftest.proofs.Same as same
use Rattle.aces_selftest.proofs.laws.good_selftests_are_same.Goals as goal

pub returns : goal.returns
returns c = same.good_selftests_are_same c.refusals_and_plans_exclude.ensures c.starts.ensures
