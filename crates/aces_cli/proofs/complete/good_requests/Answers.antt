use Rattle.aces_cli.proofs.Good.{good_requests_are_done}
use Rattle.aces_cli.proofs.complete.good_requests.Goals as goal

pub returns : goal.returns
returns c =
    good_requests_are_done
    (record {
      unique = c.texts.ensures.unique;
      faultless = c.faults.ensures.texts;
      images = c.texts-2.ensures.unique;
      no_fault = c.faults-2.ensures.faultless;
      boards = c.boards_are_one.ensures.one;
      read = c.boards_are_one.ensures.read;
      planned = c.refusals_and_plans_exclude.ensures;
      limited = c.limits_exclude.ensures;
    })
