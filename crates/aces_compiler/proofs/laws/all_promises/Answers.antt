use Rattle.aces_compiler.proofs.laws.all_promises.Goals as goal

pub returns : goal.returns
returns c = record {
  serve = c.least_sets.ensures.serve;
  rules = c.images.ensures;
  board = c.for_boards.ensures;
  moves = c.planned_runs.ensures;
  isolated = c.planned_runs_are_isolated.ensures;
  confined = c.confined_images.ensures;
  rules_stay = c.rules.ensures;
  kept = c.code_keeps_tables.ensures;
  keep = c.planned_images_keep_promises.ensures;
  stay_isolated = c.planned_images_stay_isolated.ensures;
  off = c.planned_runs_keep_off.ensures;
  permissions = c.permissions.ensures;
  slots = c.slots_are_own.ensures;
  masks = c.masks_are_needed.ensures;
  needed = c.permissions_are_bounded.ensures;
  policy = c.runs_stay_in_policy.ensures;
  law = c.law.ensures;
  starts = c.starts.ensures;
  invariant = c.invariant.ensures;
  refined = c.refined_images.ensures;
  never_wrong = c.images_are_never_wrong.ensures;
  guarded = c.largest.ensures;
  alike = c.runs_are_alike.ensures;
}
