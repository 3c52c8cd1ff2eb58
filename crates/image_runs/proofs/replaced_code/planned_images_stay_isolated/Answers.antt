use Rattle.image_runs.proofs.Kept.{stay_isolated}
use Rattle.image_runs.proofs.replaced_code.planned_images_stay_isolated.Goals as goal

pub returns : goal.returns
returns c = stay_isolated c.rules.ensures c.images.ensures c.for_boards.ensures c.planned_images_keep_promises.ensures c.kept_runs_are_isolated.ensures
