use Rattle.monitor_confined.proofs.Induction.{handlers_confine_runs, handlers_confine_images}
use Rattle.monitor_confined.proofs.runs.handlers_confine.Goals as goal

pub returns-clause-runs : goal.returns-clause-runs
returns-clause-runs c =
    handlers_confine_runs (record {
      order = c.changes_keep_order.ensures;
      shape = c.shapes.ensures.of_steps;
      confined = c.steps_are_confined.ensures;
      lead = c.steps_lead.ensures;
    })

pub returns-clause-images : goal.returns-clause-images
returns-clause-images c =
    handlers_confine_images (record {
      order = c.changes_keep_order.ensures;
      shape = c.shapes.ensures.of_steps;
      confined = c.steps_are_confined.ensures;
      lead = c.steps_lead.ensures;
    })
