use Rattle.std.proofs.Common.{◌∙◌, ap}
use Rattle.base_words.specs.Runs.{run}
use Rattle.ir_model.specs.Step.{source_step}
use Rattle.ir_run.specs.Runs.{RunState}
use Rattle.aces_where.proofs.telling.lines_of.Goals as goal

pub go-requires : goal.go-requires
go-requires c = ap (λ (r : RunState). r.taken) c.in_ok-run.ensures.run

pub returns : goal.returns
returns c =
    let begun = rw c.in_ok-standing.ensures.items at c.in_ok-run.ensures.run in
    rw (
      c.firmware.ensures.same,
      c.in_ok-go.ensures.program ∙ ap (λ (r : RunState). r.program) begun,
      c.in_ok-go.ensures.state ∙ ap (λ (r : RunState). run (source_step r.program r.compartments) c.args.halt.going r.state) begun,
    ) at c.place_lines.ensures
