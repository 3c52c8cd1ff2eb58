use Rattle.std.proofs.Common.{sym, ap, ◌∙◌, map}
use Rattle.ir_model.specs.Resolved as plain
use Rattle.ir_program.specs.Parts.{operation_of, exit_of}
use Rattle.ir_run.proofs.Standing.{here_before, here_behind}
use Rattle.ir_run.proofs.places.here_in.Goals as goal

pub returns-then-place-operations-clause-exact : goal.returns-then-place-operations-clause-exact
returns-then-place-operations-clause-exact c ks =
    let term = exit_of c.args.sequence.now.exit in
    ap (λ o. plain.Does (operation_of ks o)) c.index-operations-place.is
    ∙ (sym (here_before ks c.as_slice-operations.result.now term c.args.place c.index-operations-place.result c.if-place-operations.true)
    ∙ ap (λ os. plain.here_in (map (operation_of ks) os) term c.args.place) c.as_slice-operations.ensures)

pub returns-else-place-operations-clause-exact : goal.returns-else-place-operations-clause-exact
returns-else-place-operations-clause-exact c ks =
    let term = exit_of c.args.sequence.now.exit in
    sym (here_behind ks c.as_slice-operations.result.now term c.args.place c.if-place-operations.false)
    ∙ ap (λ os. plain.here_in (map (operation_of ks) os) term c.args.place) c.as_slice-operations.ensures
