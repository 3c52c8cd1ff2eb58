use Rattle.std.proofs.Common.{rules}
use Rattle.std.specs.Fn.{FnReturnsAt}
use Rattle.machine_output.proofs.OneStep.{once_stepped, same_always}
use Rattle.machine_output.proofs.watching.step_once.Goals as goal

pub returns : goal.returns
returns g c =
    let stepped =
    once_stepped (FnReturnsAt g.F.Fn c.args.session.now.callback) _ c.args.session.now c.go-pause.new.self _ c.go-pause.new.each c.go-pause.result
    c.go-pause.ensures (λ x. x.0.now) (λ f e h k. search rules) c.requires.begins (search rules) in
    let stays = same_always _ _ _ c.go-pause.new.each c.go-pause.ensures.piece.given (λ x. x.0.ghost_name) (λ f e h k. search rules) in
    search (rules, stays, stepped)
