-- Runs keep what every step keeps of a state.
use Rattle.std.proofs.Common.{subst}
use Rattle.machine_model.specs.State.{State}
use Rattle.machine_model.specs.Shape.{StateFits, StepsKeepShape}
use Rattle.machine_model.proofs.Runs.{run_fits}
use Rattle.code_effects.specs.Points.{RunsFit}

pub runs_fit : StepsKeepShape → RunsFit
runs_fit keeps j i k s t es r h g = subst (λ (u : State). StateFits i u) g.leads (run_fits keeps j i r k s h)
