use Rattle.aces_compiler.proofs.Alike.{runs_are_alike}
use Rattle.aces_compiler.proofs.printed_runs.runs_are_alike.Goals as goal

pub returns : goal.returns
returns c = runs_are_alike c.starts.ensures
