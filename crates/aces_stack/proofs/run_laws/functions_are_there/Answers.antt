use Rattle.aces_stack.proofs.There.{needs_have_functions}
use Rattle.aces_stack.proofs.run_laws.functions_are_there.Goals as goal

pub returns : goal.returns
returns c = needs_have_functions
