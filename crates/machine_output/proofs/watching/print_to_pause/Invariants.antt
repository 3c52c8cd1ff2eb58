use Rattle.std.proofs.Common.{◌≡◌, ◌+◌}
use Rattle.std.specs.Fn.{FnReturnsAt}
use Rattle.base_outside.specs.Sinks.{sink}
use Rattle.machine_output.proofs.Going.{IsGoing}
use Rattle.machine_output.proofs.watching.print_to_pause.Given as goal

-- the steps so far
abbrev pub invariant-loop-step : goal.invariant-loop-step
invariant-loop-step g l = record {
  image : l.session.machine.image ≡ l.fn.session.machine.image;
  callback : l.session.callback ≡ l.fn.session.callback;
  taken : l.session.taken ≡ l.fn.session.taken + l._step;
  going : IsGoing (FnReturnsAt g.F.Fn l.fn.session.callback) l.fn.image l.fn.session.machine.state (sink g.O.Sink l.fn.out) l._step l.session.machine.state (sink g.O.Sink l.out);
}
