use Rattle.std.proofs.Common.{◌≡◌, None}
use denote.Param.Always.{always_mut}
use Rattle.std.specs.Fn.{FnReturnsAt, CalledAt}
use Rattle.machine_watch.proofs.Pieces.{Went, Misses}
use Rattle.machine_watch.proofs.session.Session.go.Given as goal

-- the steps so far, of a machine that goes on
abbrev pub invariant-loop-step : goal.invariant-loop-step
invariant-loop-step g l = record {
  callable : always_mut g.G.FnMut l.each;
  went : Went (λ f e h. CalledAt g.G.FnMut f e tt h) l.fn.self l.fn.each l._step (record { machine = l.self-inside.machine; taken = l.self-inside.taken; callback = l.self-inside.watch.callback }) l.each;
  misses : Misses (FnReturnsAt g.F.Fn l.fn.self.callback) (λ f e h. CalledAt g.G.FnMut f e tt h) l.fn.self l.fn.each l._step;
  goes_on : l.self-inside.machine.state.ending ≡ None;
}
