use Rattle.std.proofs.Common.{◌≡◌, ◌↔◌, ℕ, ◌<◌}
use Rattle.std.specs.Prelude.{Contains}
use Rattle.needs.proofs.lending.own.Given as goal

abbrev pub invariant-loop-local : goal.invariant-loop-local
invariant-loop-local l = (x : ℕ × ℕ) → Contains l.locals.items x ↔ ((x.0 ≡ l.func) × (x.1 < l.local))
