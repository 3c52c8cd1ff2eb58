-- Where a run has started, start-up lies behind it.
use Rattle.std.proofs.Common.{ℕ, ◌≤◌, ⊎_elim, sym, ◌∙◌, arith}
use Rattle.std.proofs.lemmas.Bool.{false≢true, cases_lt}
use Rattle.machine_devices.specs.declared.image.Image.{Image}
use Rattle.machine_model.specs.State.{State}
use Rattle.monitor_model.specs.declared.tables.Tables.{Tables}
use Rattle.monitor_model.specs.Confined.{StartUp, HasStarted}

pub reached : (i : Image) (t : Tables) (first : State) (begins : StartUp i t first) (n : ℕ) → HasStarted i t first n → begins.count ≤ n
reached i t first begins n h = ⊎_elim (λ lt. absurd (false≢true (sym (begins.privileged h.0 lt) ∙ h.2))) (λ le. let k = h.1 in omega (arith, k, le)) (cases_lt h.0 begins.count)
