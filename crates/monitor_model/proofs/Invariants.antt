-- What the invariant tells of a thread and of the block.
use Rattle.std.proofs.Common.{◌≡◌, ℕ, ◌≤◌, Bool, true, not, ◌&&◌, List, length, ap₂, arith}
use Rattle.machine_devices.specs.declared.image.Image.{Image}
use Rattle.machine_model.specs.State.{is_unprivileged}
use Rattle.machine_model.specs.RunningCode.{Context}
use Rattle.monitor_model.specs.declared.tables.Tables.{Tables}
use Rattle.monitor_model.specs.Block.{MonitorBlock}
use Rattle.monitor_model.specs.Invariant.{Invariant, IsOrderly}

-- threads run unprivileged
pub runs_unprivileged : {i : Image} {t : Tables} {m : MonitorBlock} {x : Context} {ram : List ℕ} → Invariant i t m x ram → is_unprivileged x.protection ≡ true
runs_unprivileged v = ap₂ (λ (a b : Bool). not a && b) v.thread v.unprivileged

-- callers that wait are at most as many as the stack has eighths
pub few_callers : {t : Tables} {m : MonitorBlock} → IsOrderly t m → length m.saved ≤ 8
few_callers o = let x = o.is_top.3 in omega (arith, x)
