-- Beyond the program's claim: only laws, proofs and functions inside the tool cite this file.
-- The access law of placed tables.
use Rattle.std.specs.Prelude.{ℕ, ◌+◌, ◌≤◌}
use Rattle.machine_thumb.specs.Table.{svc}
use Rattle.machine_devices.specs.declared.image.Image.{Image}
use Rattle.machine_model.specs.Code.{Lies}
use Rattle.monitor_model.specs.declared.tables.Tables.{Tables}
use Rattle.monitor_model.specs.Layout.{tables_size}
use Rattle.monitor_model.specs.Placed.{Placed}
use Rattle.monitor_model.specs.MonitorLaw.{MonitorLaw}
use Rattle.monitor_model.specs.AccessLaw.{AccessLaw}

-- the leave stub stands in the tables' block
pub record StubStands (i : Image) (t : Tables) (stub : ℕ) : Type 0 where
  pub from_base : t.base ≤ stub
  pub inside : stub + 2 ≤ t.base + tables_size t
  pub lies : Lies i stub (svc 1)

abbrev pub PlacedAccessesHaveTheirEffect : Type 0
PlacedAccessesHaveTheirEffect =
    (i : Image) (t : Tables) (stub : ℕ) → Placed i t → StubStands i t stub → MonitorLaw i t stub → AccessLaw i t stub
