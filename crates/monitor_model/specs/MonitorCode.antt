-- What definitions take of the monitor's code, apart from the code itself.
use Rattle.std.specs.Prelude.{ℕ, List}
use Rattle.monitor_model.specs.declared.tables.Tables.{Tables}

pub record MonitorCode : Type 0 where
  -- the first 4,096 bytes of the tables' block: vector words, handlers and stub
  pub page : Tables → List ℕ
  -- the address of the leave stub
  pub stub : Tables → ℕ
  -- the offsets in the page at which start-up has the entry of `main`, and its compartment, each by MOVW and MOVT
  pub main_entry_at : ℕ
  pub main_compartment_at : ℕ
