-- Beyond the program's claim: only laws, proofs and functions inside the tool cite this file.
-- Tables whose records all have addresses.
use Rattle.std.specs.Prelude.{◌≤◌, ◌<◌, ◌^◌, length}
use Rattle.monitor_model.specs.declared.tables.Tables.{Tables}
use Rattle.monitor_model.specs.Records.{number_of_slots}
use Rattle.monitor_model.specs.Layout.{initial_words_at}

pub record IsInReach (t : Tables) : Type 0 where
  pub few_slots : number_of_slots t ≤ 12
  pub few : length t.comps ≤ 64
  pub low : initial_words_at t < 2 ^ 32
