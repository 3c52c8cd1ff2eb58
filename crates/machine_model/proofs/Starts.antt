-- The machine's start is a reset.
use Rattle.std.proofs.Common.{◌≡◌, ℕ, List, length, refl}
use Rattle.base_words.specs.Runs.{run}
use Rattle.machine_devices.specs.declared.image.Image.{Image}
use Rattle.machine_devices.specs.Rules.{ObeysRules}
use Rattle.machine_model.specs.Run.{start}
use Rattle.machine_model.specs.Shape.{StateFits, RunsKeepShape}
use Rattle.machine_model.specs.Reset.{StartsAreResets}

first_fits : RunsKeepShape → (i : Image) (queues : List (List ℕ)) (fill : ℕ) → ObeysRules i → length queues ≡ length i.windows → StateFits i (start i queues fill)
unfolding run
first_fits law i queues fill rules count = law i queues fill 0 rules count

pub starts_are_resets : RunsKeepShape → StartsAreResets
unfolding start
starts_are_resets law i queues fill rules count = record {
  fits = first_fits law i queues fill rules count;
  thread = refl;
  privileged = refl;
  on_msp = refl;
  msp = refl;
  pc = refl;
  unit_off = refl;
  no_fault = refl;
  disabled = refl;
  queues_are = refl;
  ending = refl;
}
