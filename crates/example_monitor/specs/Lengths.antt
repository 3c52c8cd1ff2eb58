-- Beyond the program's claim: only laws, proofs and functions inside the tool cite this file.
-- How many bytes of code the monitor has, and how many steps at most, on boards with 8 and 16 regions. The tests of the
-- number of an SVC count with all four lists, of which a run takes one.
use Rattle.std.specs.Prelude.{◌≡◌, ℕ, ◌+◌}
use Rattle.monitor_steps.specs.Steps.{PrivilegedSteps}
use Rattle.monitor_steps.specs.Code.{code_length}
use Rattle.monitor_steps.specs.Ticks.{most_ticks}
use Rattle.monitor_program.specs.Constants.{Constants}
use Rattle.monitor_program.specs.Svc.{enter, leave, lend, unlend, svc}
use Rattle.monitor_program.specs.MemFault.{memfault}
use Rattle.monitor_program.specs.Reset.{reset}
use Rattle.monitor_program.specs.Page.{stub_offset, vectors_size}
use Rattle.example_monitor.specs.Sample.{four_open, four_closed, twelve_open, twelve_closed}

-- a list has so many bytes of code, and makes at most so many steps
pub record Measures (s : PrivilegedSteps) (bytes steps : ℕ) : Type 0 where
  pub bytes_are : code_length s ≡ bytes
  pub steps_are : most_ticks s ≡ steps

-- the vectors, the code and the leave stub's two bytes
abbrev pub EndsAt : Constants → ℕ → Type 0
EndsAt c n = stub_offset c + 2 ≡ vectors_size + n

pub record ComputesLengths : Type 0 where
  pub enter_four : Measures (enter four_open) 526 1288
  pub enter_twelve : Measures (enter twelve_open) 592 1324
  pub leave_four : Measures (leave four_open) 262 144
  pub leave_twelve : Measures (leave twelve_open) 328 180
  pub lend_any : Measures (lend four_open) 218 113
  pub unlend_any : Measures unlend 58 21
  pub svc_four : Measures (svc four_open) 1286 1645
  pub svc_twelve : Measures (svc twelve_closed) 1418 1717
  pub memfault_four : Measures (memfault four_open) 548 1646
  pub memfault_twelve : Measures (memfault twelve_open) 550 1650
  pub memfault_four_closed : Measures (memfault four_closed) 930 3228
  pub memfault_twelve_closed : Measures (memfault twelve_closed) 934 3236
  pub reset_four : code_length (reset four_open) ≡ 466
  pub reset_twelve : code_length (reset twelve_closed) ≡ 532
  pub four : EndsAt four_open 2302
  pub four_of_closed : EndsAt four_closed 2684
  pub twelve : EndsAt twelve_open 2502
  pub twelve_of_closed : EndsAt twelve_closed 2886
