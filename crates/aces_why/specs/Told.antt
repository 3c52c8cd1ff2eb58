-- What `why` prints of a firmware.
use Rattle.std.specs.Prelude.{◌≡◌, ℕ, List, ◌++◌}
use Rattle.ir_model.specs.Plain.{PlainFirmware}
use Rattle.ir_model.specs.Resolve.{resolve}
use Rattle.aces_why.specs.declared.subject.Findings.{Findings}
use Rattle.aces_why.specs.Subjects.{Subject}
use Rattle.aces_why.specs.Findings.{AreFindingsOf}
use Rattle.aces_why.specs.Lines.{use_lines}
use Rattle.aces_why.specs.Shared.{shared_lines}
use Rattle.aces_why.specs.Warnings.{warning_lines}

-- the lines of loads, stores and calls, those of shared registers, and the warnings
abbrev pub reach_lines : Subject → List ℕ
reach_lines s = use_lines s ++ shared_lines s ++ warning_lines s

-- the text tells what was found of a firmware by the least sets of its program
pub record IsToldOf (w : PlainFirmware) (text : List ℕ) : Type 0 where
  pub found : Findings
  pub are_found : AreFindingsOf (resolve w) found
  pub same : text ≡ reach_lines (record { firmware = w; program = resolve w; found = found })
