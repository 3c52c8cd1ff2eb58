use Rattle.std.proofs.Common.{◌≡◌, ◌≤◌, ◌+◌, ◌-◌, ◌*◌, [], ◌++◌}
use Rattle.machine_image.specs.Faults.{first_of, windows_checks}
use Rattle.machine_image.specs.Parts.{windows_from, behind_windows}
use Rattle.machine_image.proofs.reader.read_windows.Given as goal

-- what is left to check, to read and to pass over is what is left of the whole
abbrev pub invariant-loop-number : goal.invariant-loop-number
invariant-loop-number l = record {
  checks : first_of (windows_checks l.bytes l.start [] l.count) ≡ first_of (windows_checks l.bytes l.at l.windows.items (l.count - l.number));
  windows : windows_from l.bytes l.start l.count ≡ l.windows.items ++ windows_from l.bytes l.at (l.count - l.number);
  place : behind_windows l.bytes l.start l.count ≡ behind_windows l.bytes l.at (l.count - l.number);
  bounded : l.at ≤ 48 + 76 * l.number;
}
