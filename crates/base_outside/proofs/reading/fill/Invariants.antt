use Rattle.std.proofs.Common.{◌≡◌, ◌≤◌, ◌-◌, List, All, length, take, IsTrue, IfSome}
use Rattle.base_outside.specs.Calls.{Call, Calls}
use Rattle.base_outside.specs.Reading.{Reads, Pieces}
use Rattle.base_outside.proofs.reading.fill.Given as goal

abbrev pub invariant-loop-filled : goal.invariant-loop-filled
invariant-loop-filled g l = record {
  fits : l.filled ≤ length l.buf;
  bytes : IsTrue g.F.Files.told → IfSome (g.F.Files.held l.initial.files l.name) (λ bytes.
      take l.filled l.buf ≡ take l.filled bytes);
  calls : (calls : List Call) × Calls g.F.Files.called l.initial.files calls l.files × All (Reads l.name) calls × Pieces l.name calls (take l.filled l.buf);
  same : g.F.Files.held l.files ≡ g.F.Files.held l.initial.files;
  reads : g.F.Files.read_faults l.files ≡ g.F.Files.read_faults l.initial.files;
  writes : g.F.Files.write_faults l.files ≡ g.F.Files.write_faults l.initial.files;
}

abbrev pub decreases-loop-filled : goal.decreases-loop-filled
decreases-loop-filled g l = length l.initial.buf - l.filled
