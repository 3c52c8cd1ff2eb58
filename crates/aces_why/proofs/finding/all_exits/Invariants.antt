use Rattle.std.proofs.Common.{◌≡◌, List, map, take}
use Rattle.ir_model.specs.Layout.{Known}
use Rattle.ir_program.specs.Parts.{sequence_of}
use Rattle.aces_why.specs.Findings.{exits_of}
use Rattle.aces_why.proofs.finding.all_exits.Given as goal

abbrev pub invariant-loop-i : goal.invariant-loop-i
invariant-loop-i l = (ks : List Known) → l.lists.items ≡ exits_of (map (sequence_of ks) (take l.i l.blocks))
