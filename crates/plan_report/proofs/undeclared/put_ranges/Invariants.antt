use Rattle.std.proofs.Common.{◌≡◌, ◌++◌, ◌-◌, ◌<◌, ◌≤◌, true, flat_map, map}
use Rattle.ir_program.specs.Parts.{span_of}
use Rattle.plan_report.specs.CompartmentLines.{undeclared_line}
use Rattle.plan_report.specs.Undeclared.{undeclared_ranges}
use Rattle.plan_report.proofs.Gaps.{ranges_from, is_edge}
use Rattle.plan_report.proofs.undeclared.put_ranges.Given as goal

abbrev pub invariant-loop-at : goal.invariant-loop-at
invariant-loop-at l = record {
  told : l.initial.text ++ flat_map (undeclared_line l.words) (undeclared_ranges (map span_of l.spans) l.cover) ≡ l.text ++ flat_map (undeclared_line l.words) (ranges_from (map span_of l.spans) l.cover l.at);
  least : l.cover.base ≤ l.at;
  edge : l.at < l.end → is_edge (map span_of l.spans) l.cover l.at ≡ true;
}

abbrev pub decreases-loop-at : goal.decreases-loop-at
decreases-loop-at l = l.end - l.at
