-- The lines of data: the stack, the monitor's block, globals, and windows of peripherals.
use Rattle.std.specs.Prelude.{ℕ, List, ◌++◌, length, map, flat_map, codes}
use Rattle.machine_lines.specs.Lines.{line_feed}
use Rattle.ir_model.specs.Resolved.{NumberedWindow, window_at}
use Rattle.plan_model.specs.declared.plan.Spot.{Spot}
use Rattle.plan_model.specs.Lists.{numbers_below}
use Rattle.plan_model.specs.Placement.{global_address}
use Rattle.plan_model.specs.Regions.{global_size}
use Rattle.plan_report.specs.Subjects.{Subject}
use Rattle.plan_report.specs.Names.{global_name, periph_name, range_text}
use Rattle.image_symbols.specs.declared.rising.Lying.{Lying}
use Rattle.image_symbols.specs.Rising.{rising}

abbrev pub spot_line : (word : List ℕ) → Spot → List ℕ
spot_line word spot = word ++ range_text spot.base spot.size ++ line_feed

-- the stack of all compartments, and the monitor's block
abbrev pub block_lines : Subject → List ℕ
block_lines s = spot_line (codes "stack") s.plan.stack ++ spot_line (codes "block") s.plan.monitor

-- ---- globals

abbrev pub global_line : Subject → Lying → List ℕ
global_line s x = codes "global" ++ range_text x.address (global_size s.program x.number) ++ (codes " " ++ global_name s.firmware x.number) ++ line_feed

-- of globals that lie there
abbrev pub global_lines_of : Subject → List Lying → List ℕ
global_lines_of s xs = flat_map (global_line s) xs

unfoldable pub global_lines : Subject → List ℕ
global_lines s =
    global_lines_of s (rising (map (global_address s.program s.graph s.plan) (numbers_below (length s.program.globals))))

-- ---- windows of peripherals

abbrev pub window_line : Subject → Lying → List ℕ
window_line s x = codes "window" ++ range_text x.address (window_at s.program x.number).size ++ (codes " " ++ periph_name s.firmware x.number) ++ line_feed

-- of windows that lie there
abbrev pub window_lines_of : Subject → List Lying → List ℕ
window_lines_of s xs = flat_map (window_line s) xs

unfoldable pub window_lines : Subject → List ℕ
window_lines s = window_lines_of s (rising (map (λ (w : NumberedWindow). w.base) s.program.periphs))
