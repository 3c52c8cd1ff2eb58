-- What is where in the image of a firmware on a board.
use Rattle.std.specs.Prelude.{ℕ, List, ◌++◌}
use Rattle.monitor_model.specs.declared.tables.Tables.{Tables}
use Rattle.image_model.specs.LinkedTables.{tables_of}
use Rattle.plan_report.specs.Subjects.{Subject}
use Rattle.image_symbols.specs.MonitorLines.{monitor_lines, table_lines}
use Rattle.image_symbols.specs.FunctionLines.{function_lines}
use Rattle.image_symbols.specs.DataLines.{block_lines, global_lines, window_lines}
use Rattle.image_symbols.specs.SiteLines.{site_lines}
use Rattle.image_symbols.specs.CodeLines.{code_lines}

-- by these tables of its image
abbrev pub symbols_with : Tables → Subject → List ℕ
symbols_with t s =
    monitor_lines t ++ table_lines t ++ function_lines s ++ block_lines s ++ global_lines s ++ window_lines s ++ site_lines s ++ code_lines s

abbrev pub symbols : Subject → List ℕ
symbols s = symbols_with (tables_of s.program s.needs s.graph s.plan s.board) s
