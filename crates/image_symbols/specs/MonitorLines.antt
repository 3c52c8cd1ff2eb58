-- The lines of what stands first in flash: the monitor's code, and the tables behind its page.
use Rattle.std.specs.Prelude.{ℕ, ◌+◌, ◌*◌, List, ◌++◌, length, codes}
use Rattle.monitor_steps.specs.Code.{code_length}
use Rattle.machine_lines.specs.Lines.{line_feed}
use Rattle.monitor_model.specs.declared.tables.Tables.{Tables}
use Rattle.monitor_model.specs.Layout.{head_at, head_size, compartments_at, compartment_size, sites_at, targets_at, lends_at, inits_at, initial_words_at}
use Rattle.monitor_program.specs.Page.{reset_offset, constants}
use Rattle.monitor_program.specs.Svc.{svc}
use Rattle.monitor_program.specs.MemFault.{memfault}
use Rattle.monitor_program.specs.Reset.{reset}
use Rattle.plan_report.specs.Names.{range_text}

-- a range of addresses, with its name
abbrev pub range_line : (word : List ℕ) → (base size : ℕ) → (name : List ℕ) → List ℕ
range_line word base size name = word ++ range_text base size ++ codes " " ++ name ++ line_feed

-- ---- the monitor's code: behind the vectors start-up, then the handlers of SVC and of MemManage, then the SVC by which a function
-- leaves its compartment

-- by the bytes of the first three
abbrev pub handler_lines : (base start call fault : ℕ) → List ℕ
handler_lines base start call fault =
    range_line (codes "monitor") (base + reset_offset) start (codes "start")
    ++ range_line (codes "monitor") (base + (reset_offset + start)) call (codes "svc")
    ++ range_line (codes "monitor") (base + (reset_offset + start + call)) fault (codes "memfault")
    ++ range_line (codes "monitor") (base + (reset_offset + start + call + fault)) 2 (codes "leave")

unfoldable pub monitor_lines : Tables → List ℕ
monitor_lines t =
    handler_lines t.base (code_length (reset (constants t))) (code_length (svc (constants t))) (code_length (memfault (constants t)))

-- ---- the tables: eight words of counts and places; the records of compartments, of crossing sites and of their targets; the sizes of
-- lent locals; the records of the ranges that start-up fills; and the words that it fills them with

unfoldable pub table_lines : Tables → List ℕ
table_lines t =
    range_line (codes "tables") (head_at t) head_size (codes "head")
    ++ range_line (codes "tables") (compartments_at t) (compartment_size t * length t.comps) (codes "compartments")
    ++ range_line (codes "tables") (sites_at t) (12 * length t.sites) (codes "sites")
    ++ range_line (codes "tables") (targets_at t) (8 * length t.targets) (codes "targets")
    ++ range_line (codes "tables") (lends_at t) (4 * length t.lends) (codes "lent")
    ++ range_line (codes "tables") (inits_at t) (12 * length t.inits) (codes "ranges")
    ++ range_line (codes "tables") (initial_words_at t) (4 * length t.words) (codes "words")
