-- What `tables` prints of a sound image: what the tables in its flash say.
use Rattle.std.specs.Prelude.{ℕ, List, ◌++◌, flat_map, codes, length}
use Rattle.std.specs.Fmt.{decimal}
use Rattle.machine_lines.specs.Lines.{hexadecimal, line_feed}
use Rattle.plan_report.specs.Names.{range_text}
use Rattle.machine_devices.specs.declared.image.Image.{Image}
use Rattle.machine_devices.specs.declared.image.Window.{Window}
use Rattle.machine_protection.specs.declared.region.Region.{Region}
use Rattle.plan_model.specs.Lists.{numbers_below}
use Rattle.monitor_model.specs.declared.tables.CompRecord.{CompRecord}
use Rattle.monitor_model.specs.declared.tables.SiteRecord.{SiteRecord}
use Rattle.monitor_model.specs.declared.tables.TargetRecord.{TargetRecord}
use Rattle.monitor_model.specs.declared.tables.InitRecord.{InitRecord}
use Rattle.monitor_model.specs.declared.tables.Tables.{Tables}
use Rattle.monitor_model.specs.Records.{compartment_at, targets_of, lend_size}
use Rattle.monitor_model.specs.RegionChecks.{base_of, size_of}
use Rattle.aces_audit.specs.SlotLines.{slot_lines}

-- ---- compartments

-- where its code lies
abbrev pub code_line : (number : ℕ) → Region → List ℕ
code_line c g = codes "compartment " ++ decimal c ++ codes " code" ++ range_text (base_of g) (size_of g) ++ line_feed

-- which lendable locals it may write, and which it may read on a closed board: bit i for the local of number i
abbrev pub masks_line : CompRecord → List ℕ
masks_line r = codes "writes 0x" ++ hexadecimal 8 r.mask ++ codes " reads 0x" ++ hexadecimal 8 r.reads ++ line_feed

abbrev pub record_lines : List Window → (number : ℕ) → CompRecord → List ℕ
record_lines ws c r = code_line c r.code ++ slot_lines ws r.slots ++ masks_line r

unfoldable pub compartment_lines : List Window → Tables → List ℕ
compartment_lines ws t = flat_map (λ c. record_lines ws c (compartment_at t c)) (numbers_below (length t.comps))

-- ---- calls that cross

-- the compartment of a target, and its entry with bit 0 set
abbrev pub target_text : TargetRecord → List ℕ
target_text g = codes " " ++ decimal g.compartment ++ codes ":0x" ++ hexadecimal 8 g.entry

unfoldable pub target_texts : List TargetRecord → List ℕ
target_texts gs = flat_map target_text gs

-- the address behind the call, and all to which it may go
abbrev pub site_line : Tables → SiteRecord → List ℕ
site_line t s = codes "site 0x" ++ hexadecimal 8 s.ret ++ codes " targets" ++ target_texts (targets_of t s) ++ line_feed

unfoldable pub site_lines : Tables → List ℕ
site_lines t = flat_map (site_line t) t.sites

-- ---- lendable locals, and ranges that start-up fills

abbrev pub lent_line : (number size : ℕ) → List ℕ
lent_line k size = codes "lent " ++ decimal k ++ codes " " ++ decimal size ++ line_feed

unfoldable pub lent_lines : Tables → List ℕ
lent_lines t = flat_map (λ k. lent_line k (lend_size t k)) (numbers_below (length t.lends))

-- the first address, and the one behind the last
abbrev pub fill_line : InitRecord → List ℕ
fill_line n = codes "fills 0x" ++ hexadecimal 8 n.at ++ codes " 0x" ++ hexadecimal 8 n.end ++ line_feed

unfoldable pub fill_lines : Tables → List ℕ
fill_lines t = flat_map fill_line t.inits

-- ---- `main`, the stack of all compartments, and the monitor's block

-- the compartment of `main`, and its entry with bit 0 set
abbrev pub main_line : Tables → List ℕ
main_line t = codes "main " ++ decimal t.main_comp ++ codes " 0x" ++ hexadecimal 8 t.main ++ line_feed

abbrev pub stack_line : Tables → List ℕ
stack_line t = codes "stack" ++ range_text t.stack.base t.stack.size ++ line_feed

abbrev pub monitor_line : Tables → List ℕ
monitor_line t = codes "monitor 0x" ++ hexadecimal 8 t.monitor ++ line_feed

unfoldable pub place_lines : Tables → List ℕ
place_lines t = main_line t ++ stack_line t ++ monitor_line t

-- ---- all of them

abbrev pub table_lines : Image → Tables → List ℕ
table_lines i t = compartment_lines i.windows t ++ site_lines t ++ lent_lines t ++ fill_lines t ++ place_lines t
