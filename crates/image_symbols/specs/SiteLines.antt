-- The lines of the calls that may go to another compartment.
use Rattle.std.specs.Prelude.{ℕ, List, [], ◌++◌, map, flat_map, get_or, codes}
use Rattle.machine_lines.specs.Lines.{hexadecimal, line_feed}
use Rattle.plan_model.specs.declared.needs.SiteNeed.{SiteNeed}
use Rattle.plan_model.specs.Crossing.{crossing_sites}
use Rattle.image_model.specs.LinkedTables.{return_address}
use Rattle.plan_report.specs.Subjects.{Subject}
use Rattle.plan_report.specs.Names.{func_name}
use Rattle.image_symbols.specs.declared.rising.Lying.{Lying}
use Rattle.image_symbols.specs.Rising.{rising}

-- of a call that is not there
abbrev pub no_call : SiteNeed
no_call = record { func = 0; block = 0; inst = 0; targets = [] }

-- the crossing sites of a firmware, and where they return to
abbrev pub sites : Subject → List SiteNeed
sites s = crossing_sites s.needs s.graph.groups

abbrev pub returns : Subject → List ℕ
returns s = map (return_address s.program s.needs s.graph s.plan) (sites s)

-- the names of functions, each behind a space
abbrev pub target_text : Subject → (func : ℕ) → List ℕ
target_text s f = codes " " ++ func_name s.firmware f

abbrev pub target_texts : Subject → (funcs : List ℕ) → List ℕ
target_texts s fs = flat_map (target_text s) fs

-- the address behind the SVC, the function in which it stands, and those that it may call
abbrev pub call_line : Subject → (address : ℕ) → SiteNeed → List ℕ
call_line s a c = codes "site 0x" ++ hexadecimal 8 a ++ codes " " ++ func_name s.firmware c.func ++ target_texts s c.targets ++ line_feed

abbrev pub site_line : Subject → Lying → List ℕ
site_line s x = call_line s x.address (get_or (sites s) x.number no_call)

-- of sites that lie there
abbrev pub site_lines_of : Subject → List Lying → List ℕ
site_lines_of s xs = flat_map (site_line s) xs

-- the sites in rising order of these addresses
abbrev pub rising_sites : Subject → List Lying
rising_sites s = rising (returns s)

unfoldable pub site_lines : Subject → List ℕ
site_lines s = site_lines_of s (rising_sites s)
