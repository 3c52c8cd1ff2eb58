-- The line on an image, and the status that goes with it.
use Rattle.std.specs.Prelude.{ℕ, List, ◌++◌, codes}
use Rattle.std.specs.Fmt.{decimal}
use Rattle.machine_lines.specs.Lines.{hexadecimal, line_feed}
use Rattle.monitor_model.specs.declared.sound.AuditCheck.{AuditCheck}
use Rattle.monitor_model.specs.declared.sound.AuditCheck.TheVariants as check
use Rattle.monitor_audit.specs.declared.answer.Audit.{Audit}
use Rattle.monitor_audit.specs.declared.answer.Audit.TheVariants.{Yes, No}

-- the word of a check
abbrev pub check_word : AuditCheck → List ℕ
check_word check.Header = codes "header"
check_word check.Tables = codes "tables"
check_word check.Code = codes "code"
check_word check.Regions = codes "regions"
check_word check.Sites = codes "sites"
check_word check.Lends = codes "lends"
check_word check.Inits = codes "inits"

-- the counts of compartments and of crossing sites
abbrev pub counts : (compartments sites : ℕ) → List ℕ
counts compartments sites = codes " compartments " ++ decimal compartments ++ codes " sites " ++ decimal sites

-- these counts; or the first check that fails, and where
unfoldable pub answer_line : Audit → List ℕ
answer_line (Yes compartments sites) = codes "yes" ++ counts compartments sites ++ line_feed
answer_line (No check at) = codes "no " ++ check_word check ++ codes " 0x" ++ hexadecimal 8 at ++ line_feed

abbrev pub answer_status : Audit → ℕ
answer_status (Yes compartments sites) = 0
answer_status (No check at) = 8
