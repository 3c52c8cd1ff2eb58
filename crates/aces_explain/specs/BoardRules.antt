-- The rules of a board's keys as they are told: what a key has to be, and which values it may have.
use Rattle.std.specs.Prelude.{ℕ, List, ◌++◌, Option, Some, None, if◌then◌else◌, bytes_eq, codes}
use Rattle.plan_board.specs.declared.key.Key.{Key}
use Rattle.plan_board.specs.declared.key.Key.TheVariants.{Flash, FlashBase, FlashSize, Ram, RamBase, RamSize, RamStack, RamLowest, Mpu, MpuRegions, MpuReads, Deny}
use Rattle.plan_board.specs.declared.fault.BoardFault.{BoardFault}
use Rattle.plan_board.specs.declared.fault.BoardFault.TheVariants.{NoMemory, NotToml, Missing, Kind, Range, DeniedKind, DeniedRange, Extra}
use Rattle.aces_explain.specs.KeyLines.{parts_of}

-- ---- keys

-- what a key has to be
abbrev pub kind_text : Key → List ℕ
kind_text Flash = codes "a table"
kind_text FlashBase = codes "an integer"
kind_text FlashSize = codes "an integer"
kind_text Ram = codes "a table"
kind_text RamBase = codes "an integer"
kind_text RamSize = codes "an integer"
kind_text RamStack = codes "an integer"
kind_text RamLowest = codes "a text"
kind_text Mpu = codes "a table"
kind_text MpuRegions = codes "an integer"
kind_text MpuReads = codes "a text"
kind_text Deny = codes "a table"

-- the values that it may have; of a table, what it may hold
abbrev pub value_text : Key → List ℕ
value_text Flash = codes "base and size"
value_text FlashBase = codes "a multiple of 0x100000 from 0 to 0x1FE00000"
value_text FlashSize = codes "a multiple of 32 from 1024 to 1048576"
value_text Ram = codes "base, size and stack, and lowest or not"
value_text RamBase = codes "a multiple of 0x100000 from 0x20000000 to 0x3FF00000"
value_text RamSize = codes "a multiple of 32 from 1024 to 1048576"
value_text RamStack = codes "a power of two from 512 to 65536"
value_text RamLowest = codes "\"size\" or \"stack\""
value_text Mpu = codes "regions and reads, each or not"
value_text MpuRegions = codes "8 or 16"
value_text MpuReads = codes "\"open\" or \"closed\""
value_text Deny = codes "at most 64 ranges, each behind its name"

abbrev pub kind_rule : Key → List ℕ
kind_rule k = kind_text k ++ codes ": " ++ value_text k

abbrev pub missing_rule : Key → List ℕ
missing_rule k = codes "has to be there, " ++ kind_rule k

-- ---- further keys

abbrev pub document_rule : List ℕ
document_rule = codes "a board has the tables flash, ram, mpu and deny alone"

-- the keys of a table; a name of what is denied is one of firmware texts
abbrev pub table_rule : (table : List ℕ) → List ℕ
table_rule t =
    if bytes_eq t (codes "flash") then codes "flash has the keys base and size alone"
    else if bytes_eq t (codes "ram") then codes "ram has the keys base, size, stack and lowest alone"
    else if bytes_eq t (codes "mpu") then codes "mpu has the keys regions and reads alone"
    else if bytes_eq t (codes "deny") then codes "a name of firmware texts: a letter or _, then letters, digits, _ and ., at most 64 bytes, and no reserved word"
    else document_rule

-- the rule of a further key, by the table and the word of its path, if that has a point
abbrev pub extra_rule : Option (List ℕ × List ℕ) → List ℕ
extra_rule None = document_rule
extra_rule (Some x) = table_rule x.0

-- ---- faults

abbrev pub rule_of : BoardFault → List ℕ
rule_of NoMemory = codes "memory enough to read the text"
rule_of NotToml = codes "a TOML document in UTF-8, in which no key stands twice"
rule_of (Missing k) = missing_rule k
rule_of (Kind k) = kind_rule k
rule_of (Range k) = value_text k
rule_of (DeniedKind path) = codes "an array of two integers: base and size"
rule_of (DeniedRange path) = codes "a base and a size of 1 byte or more, the first byte and the last from 0x40000000 to 0x5FFFFFFF"
rule_of (Extra path) = extra_rule (parts_of path)
