-- The tables and keys of a board's document: their names, and the numbers that a key may have.
use Rattle.std.specs.Prelude.{ℕ, ◌%◌, List, ◌++◌, Bool, false, ◌&&◌, ◌||◌, nat_eq, nat_le, codes}
use Rattle.base_ranges.specs.Ranges.{is_power_between}
use Rattle.machine_devices.specs.Rules.{least_stack, greatest_stack, memory_limit, last_flash_base, first_ram_base, last_ram_base, least_ram, ram_unit}
use Rattle.plan_board.specs.declared.key.Key.{Key}
use Rattle.plan_board.specs.declared.key.Key.TheVariants.{Flash, FlashBase, FlashSize, Ram, RamBase, RamSize, RamStack, RamLowest, Mpu, MpuRegions, MpuReads, Deny}

-- ---- names

-- as it stands in its table
abbrev pub word_of : Key → List ℕ
word_of Flash = codes "flash"
word_of FlashBase = codes "base"
word_of FlashSize = codes "size"
word_of Ram = codes "ram"
word_of RamBase = codes "base"
word_of RamSize = codes "size"
word_of RamStack = codes "stack"
word_of RamLowest = codes "lowest"
word_of Mpu = codes "mpu"
word_of MpuRegions = codes "regions"
word_of MpuReads = codes "reads"
word_of Deny = codes "deny"

-- a key of a table, behind the table and a point
abbrev pub behind : (table : Key) → (word : List ℕ) → List ℕ
behind t w = word_of t ++ codes "." ++ w

-- as it is printed
abbrev pub path_of : Key → List ℕ
path_of Flash = codes "flash"
path_of FlashBase = codes "flash.base"
path_of FlashSize = codes "flash.size"
path_of Ram = codes "ram"
path_of RamBase = codes "ram.base"
path_of RamSize = codes "ram.size"
path_of RamStack = codes "ram.stack"
path_of RamLowest = codes "ram.lowest"
path_of Mpu = codes "mpu"
path_of MpuRegions = codes "mpu.regions"
path_of MpuReads = codes "mpu.reads"
path_of Deny = codes "deny"

-- ---- numbers

-- a multiple of a MiB in a range
abbrev pub is_base : (least most number : ℕ) → Bool
is_base least most n = nat_le least n && (nat_le n most && nat_eq (n % memory_limit) 0)

-- a multiple of 32 from 1,024 to 1,048,576
abbrev pub is_size : (number : ℕ) → Bool
is_size n = nat_le least_ram n && (nat_le n memory_limit && nat_eq (n % ram_unit) 0)

-- the numbers that a key may have
abbrev pub allows : Key → (number : ℕ) → Bool
allows FlashBase n = is_base 0 last_flash_base n
allows FlashSize n = is_size n
allows RamBase n = is_base first_ram_base last_ram_base n
allows RamSize n = is_size n
allows RamStack n = is_power_between least_stack greatest_stack n
allows MpuRegions n = nat_eq n 8 || nat_eq n 16
allows Flash n = false
allows Ram n = false
allows RamLowest n = false
allows Mpu n = false
allows MpuReads n = false
allows Deny n = false
