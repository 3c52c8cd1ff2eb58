-- The rules that every image obeys. Sizes are in bytes.
use Rattle.std.specs.Prelude.{◌≡◌, ◌≢◌, ℕ, ◌%◌, ◌≤◌, ◌⊎◌, List, [], ◌∷◌, length, IsTrue}
use Rattle.base_names.specs.Names.{is_name}
use Rattle.base_ranges.specs.Ranges.{IsPowerBetween, IsInside, AreApart, IsWindowRange}
use Rattle.machine_devices.specs.declared.image.Image.{Image}
use Rattle.machine_devices.specs.declared.image.Window.{Window}

-- a window: its name, and its range
pub record IsWindow (w : Window) : Type 0 where
  pub named : IsTrue (is_name w.name)
  pub range : IsWindowRange w.base w.size

-- a window shares neither name nor address with any of these
abbrev pub IsApart : Window → List Window → Type 0
IsApart w [] = Unit {0}
IsApart w (x ∷ xs) = (w.name ≢ x.name) × AreApart w.base w.size x.base x.size × IsApart w xs

abbrev pub AreWindows : List Window → Type 0
AreWindows [] = Unit {0}
AreWindows (w ∷ ws) = IsWindow w × IsApart w ws × AreWindows ws

-- the most windows of an image
abbrev pub window_limit : ℕ
window_limit = 64

-- the bytes of the monitor's block
abbrev pub block_size : ℕ
block_size = 1024

-- no monitor, or an aligned block inside RAM
abbrev pub IsMonitor : Image → Type 0
IsMonitor i = (i.monitor ≡ 0) ⊎ ((i.monitor % block_size ≡ 0) × IsInside i.monitor block_size i.ram_base i.ram_size)

-- the least stack has 2 ^ 9 bytes, and the greatest 2 ^ 16
abbrev pub least_stack : ℕ
least_stack = 9

abbrev pub greatest_stack : ℕ
greatest_stack = 16

-- no stack, or an aligned power of two from 512 bytes to 64 KiB inside RAM
pub record IsStack (i : Image) : Type 0 where
  pub size : IsPowerBetween least_stack greatest_stack i.stack_size
  pub aligned : i.stack_base % i.stack_size ≡ 0
  pub place : IsInside i.stack_base i.stack_size i.ram_base i.ram_size

-- flash and RAM each begin at a multiple of a MiB, which is also the most that each has
abbrev pub memory_limit : ℕ
memory_limit = 0x100000

-- the last address where flash may begin
abbrev pub last_flash_base : ℕ
last_flash_base = 0x1FE00000

-- the least bytes of flash
abbrev pub least_flash : ℕ
least_flash = 64

-- the first and the last address where RAM may begin
abbrev pub first_ram_base : ℕ
first_ram_base = 0x20000000

abbrev pub last_ram_base : ℕ
last_ram_base = 0x3FF00000

-- the least bytes of RAM
abbrev pub least_ram : ℕ
least_ram = 1024

-- RAM has a multiple of so many bytes
abbrev pub ram_unit : ℕ
ram_unit = 32

pub record ObeysRules (i : Image) : Type 0 where
  pub flash_aligned : i.flash_base % memory_limit ≡ 0
  pub flash_highest : i.flash_base ≤ last_flash_base
  pub flash_least : least_flash ≤ length i.flash
  pub flash_most : length i.flash ≤ memory_limit
  pub flash_words : length i.flash % 4 ≡ 0
  pub ram_aligned : i.ram_base % memory_limit ≡ 0
  pub ram_lowest : first_ram_base ≤ i.ram_base
  pub ram_highest : i.ram_base ≤ last_ram_base
  pub ram_least : least_ram ≤ i.ram_size
  pub ram_most : i.ram_size ≤ memory_limit
  pub ram_blocks : i.ram_size % ram_unit ≡ 0
  pub monitor : IsMonitor i
  pub regions : (i.regions ≡ 8) ⊎ (i.regions ≡ 16)
  pub stack : ((i.stack_base ≡ 0) × (i.stack_size ≡ 0)) ⊎ IsStack i
  pub count : length i.windows ≤ window_limit
  pub windows : AreWindows i.windows
