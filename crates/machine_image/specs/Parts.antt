-- What the bytes of an image file spell, whether or not they keep the rules.
use Rattle.std.specs.Prelude.{ℕ, zero, suc, ◌+◌, List, [], ◌∷◌, slice_range, Bool, ◌&&◌, nat_eq, if◌then◌else◌}
use Rattle.base_words.specs.Bytes.{read}
use Rattle.machine_devices.specs.declared.image.Image.{Image}
use Rattle.machine_devices.specs.declared.image.Window.{Window}

-- the number that stands at an offset
abbrev pub number : (bytes : List ℕ) → (at : ℕ) → ℕ
number bytes at = read 4 at bytes

-- the window whose fields begin at an offset, and where the next begins
abbrev pub window_at : List ℕ → (at : ℕ) → Window
window_at b at =
    record { name = slice_range b (at + 12) (at + 12 + number b (at + 8)); base = number b at; size = number b (at + 4) }

abbrev pub behind_window : List ℕ → (at : ℕ) → ℕ
behind_window b at = at + 12 + number b (at + 8)

-- so many windows from an offset on, and where the bytes behind them begin
unfoldable pub windows_from : List ℕ → (at count : ℕ) → List Window
windows_from b at zero = []
windows_from b at (suc k) = window_at b at ∷ windows_from b (behind_window b at) k

unfoldable pub behind_windows : List ℕ → (at count : ℕ) → ℕ
behind_windows b at zero = at
behind_windows b at (suc k) = behind_windows b (behind_window b at) k

-- version 2 tells the number of regions, and whether the image is closed; version 1 stands for 8 and for open
abbrev pub tells_protection : List ℕ → Bool
tells_protection b = nat_eq (number b 4) 2

unfoldable pub regions : List ℕ → ℕ
regions b = if tells_protection b then number b 40 else 8

unfoldable pub closed : List ℕ → Bool
closed b = tells_protection b && nat_eq (number b 44) 1

-- where the windows begin
unfoldable pub windows_place : List ℕ → ℕ
windows_place b = if tells_protection b then 48 else 40

-- where the flash bytes begin
abbrev pub flash_place : List ℕ → ℕ
flash_place b = behind_windows b (windows_place b) (number b 36)

unfoldable pub spelled_image : List ℕ → Image
spelled_image b = record {
  flash_base = number b 8;
  flash = slice_range b (flash_place b) (flash_place b + number b 12);
  ram_base = number b 16;
  ram_size = number b 20;
  monitor = number b 24;
  stack_base = number b 28;
  stack_size = number b 32;
  regions = regions b;
  closed = closed b;
  windows = windows_from b (windows_place b) (number b 36);
}
