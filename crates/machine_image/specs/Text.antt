-- The bytes of an image file, versions 1 and 2. Numbers are four bytes, the lowest first.
use Rattle.std.specs.Prelude.{◌≡◌, ℕ, ◌/◌, ◌%◌, ◌^◌, List, [], ◌∷◌, ◌++◌, length, codes, flat_map, Bool, not, ◌&&◌, nat_eq, if◌then◌else◌}
use Rattle.machine_devices.specs.declared.image.Image.{Image}
use Rattle.machine_devices.specs.declared.image.Window.{Window}
use Rattle.machine_devices.specs.Rules.{ObeysRules}

unfoldable pub word_bytes : ℕ → List ℕ
word_bytes n = n % 2 ^ 8 ∷ n / 2 ^ 8 % 2 ^ 8 ∷ n / 2 ^ 16 % 2 ^ 8 ∷ n / 2 ^ 24 % 2 ^ 8 ∷ []

abbrev pub magic : List ℕ
magic = codes "ACES"

-- version 1 is for 8 regions on an open board, and tells nothing of either
abbrev pub is_basic : (regions : ℕ) → (closed : Bool) → Bool
is_basic r c = not c && nat_eq r 8

unfoldable pub version : (regions : ℕ) → (closed : Bool) → ℕ
version r c = if is_basic r c then 1 else 2

-- what version 2 tells besides: the number of regions, and 1 where the image is closed
abbrev pub closed_word : Bool → ℕ
closed_word c = if c then 1 else 0

unfoldable pub protection_bytes : (regions : ℕ) → (closed : Bool) → List ℕ
protection_bytes r c = if is_basic r c then [] else word_bytes r ++ word_bytes (closed_word c)

-- a window: its base, its size, and its name behind the name's length
abbrev pub window_bytes : Window → List ℕ
window_bytes w = word_bytes w.base ++ word_bytes w.size ++ word_bytes (length w.name) ++ w.name

-- the memories: flash's base and length, RAM's base and size
abbrev pub memory_bytes : Image → List ℕ
memory_bytes i = word_bytes i.flash_base ++ word_bytes (length i.flash) ++ word_bytes i.ram_base ++ word_bytes i.ram_size

-- the places in RAM: the monitor's block, and the stack's base and size
abbrev pub place_bytes : Image → List ℕ
place_bytes i = word_bytes i.monitor ++ word_bytes i.stack_base ++ word_bytes i.stack_size

-- the fields that each version has; the last is the number of windows
abbrev pub header_bytes : Image → List ℕ
header_bytes i = magic ++ word_bytes (version i.regions i.closed) ++ memory_bytes i ++ place_bytes i ++ word_bytes (length i.windows)

unfoldable pub image_bytes : Image → List ℕ
image_bytes i = header_bytes i ++ protection_bytes i.regions i.closed ++ flat_map window_bytes i.windows ++ i.flash

-- the bytes are the text of this image
pub record IsText (i : Image) (bytes : List ℕ) : Type 0 where
  pub rules : ObeysRules i
  pub spelled : image_bytes i ≡ bytes

-- no bytes are the text of two images
abbrev pub TextsAreUnique : Type 0
TextsAreUnique = (i k : Image) (bytes : List ℕ) → IsText i bytes → IsText k bytes → i ≡ k

-- each image that obeys the rules has exactly one text
abbrev pub ImagesHaveOneText : Type 0
ImagesHaveOneText = (i : Image) → ObeysRules i → (bytes : List ℕ) × (IsText i bytes × ((other : List ℕ) → IsText i other → other ≡ bytes))
