-- Words of RAM by their addresses, and the right to access them.
use Rattle.std.specs.Prelude.{◌≡◌, ℕ, zero, suc, ◌+◌, ◌*◌, ◌%◌, ◌^◌, ◌<◌, ◌≤◌, List, [], ◌∷◌, true}
use Rattle.base_laws.specs.Lists.{EachBelow}
use Rattle.base_words.specs.Bytes.{read, cut}
use Rattle.machine_protection.specs.declared.region.Access.{Access}
use Rattle.machine_protection.specs.declared.region.Access.TheVariants.{Read, Write}
use Rattle.machine_devices.specs.declared.image.Image.{Image}
use Rattle.machine_model.specs.declared.state.ProtectionState.{ProtectionState}
use Rattle.machine_model.specs.State.{PermissionTest}
use Rattle.machine_model.specs.Exceptions.{frame_at}

-- so many words from an address on lie in RAM, and the first lies this many bytes behind RAM's base
pub record Words (i : Image) (address offset count : ℕ) : Type 0 where
  pub is_at : i.ram_base + offset ≡ address
  pub aligned : address % 4 ≡ 0
  pub fits : offset + 4 * count ≤ i.ram_size
  pub low : i.ram_base + i.ram_size ≤ 0x40000000

-- what they hold
unfoldable pub words_at : (count offset : ℕ) → (ram : List ℕ) → List ℕ
words_at zero o ram = []
words_at (suc n) o ram = read 4 o ram ∷ words_at n (o + 4) ram

-- numbers as memory keeps them, cut to words; and numbers that it keeps as they are
abbrev pub cut_words : List ℕ → List ℕ
cut_words [] = []
cut_words (v ∷ vs) = cut 4 v ∷ cut_words vs

abbrev pub AreWords : List ℕ → Type 0
AreWords vs = EachBelow (2 ^ 32) vs

-- each of them permits this access
abbrev pub May : PermissionTest → ProtectionState → Access → (address count : ℕ) → Type 0
May j p kind a n = (k : ℕ) → k < n → j p kind (a + 4 * k) ≡ true

-- words that may be read and written
pub record Room (j : PermissionTest) (i : Image) (p : ProtectionState) (address offset count : ℕ) : Type 0 where
  pub words : Words i address offset count
  pub reads : May j p Read address count
  pub writes : May j p Write address count

-- the eight words that an exception entry pushes below a stack pointer may be written
pub record ExceptionFrame (j : PermissionTest) (i : Image) (p : ProtectionState) (sp offset : ℕ) : Type 0 where
  pub words : Words i (frame_at sp) offset 8
  pub writes : May j p Write (frame_at sp) 8
