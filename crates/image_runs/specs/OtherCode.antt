-- An image whose compartments have other code: other bytes of flash behind its tables.
use Rattle.std.specs.Prelude.{◌≡◌, ℕ, ◌+◌, ◌<◌, List, length, slice_index}
use Rattle.machine_devices.specs.declared.image.Image.{Image}
use Rattle.monitor_model.specs.declared.tables.Tables.{Tables}
use Rattle.monitor_model.specs.Layout.{area_end}

-- the image with these bytes in flash
abbrev pub with_flash : Image → (flash : List ℕ) → Image
with_flash i flash = record i { flash = flash }

-- as many bytes as the image's flash has, and the same ones up to the end of these tables: page, records and initial words. All code of
-- compartments stands behind it
pub record KeepsTables (i : Image) (t : Tables) (flash : List ℕ) : Type 0 where
  pub as_long : length flash ≡ length i.flash
  pub same : (k : ℕ) → t.base + k < area_end t → slice_index flash k ≡ slice_index i.flash k

-- a statement holds of the image with any such bytes
abbrev pub WithOtherCode : (Image → Tables → Type 0) → Image → Tables → Type 0
WithOtherCode P i t = (flash : List ℕ) → KeepsTables i t flash → P (with_flash i flash) t
